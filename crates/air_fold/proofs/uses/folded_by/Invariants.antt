use Rattle.std.proofs.Common.{◌≡◌, length, map, take}
use Rattle.air_fold.specs.Foldable.{is_folded_by, uses}
use Rattle.air_fold.specs.Values.{ids_of, index_of}
use Rattle.air_fold.specs.Tallied.{none}
use Rattle.air_fold.proofs.Tallies.{AreTallied}
use Rattle.air_fold.proofs.uses.folded_by.Given as goal

abbrev pub invariant-loop-block : goal.invariant-loop-block
invariant-loop-block l = AreTallied l.index l.pointers l.p.procedure (none (length l.index.known)) l.tallies l.block

abbrev pub invariant-loop-place : goal.invariant-loop-place
invariant-loop-place l = l.folds ≡ map (is_folded_by (index_of l.p.procedure) l.pointers (uses l.p.procedure)) (take l.place (ids_of l.p.procedure))
