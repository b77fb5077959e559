use Rattle.std.proofs.Common.{List, length}
use Rattle.std.specs.List.{flat_map}
use Rattle.b3_ir.specs.Procedure.{values_from}
use Rattle.b3_ir.specs.declared.value.Value.{Value}
use Rattle.air_fold.specs.Foldable.{uses_by}
use Rattle.air_fold.specs.Tallied.{block_uses, with_all}
use Rattle.air_fold.proofs.Walks.{IsWalked}
use Rattle.air_fold.proofs.uses.note_block.Given as goal

abbrev pub invariant-loop-at : goal.invariant-loop-at
invariant-loop-at l =
    IsWalked l.p l.block (λ (vs : List Value). with_all l.index l.pointers l.tallies (flat_map (uses_by l.block) vs))
    (with_all l.index l.pointers l.initial.tallies (block_uses l.p.procedure l.block)) l.at

abbrev pub decreases-loop-at : goal.decreases-loop-at
decreases-loop-at l = length (values_from l.p l.block l.at)
