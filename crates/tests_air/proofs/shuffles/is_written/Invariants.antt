use Rattle.std.proofs.Common.{◌≡◌, take, false}
use Rattle.std.specs.List.{list_any}
use Rattle.air_shuffle.specs.Moves.{writes}
use Rattle.tests_air.proofs.shuffles.is_written.Given as goal

abbrev pub invariant-loop-one : goal.invariant-loop-one
invariant-loop-one l = list_any (writes l.home) (take l.one-index l.moves) ≡ false
