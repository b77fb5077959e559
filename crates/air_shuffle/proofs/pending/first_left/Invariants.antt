use Rattle.std.proofs.Common.{◌≡◌, map, take}
use Rattle.std.specs.Prelude.{not}
use Rattle.air_shuffle.specs.Moves.{Move, is_self}
use Rattle.air_shuffle.proofs.pending.first_left.Given as goal

abbrev pub invariant-loop-one : goal.invariant-loop-one
invariant-loop-one l = l.left.items ≡ map (λ (c : Move). not (is_self c)) (take l.one-index l.moves)
