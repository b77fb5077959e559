use Rattle.std.proofs.Common.{ℕ, ◌<◌, ◌↔◌}
use Rattle.std.specs.Prelude.{Contains}
use Rattle.air_colour.proofs.moves.numbers.Given as goal

abbrev pub invariant-loop-j : goal.invariant-loop-j
invariant-loop-j l = (x : ℕ) → Contains l.list.items x ↔ (x < l.j)
