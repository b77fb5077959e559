use Rattle.std.proofs.Common.{◌≡◌, ℕ, ◌<◌, length}
use Rattle.air_colour.specs.Kept.{neighbours_left}
use Rattle.air_colour.specs.Worklist.{degree_in}
use Rattle.air_colour.proofs.worklist.degrees_of.Given as goal

abbrev pub invariant-loop-a : goal.invariant-loop-a
invariant-loop-a l = record {
  long : length l.degrees.items ≡ l.a;
  are : (x : ℕ) → x < l.a → degree_in l.degrees.items x ≡ neighbours_left l.edges l.left x;
}
