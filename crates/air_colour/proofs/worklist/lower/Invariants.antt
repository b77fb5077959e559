use Rattle.std.proofs.Common.{◌≡◌, ℕ, ◌+◌, ◌≤◌, ◌⊎◌, length, take}
use Rattle.std.specs.Prelude.{Contains}
use Rattle.air_graph.specs.Walk.{in_list}
use Rattle.air_colour.specs.Interference.{one}
use Rattle.air_colour.specs.Worklist.{IsLow, degree_in}
use Rattle.air_colour.proofs.worklist.lower.Given as goal

abbrev pub invariant-loop-y : goal.invariant-loop-y
invariant-loop-y l = record {
  long : length l.degrees ≡ length l.initial.degrees;
  lower : (x : ℕ) → degree_in l.degrees x + one (in_list (take l.y-index l.near) x) ≡ degree_in l.initial.degrees x;
  kept : (x : ℕ) → Contains l.initial.low.items x → Contains l.low.items x;
  fresh : (x : ℕ) → IsLow l.k (length l.initial.degrees) l.fixed l.degrees x → l.k ≤ degree_in l.initial.degrees x → Contains l.low.items x;
  only : (x : ℕ) → Contains l.low.items x → Contains l.initial.low.items x ⊎ IsLow l.k (length l.initial.degrees) l.fixed l.degrees x;
}
