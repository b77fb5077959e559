use Rattle.std.proofs.Common.{ℕ, ◌<◌, length}
use Rattle.std.specs.Prelude.{Contains}
use Rattle.air_colour.specs.Worklist.{AreLow, IsLow}
use Rattle.air_colour.proofs.worklist.low_of.Given as goal

abbrev pub invariant-loop-x : goal.invariant-loop-x
invariant-loop-x l = record {
  low : AreLow l.k (length l.left) l.fixed l.degrees l.low.items;
  all : (y : ℕ) → y < l.x → IsLow l.k (length l.left) l.fixed l.degrees y → Contains l.low.items y;
}
