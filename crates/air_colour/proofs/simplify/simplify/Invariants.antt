use Rattle.std.proofs.Common.{ℕ, List, length, ◌++◌}
use Rattle.std.specs.Prelude.{false, slice_index_or}
use Rattle.air_colour.specs.Interference.{count}
use Rattle.air_colour.specs.Choosing.{Simplifies}
use Rattle.air_colour.specs.Kept.{graph_of, HasRoom}
use Rattle.air_colour.specs.Worklist.{AreDegrees, AreLow, HasLow, IsPassed}
use Rattle.air_colour.proofs.simplify.simplify.Given as goal

abbrev pub invariant-loop-a : goal.invariant-loop-a
invariant-loop-a l = record {
  room : HasRoom l.edges (length l.left) (length l.fixed);
  so_far : (rest : List ℕ) → Simplifies l.k (graph_of l.edges l.left l.fixed) rest
      → Simplifies l.k (graph_of l.edges l.initial.left l.fixed) (l.order.items ++ rest);
  degrees : AreDegrees l.edges l.left l.degrees.items;
  low : AreLow l.k (length l.left) l.fixed l.degrees.items l.low.items;
  has : HasLow l.k l.left l.fixed l.degrees.items l.low.items (λ x. ⊥);
  passed : IsPassed l.left l.fixed l.high;
}

abbrev pub decreases-loop-a : goal.decreases-loop-a
decreases-loop-a l = count (λ x. slice_index_or l.left x false) (length l.left)
