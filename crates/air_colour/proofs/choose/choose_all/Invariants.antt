use Rattle.std.proofs.Common.{◌≡◌, ℕ, ◌<◌, ◌≤◌, length, List, Bool, slice_index_or}
use Rattle.air_colour.specs.Choosing.{Simplifies}
use Rattle.air_colour.specs.Kept.{graph_of, given_in, IsStart}
use Rattle.air_colour.specs.Chosen.{IsChosenFrom}
use Rattle.air_colour.proofs.choose.choose_all.Given as goal

abbrev pub invariant-loop-i : goal.invariant-loop-i
invariant-loop-i l = record {
  long : length l.bars ≡ length l.initial.bars;
  chosen : (left fixed : List Bool) → length left ≡ length l.initial.given → Simplifies (length l.initial.bars) (graph_of l.edges left fixed) l.order
      → IsStart (graph_of l.edges left fixed) (given_in l.initial.given)
      → IsChosenFrom (length l.initial.bars) (graph_of l.edges left fixed) (given_in l.given) l.order l.i;
  others : (x : ℕ) → ((j : ℕ) → l.i ≤ j → j < length l.order → slice_index_or l.order j 0 ≡ x → ⊥) → given_in l.given x ≡ given_in l.initial.given x;
}
