use Rattle.std.proofs.Common.{◌≡◌, ℕ, ◌<◌, false, List, length}
use Rattle.std.specs.Prelude.{None}
use Rattle.air_shuffle.specs.Following.{IsAt}
use Rattle.air_shuffle.specs.Moves.{Move}
use Rattle.air_shuffle.specs.Waiting.{IsCounted, is_left_at}
use Rattle.air_shuffle.proofs.order.cut_cycles.Given as goal

abbrev pub invariant-loop-place : goal.invariant-loop-place
invariant-loop-place l = record {
  counted : IsCounted l.pending;
  many : l.count ≡ length l.pending.moves.items;
  at : (whole : List Move) → IsAt whole l.count None l.initial.done l.initial.pending
      → IsAt whole l.count None l.done l.pending × ((k : ℕ) → k < l.place → is_left_at l.pending k ≡ false);
}
