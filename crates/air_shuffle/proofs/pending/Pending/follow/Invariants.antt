use Rattle.std.proofs.Common.{◌≡◌, ℕ, ◌<◌, true, List, length}
use Rattle.std.specs.Prelude.{IfSome}
use Rattle.air_shuffle.specs.Following.{IsAt}
use Rattle.air_shuffle.specs.Moves.{Move}
use Rattle.air_shuffle.specs.Waiting.{IsCounted, is_left_at, pending_in}
use Rattle.air_shuffle.proofs.pending.Pending.follow.Given as goal

abbrev pub invariant-loop-next : goal.invariant-loop-next
invariant-loop-next l = record {
  counted : IsCounted l.self;
  there : IfSome l.next (λ k. k < length l.self.moves.items);
  scratch : l.self.scratch ≡ l.initial.self.scratch;
  moves : l.self.moves ≡ l.initial.self.moves;
  left : (k : ℕ) → is_left_at l.self k ≡ true → is_left_at l.initial.self k ≡ true;
  at : (whole : List Move) (bound : ℕ) → IsAt whole bound l.initial.next l.initial.done l.initial.self → IsAt whole bound l.next l.done l.self;
}

abbrev pub decreases-loop-next : goal.decreases-loop-next
decreases-loop-next l = length (pending_in l.self)
