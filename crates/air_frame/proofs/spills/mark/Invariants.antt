use Rattle.std.proofs.Common.{◌≡◌, ℕ, false, get_or, length}
use Rattle.air_frame.proofs.spills.mark.Given as goal

abbrev pub invariant-loop : goal.invariant-loop
invariant-loop l =
    (length l.named ≡ l.counter) × ((k : ℕ) → get_or l.named k false ≡ get_or l.fn.named k false)
