use Rattle.std.proofs.Common.{◌≡◌, length}
use Rattle.a64_layout.proofs.places.zero_positions.Given as goal

abbrev pub invariant-loop : goal.invariant-loop
invariant-loop l = length l.positions ≡ l.counter
