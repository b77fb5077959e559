use Rattle.std.proofs.Common.{◌≡◌, bit_and, ◌↔◌}
use Rattle.bit_rows.specs.Words.{Nothing}
use Rattle.bit_rows.proofs.tally.meet_plain.Given as goal

abbrev pub invariant-loop-j : goal.invariant-loop-j
invariant-loop-j l = (l.common ≡ 0) ↔ Nothing bit_and l.words l.a l.b l.j
