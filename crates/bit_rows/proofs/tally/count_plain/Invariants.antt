use Rattle.std.proofs.Common.{◌≡◌}
use Rattle.bit_rows.specs.Words.{ones_from}
use Rattle.bit_rows.proofs.tally.count_plain.Given as goal

abbrev pub invariant-loop-j : goal.invariant-loop-j
invariant-loop-j l = l.total ≡ ones_from l.words l.at l.j
