use Rattle.std.proofs.Common.{◌≡◌, ◌*◌}
use Rattle.bit_rows.specs.Words.{ones_from}
use Rattle.bit_rows.proofs.tally.count_blocks.Given as goal

abbrev pub invariant-loop-block : goal.invariant-loop-block
invariant-loop-block l = l.total ≡ ones_from l.words l.at (4 * l.block)
