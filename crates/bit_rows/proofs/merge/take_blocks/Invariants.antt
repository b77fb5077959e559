use Rattle.std.proofs.Common.{◌*◌}
use Rattle.bit_rows.specs.Words.{Merges, without}
use Rattle.bit_rows.proofs.merge.take_blocks.Given as goal

abbrev pub invariant-loop-block : goal.invariant-loop-block
invariant-loop-block l = Merges without l.initial.words l.words l.a l.b (4 * l.block)
