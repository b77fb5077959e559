use Rattle.std.proofs.Common.{◌+◌, ◌*◌, arith}
use Rattle.bit_rows.specs.Words.{without}
use Rattle.bit_rows.proofs.Merging.{Merges-join}
use Rattle.bit_rows.proofs.merge.take_blocks.Goals as goal

pub loop-block-preserved : goal.loop-block-preserved
loop-block-preserved c =
    Merges-join without c.args.words.now c.loop-block.words c.take_block.new.words c.args.a c.args.b (4 * c.loop-block.block) 4 (4 * (c.loop-block.block + 1)) (4 * c.args.blocks)
    c.requires.apart c.loop-block.invariant c.take_block.ensures (omega arith) (omega arith)
