use Rattle.std.proofs.Common.{◌≡◌, ◌+◌, ◌*◌, arith, sym}
use Rattle.bit_rows.proofs.Counting.{ones_from-join, ones_from-none, ones_from-le}
use Rattle.bit_rows.proofs.tally.count_blocks.Goals as goal

pub loop-block-init : goal.loop-block-init
loop-block-init c = sym (ones_from-none c.args.words.now c.args.at)

pub overflow_add-total : goal.overflow_add-total
overflow_add-total c =
    record {
      fits = omega (
        arith,
        c.loop-block.invariant,
        c.count_block-total.ensures,
        ones_from-le c.args.words.now c.args.at (4 * c.loop-block.block) c.type_inv.words,
        ones_from-le c.args.words.now (c.args.at + 4 * c.loop-block.block) 4 c.type_inv.words,
      );
    }

pub loop-block-preserved : goal.loop-block-preserved
loop-block-preserved c =
    let e : 4 * c.loop-block.block + 4 ≡ 4 * (c.loop-block.block + 1) = omega arith in
    omega (
      arith,
      c.loop-block.invariant,
      c.count_block-total.ensures,
      ones_from-join c.args.words.now c.args.at (4 * c.loop-block.block) 4 (4 * (c.loop-block.block + 1)) e,
    )
