use Rattle.std.proofs.Common.{◌+◌, arith, sym, refl}
use Rattle.bit_rows.proofs.Counting.{ones_from-join, ones_from-none, ones_from-one, ones_from-le}
use Rattle.bit_rows.proofs.tally.count_plain.Goals as goal

pub loop-j-init : goal.loop-j-init
loop-j-init c = sym (ones_from-none c.args.words.now c.args.at)

pub overflow_add-total : goal.overflow_add-total
overflow_add-total c =
    record {
      fits = omega (
        arith,
        c.loop-j.invariant,
        c.from-total.ensures,
        ones_from-le c.args.words.now c.args.at c.loop-j.j c.type_inv.words,
        ones_from-one c.args.words.now (c.args.at + c.loop-j.j),
        ones_from-le c.args.words.now (c.args.at + c.loop-j.j) 1 c.type_inv.words,
      );
    }

pub loop-j-preserved : goal.loop-j-preserved
loop-j-preserved c =
    omega (
      arith,
      c.loop-j.invariant,
      c.from-total.ensures,
      ones_from-one c.args.words.now (c.args.at + c.loop-j.j),
      ones_from-join c.args.words.now c.args.at c.loop-j.j 1 (c.loop-j.j + 1) refl,
    )
