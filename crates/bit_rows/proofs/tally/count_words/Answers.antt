use Rattle.std.proofs.Common.{◌+◌, ◌-◌, ◌/◌, ◌*◌, arith}
use Rattle.bit_rows.proofs.Counting.{ones_from-join, ones_from-le}
use Rattle.bit_rows.proofs.RowSets.{len-kept}
use Rattle.bit_rows.proofs.tally.count_words.Goals as goal

pub overflow_add-result : goal.overflow_add-result
overflow_add-result c =
    let whole = 4 * (c.args.n / 4) in
    record {
      fits = omega (
        arith,
        c.count_blocks-first.ensures,
        c.count_plain.ensures,
        ones_from-le c.args.words.now c.args.at whole c.type_inv.words,
        ones_from-le c.args.words.now (c.args.at + whole) (c.args.n - whole) c.type_inv.words,
      );
    }

pub returns : goal.returns
returns c =
    let whole = 4 * (c.args.n / 4) in
    omega (
      arith,
      c.count_blocks-first.ensures,
      c.count_plain.ensures,
      ones_from-join c.args.words.now c.args.at whole (c.args.n - whole) c.args.n (omega arith),
      len-kept c.args.words.now c.args.at c.args.n c.type_inv.words,
    )
