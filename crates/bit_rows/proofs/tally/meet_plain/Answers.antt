use Rattle.std.proofs.Common.{◌+◌, bit_and, arith}
use Rattle.bit_rows.proofs.Merging.{Nothing-front, Nothing-two, Nothing-after, or_zero, one_place}
use Rattle.bit_rows.proofs.tally.meet_plain.Goals as goal

pub loop-j-preserved : goal.loop-j-preserved
loop-j-preserved c =
    let k = c.loop-j.j in
    let w = c.args.words.now in
    let a = c.args.a in
    let b = c.args.b in
    let x = one_place bit_and w (a + k) (b + k) in
    let z = or_zero c.loop-j.common _ in (
      λ e. let p = z.0 e in Nothing-two bit_and w a b k 1 (k + 1) (omega arith) (c.loop-j.invariant.0 p.0) (x.1 p.1),
      λ all. z.1 (c.loop-j.invariant.1 (Nothing-front bit_and w a b k (k + 1) (omega arith) all), x.0 (Nothing-after bit_and w a b k 1 (k + 1) (omega arith) all)),
    )
