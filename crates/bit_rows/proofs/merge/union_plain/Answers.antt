use Rattle.std.proofs.Common.{◌+◌, ◌≤◌, bit_or, arith}
use Rattle.bit_rows.specs.Words.{added}
use Rattle.bit_rows.proofs.Merging.{Merges-join, merged_word, Nothing-front, Nothing-back, Nothing-join, or_zero, one_place}
use Rattle.bit_rows.proofs.merge.union_plain.Goals as goal

pub loop-j-preserved : goal.loop-j-preserved
loop-j-preserved c =
    let k = c.loop-j.j in
    let n = c.args.n in
    let le : k + 1 ≤ n = omega arith in
    let old = c.args.words.now in
    let mid = c.loop-j.words in
    let a = c.args.a in
    let b = c.args.b in
    let inv = c.loop-j.invariant in
    let x = one_place added mid (a + k) (b + k) in
    let z = or_zero c.loop-j.fresh _ in
    record {
      merges = Merges-join bit_or old mid _ a b k 1 (k + 1) n c.requires.apart inv.merges (merged_word bit_or mid (a + k) (b + k) (omega arith)) (omega arith) le;
      fresh = (
        λ e. let p = z.0 e in Nothing-join added old mid a b k 1 (k + 1) n bit_or c.requires.apart inv.merges (omega arith) le (inv.fresh.0 p.0) (x.1 p.1),
        λ all. z.1 (inv.fresh.1 (Nothing-front added old a b k (k + 1) (omega arith) all), x.0 (Nothing-back added old mid a b k 1 (k + 1) n bit_or c.requires.apart inv.merges (omega arith) le all)),
      );
    }
