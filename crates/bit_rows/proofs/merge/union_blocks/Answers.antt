use Rattle.std.proofs.Common.{◌≡◌, ◌+◌, ◌*◌, ◌≤◌, bit_or, arith, sym, ◌∙◌, refl}
use Rattle.bit_rows.specs.Words.{added}
use Rattle.bit_rows.proofs.Merging.{Merges-join, Nothing-front, Nothing-back, Nothing-join, zero_lanes, fold-or}
use Rattle.std.proofs.lemmas.Simd.{length-zip2}
use Rattle.bit_rows.proofs.merge.union_blocks.Goals as goal

pub loop-block-preserved : goal.loop-block-preserved
loop-block-preserved c =
    let k = 4 * c.loop-block.block in
    let t = 4 * (c.loop-block.block + 1) in
    let n = 4 * c.args.blocks in
    let e : k + 4 ≡ t = omega arith in
    let le : t ≤ n = omega arith in
    let old = c.args.words.now in
    let mid = c.loop-block.words in
    let a = c.args.a in
    let b = c.args.b in
    let inv = c.loop-block.invariant in
    let ens = c.union_block-fresh.ensures in
    let z = zero_lanes c.loop-block.fresh c.union_block-fresh.result 4 inv.lanes ens.lanes in
    record {
      merges = Merges-join bit_or old mid c.union_block-fresh.new.words a b k 4 t n c.requires.apart inv.merges ens.merges e le;
      lanes = length-zip2 bit_or c.loop-block.fresh c.union_block-fresh.result (inv.lanes ∙ sym ens.lanes) ∙ inv.lanes;
      none = λ all. z.1 (inv.none (Nothing-front added old a b k t (omega arith) all), λ j h. ens.fresh j h ∙ Nothing-back added old mid a b k 4 t n bit_or c.requires.apart inv.merges e le all j h);
      only = λ zero. let p = z.0 zero in Nothing-join added old mid a b k 4 t n bit_or c.requires.apart inv.merges e le (inv.only p.0) (λ j h. sym (ens.fresh j h) ∙ p.1 j h);
    }

pub returns-clause-fresh : goal.returns-clause-fresh
returns-clause-fresh c =
    let inv = c.loop-block.invariant in
    let f = fold-or 0 c.loop-block.fresh in (
      λ e. Nothing-front added c.args.words.now c.args.a c.args.b (4 * c.args.blocks) (4 * c.loop-block.block) (omega arith) (inv.only (λ j h. (f.0 e).1 j (omega arith))),
      λ none. f.1 (refl, λ j h. inv.none (Nothing-front added c.args.words.now c.args.a c.args.b (4 * c.loop-block.block) (4 * c.args.blocks) (omega arith) none) j (omega arith)),
    )
