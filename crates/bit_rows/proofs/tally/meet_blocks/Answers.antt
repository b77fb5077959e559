use Rattle.std.proofs.Common.{◌≡◌, ◌+◌, ◌*◌, bit_or, bit_and, arith, sym, ◌∙◌, refl}
use Rattle.std.proofs.lemmas.Simd.{length-zip2}
use Rattle.bit_rows.proofs.Merging.{Nothing-front, Nothing-two, Nothing-after, zero_lanes, fold-or}
use Rattle.bit_rows.proofs.tally.meet_blocks.Goals as goal

pub loop-block-preserved : goal.loop-block-preserved
loop-block-preserved c =
    let k = 4 * c.loop-block.block in
    let t = 4 * (c.loop-block.block + 1) in
    let e : k + 4 ≡ t = omega arith in
    let w = c.args.words.now in
    let a = c.args.a in
    let b = c.args.b in
    let inv = c.loop-block.invariant in
    let ens = c.meet_block-common.ensures in
    let z = zero_lanes c.loop-block.common c.meet_block-common.result 4 inv.lanes ens.lanes in
    record {
      lanes = length-zip2 bit_or c.loop-block.common c.meet_block-common.result (inv.lanes ∙ sym ens.lanes) ∙ inv.lanes;
      none = λ all. z.1 (inv.none (Nothing-front bit_and w a b k t (omega arith) all), λ j h. ens.common j h ∙ Nothing-after bit_and w a b k 4 t e all j h);
      only = λ zero. let p = z.0 zero in Nothing-two bit_and w a b k 4 t e (inv.only p.0) (λ j h. sym (ens.common j h) ∙ p.1 j h);
    }

pub returns : goal.returns
returns c =
    let inv = c.loop-block.invariant in
    let f = fold-or 0 c.loop-block.common in (
      λ e. Nothing-front bit_and c.args.words.now c.args.a c.args.b (4 * c.args.blocks) (4 * c.loop-block.block) (omega arith) (inv.only (λ j h. (f.0 e).1 j (omega arith))),
      λ none. f.1 (refl, λ j h. inv.none (Nothing-front bit_and c.args.words.now c.args.a c.args.b (4 * c.loop-block.block) (4 * c.args.blocks) (omega arith) none) j (omega arith)),
    )
