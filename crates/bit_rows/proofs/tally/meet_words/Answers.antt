use Rattle.std.proofs.Common.{◌*◌, ◌-◌, ◌/◌, bit_and, arith}
use Rattle.std.proofs.lemmas.Bool.{not-false, not_from_true, eqb-true, eq-eqb}
use Rattle.bit_rows.proofs.Merging.{Nothing-front, Nothing-two, Nothing-after, or_zero}
use Rattle.bit_rows.proofs.RowSets.{meet_none}
use Rattle.bit_rows.proofs.tally.meet_words.Goals as goal

pub returns : goal.returns
returns c =
    let n = c.args.n in
    let whole = 4 * (n / 4) in
    let w = c.args.words.now in
    let a = c.args.a in
    let b = c.args.b in
    let z = or_zero c.meet_blocks-first.result c.meet_plain-rest.result in
    let apart = meet_none w a b n c.type_inv.words in (
      λ e. let p = z.0 (eqb-true _ _ (not-false _ e)) in
          apart.0 (Nothing-two bit_and w a b whole (n - whole) n (omega arith) (c.meet_blocks-first.ensures.0 p.0) (c.meet_plain-rest.ensures.0 p.1)),
      λ empty. let none = apart.1 empty in not_from_true _ (eq-eqb _ _ (z.1 (
        c.meet_blocks-first.ensures.1 (Nothing-front bit_and w a b whole n (omega arith) none),
        c.meet_plain-rest.ensures.1 (Nothing-after bit_and w a b whole (n - whole) n (omega arith) none),
      ))),
    )
