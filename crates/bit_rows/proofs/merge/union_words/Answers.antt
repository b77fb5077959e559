use Rattle.std.proofs.Common.{◌*◌, ◌-◌, ◌/◌, bit_or, arith}
use Rattle.std.proofs.lemmas.Bool.{not-false, not_from_true, eqb-true, eq-eqb}
use Rattle.bit_rows.specs.Words.{Merges, added}
use Rattle.bit_rows.proofs.Merging.{Merges-join, Nothing-front, Nothing-back, Nothing-join, or_zero}
use Rattle.bit_rows.proofs.RowSets.{kept-union, union_still}
use Rattle.bit_rows.proofs.merge.union_words.Goals as goal

merged : (c : goal.After-slice_known-3-1) → Merges bit_or c.args.words.now c.union_plain-rest.new.words c.args.a c.args.b c.args.n
merged c =
    let whole = 4 * (c.args.n / 4) in
    Merges-join bit_or c.args.words.now c.union_blocks-first.new.words c.union_plain-rest.new.words c.args.a c.args.b whole (c.args.n - whole) c.args.n c.args.n
    c.requires.apart c.union_blocks-first.ensures.merges c.union_plain-rest.ensures.merges (omega arith) (omega arith)

pub returns-clause-union : goal.returns-clause-union
returns-clause-union c = kept-union c.args.words.now c.union_plain-rest.new.words c.args.a c.args.b c.args.n (merged c)

pub returns-clause-others : goal.returns-clause-others
returns-clause-others c = let m = merged c in record { below = m.below; above = m.above }

pub returns-clause-grew : goal.returns-clause-grew
returns-clause-grew c =
    let n = c.args.n in
    let whole = 4 * (n / 4) in
    let old = c.args.words.now in
    let mid = c.union_blocks-first.new.words in
    let a = c.args.a in
    let b = c.args.b in
    let first = c.union_blocks-first.ensures in
    let rest = c.union_plain-rest.ensures in
    let z = or_zero c.union_blocks-first.result c.union_plain-rest.result in
    let still = union_still old c.union_plain-rest.new.words a b n c.type_inv.words (merged c) in (
      λ e. let p = z.0 (eqb-true _ _ (not-false _ e)) in
          still.0 (Nothing-join added old mid a b whole (n - whole) n n bit_or c.requires.apart first.merges (omega arith) (omega arith) (first.fresh.0 p.0) (rest.fresh.0 p.1)),
      λ same. let none = still.1 same in not_from_true _ (eq-eqb _ _ (z.1 (
        first.fresh.1 (Nothing-front added old a b whole n (omega arith) none),
        rest.fresh.1 (Nothing-back added old mid a b whole (n - whole) n n bit_or c.requires.apart first.merges (omega arith) (omega arith) none),
      ))),
    )
