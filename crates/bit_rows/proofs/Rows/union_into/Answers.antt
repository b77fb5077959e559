use Rattle.std.proofs.Common.{◌*◌, ◌∙◌, arith, ap, sym}
use Rattle.std.specs.FinSet as set
use Rattle.bit_rows.specs.Words.{kept}
use Rattle.bit_rows.specs.BitRows.{row_of}
use Rattle.std.proofs.lemmas.List.{with_items_is}
use Rattle.bit_rows.proofs.RowSets.{row_within, row-seen, row_changed, rows_apart, row_still, seen}
use Rattle.bit_rows.proofs.Rows.union_into.Goals as goal

pub overflow_mul-into : goal.overflow_mul-into
overflow_mul-into c = let w = c.self.inside in record { fits = omega (arith, c.self.invariant.few, row_within w.words.items w.stride w.rows w.bits c.args.self.now c.self.view_is w.words.len c.args.into c.requires.into c.self.invariant) }

pub overflow_mul-from : goal.overflow_mul-from
overflow_mul-from c = let w = c.self.inside in record { fits = omega (arith, c.self.invariant.few, row_within w.words.items w.stride w.rows w.bits c.args.self.now c.self.view_is w.words.len c.args.from c.requires.from c.self.invariant) }

pub union_words-requires-clause-to : goal.union_words-requires-clause-to
union_words-requires-clause-to c = let w = c.self.inside in omega (arith, c.deref_mut.ensures.len, row_within w.words.items w.stride w.rows w.bits c.args.self.now c.self.view_is w.words.len c.args.into c.requires.into c.self.invariant)

pub union_words-requires-clause-from : goal.union_words-requires-clause-from
union_words-requires-clause-from c = let w = c.self.inside in omega (arith, c.deref_mut.ensures.len, row_within w.words.items w.stride w.rows w.bits c.args.self.now c.self.view_is w.words.len c.args.from c.requires.from c.self.invariant)

pub union_words-requires-clause-apart : goal.union_words-requires-clause-apart
union_words-requires-clause-apart c = rows_apart c.args.into c.args.from c.self.inside.stride

pub returns-clause-union : goal.returns-clause-union
returns-clause-union c =
    let w = c.self.inside in
    let v = c.args.self.now in
    let others = c.union_words.ensures.others in
    ap (λ l. seen l w.stride w.rows w.bits) (with_items_is w.words c.union_words.new.words (c.union_words.auto.words ∙ c.deref_mut.ensures.len))
    ∙ row_changed w.words.items w.stride w.rows w.bits v c.self.view_is c.union_words.new.words c.args.into (set.union (row_of v c.args.into) (row_of v c.args.from)) c.requires.into
    (c.union_words.ensures.union
    ∙ ap (λ words. set.union (kept words (c.args.into * w.stride) w.stride) (kept words (c.args.from * w.stride) w.stride)) c.deref_mut.ensures.value
    ∙ ap (λ s. set.union s (kept w.words.items (c.args.from * w.stride) w.stride)) (row-seen w.words.items w.stride w.rows w.bits v c.self.view_is c.args.into c.requires.into)
    ∙ ap (λ s. set.union (row_of v c.args.into) s) (row-seen w.words.items w.stride w.rows w.bits v c.self.view_is c.args.from c.requires.from))
    (rw c.deref_mut.ensures.value at others)

pub returns-clause-grew : goal.returns-clause-grew
returns-clause-grew c =
    let w = c.self.inside in
    let v = c.args.self.now in
    let others = c.union_words.ensures.others in
    let still = row_still w.words.items w.stride w.rows w.bits v c.self.view_is c.union_words.new.words c.args.into c.requires.into (rw c.deref_mut.ensures.value at others) in
    let same = ap (λ words. kept words (c.args.into * w.stride) w.stride) c.deref_mut.ensures.value in
    let made = ap (λ l. seen l w.stride w.rows w.bits) (with_items_is w.words c.union_words.new.words (c.union_words.auto.words ∙ c.deref_mut.ensures.len)) in
    (λ e. made ∙ still.0 (c.union_words.ensures.grew.0 e ∙ same), λ e. c.union_words.ensures.grew.1 (still.1 (sym made ∙ e) ∙ sym same))
