use Rattle.std.proofs.Common.{◌*◌, ◌∙◌, arith, ap}
use Rattle.std.specs.FinSet as set
use Rattle.bit_rows.specs.Words.{kept}
use Rattle.bit_rows.specs.BitRows.{row_of}
use Rattle.std.proofs.lemmas.List.{with_items_is}
use Rattle.bit_rows.proofs.RowSets.{row_within, row-seen, row_changed, rows_apart, seen}
use Rattle.bit_rows.proofs.Rows.take_away.Goals as goal

pub overflow_mul-from : goal.overflow_mul-from
overflow_mul-from c = let w = c.self.inside in record { fits = omega (arith, c.self.invariant.few, row_within w.words.items w.stride w.rows w.bits c.args.self.now c.self.view_is w.words.len c.args.from c.requires.from c.self.invariant) }

pub overflow_mul-what : goal.overflow_mul-what
overflow_mul-what c = let w = c.self.inside in record { fits = omega (arith, c.self.invariant.few, row_within w.words.items w.stride w.rows w.bits c.args.self.now c.self.view_is w.words.len c.args.what c.requires.what c.self.invariant) }

pub take_words-requires-clause-to : goal.take_words-requires-clause-to
take_words-requires-clause-to c = let w = c.self.inside in omega (arith, c.deref_mut.ensures.len, row_within w.words.items w.stride w.rows w.bits c.args.self.now c.self.view_is w.words.len c.args.from c.requires.from c.self.invariant)

pub take_words-requires-clause-from : goal.take_words-requires-clause-from
take_words-requires-clause-from c = let w = c.self.inside in omega (arith, c.deref_mut.ensures.len, row_within w.words.items w.stride w.rows w.bits c.args.self.now c.self.view_is w.words.len c.args.what c.requires.what c.self.invariant)

pub take_words-requires-clause-apart : goal.take_words-requires-clause-apart
take_words-requires-clause-apart c = rows_apart c.args.from c.args.what c.self.inside.stride

pub returns : goal.returns
returns c =
    let w = c.self.inside in
    let v = c.args.self.now in
    let others = c.take_words.ensures.others in
    ap (λ l. seen l w.stride w.rows w.bits) (with_items_is w.words c.take_words.new.words (c.take_words.auto.words ∙ c.deref_mut.ensures.len))
    ∙ row_changed w.words.items w.stride w.rows w.bits v c.self.view_is c.take_words.new.words c.args.from (set.difference (row_of v c.args.from) (row_of v c.args.what)) c.requires.from
    (c.take_words.ensures.difference
    ∙ ap (λ words. set.difference (kept words (c.args.from * w.stride) w.stride) (kept words (c.args.what * w.stride) w.stride)) c.deref_mut.ensures.value
    ∙ ap (λ s. set.difference s (kept w.words.items (c.args.what * w.stride) w.stride)) (row-seen w.words.items w.stride w.rows w.bits v c.self.view_is c.args.from c.requires.from)
    ∙ ap (λ s. set.difference (row_of v c.args.from) s) (row-seen w.words.items w.stride w.rows w.bits v c.self.view_is c.args.what c.requires.what))
    (rw c.deref_mut.ensures.value at others)
