use Rattle.std.proofs.Common.{◌*◌, ◌∙◌, arith, ap}
use Rattle.std.specs.FinSet as set
use Rattle.bit_rows.specs.Words.{kept}
use Rattle.bit_rows.proofs.RowSets.{row_within, row-seen}
use Rattle.bit_rows.proofs.Rows.count.Goals as goal

pub overflow_mul-row : goal.overflow_mul-row
overflow_mul-row c = let w = c.self.inside in record { fits = omega (arith, c.self.invariant.few, row_within w.words.items w.stride w.rows w.bits c.args.self.now c.self.view_is w.words.len c.args.row c.requires c.self.invariant) }

pub count_words-requires-clause-within : goal.count_words-requires-clause-within
count_words-requires-clause-within c = let w = c.self.inside in omega (arith, c.deref.ensures.len, row_within w.words.items w.stride w.rows w.bits c.args.self.now c.self.view_is w.words.len c.args.row c.requires c.self.invariant)

pub count_words-requires-clause-few : goal.count_words-requires-clause-few
count_words-requires-clause-few c = let w = c.self.inside in omega (arith, c.self.invariant.few, row_within w.words.items w.stride w.rows w.bits c.args.self.now c.self.view_is w.words.len c.args.row c.requires c.self.invariant)

pub returns : goal.returns
returns c =
    let w = c.self.inside in
    c.count_words.ensures ∙ ap (λ words. set.len (kept words (c.args.row * w.stride) w.stride)) c.deref.ensures.value
    ∙ ap set.len (row-seen w.words.items w.stride w.rows w.bits c.args.self.now c.self.view_is c.args.row c.requires)
