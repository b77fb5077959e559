use Rattle.std.proofs.Common.{◌≡◌, ℕ, ◌*◌, List, ◌↔◌, true, ◌∙◌, arith, ap, sym}
use Rattle.std.specs.Prelude.{Contains}
use Rattle.std.specs.FinSet as set
use Rattle.std.proofs.lemmas.Result.{IfOk-weaker}
use Rattle.bit_rows.specs.BitRows.{row_of}
use Rattle.bit_rows.specs.Words.{Lists, is_one, kept}
use Rattle.bit_rows.proofs.RowSets.{row_within, row-seen}
use Rattle.bit_rows.proofs.Listed.{listed-members}
use Rattle.bit_rows.proofs.Rows.members.Goals as goal

pub overflow_mul-row : goal.overflow_mul-row
overflow_mul-row c = let w = c.self.inside in record { fits = omega (arith, c.self.invariant.few, row_within w.words.items w.stride w.rows w.bits c.args.self.now c.self.view_is w.words.len c.args.row c.requires c.self.invariant) }

pub list_words-requires-clause-within : goal.list_words-requires-clause-within
list_words-requires-clause-within c = let w = c.self.inside in omega (arith, c.deref.ensures.len, row_within w.words.items w.stride w.rows w.bits c.args.self.now c.self.view_is w.words.len c.args.row c.requires c.self.invariant)

pub list_words-requires-clause-few : goal.list_words-requires-clause-few
list_words-requires-clause-few c = let w = c.self.inside in omega (arith, c.self.invariant.few, row_within w.words.items w.stride w.rows w.bits c.args.self.now c.self.view_is w.words.len c.args.row c.requires c.self.invariant)

pub returns-clause-members : goal.returns-clause-members
returns-clause-members c =
    let w = c.self.inside in
    let same = ap (λ (words : List ℕ). kept words (c.args.row * w.stride) w.stride) c.deref.ensures.value
    ∙ row-seen w.words.items w.stride w.rows w.bits c.args.self.now c.self.view_is c.args.row c.requires in
    IfOk-weaker c.list_words.result (λ list. Lists (is_one c.deref.result.now (c.args.row * w.stride)) (64 * w.stride) list)
    (λ list. (bit : ℕ) → Contains list bit ↔ (set.contains (row_of c.args.self.now c.args.row) bit ≡ true))
    (λ list l bit. let is = listed-members c.deref.result.now (c.args.row * w.stride) w.stride list l bit in
    let at = ap (λ s. set.contains s bit) same in (λ i. sym at ∙ is.0 i, λ t. is.1 (at ∙ t)))
    c.list_words.ensures
