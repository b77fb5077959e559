use Rattle.std.proofs.Common.{◌≡◌, ◌*◌, ◌∙◌, arith, ap, sym}
use Rattle.std.specs.FinSet as set
use Rattle.bit_rows.specs.Words.{kept}
use Rattle.bit_rows.specs.BitRows.{row_of}
use Rattle.bit_rows.proofs.RowSets.{row_within, row-seen}
use Rattle.bit_rows.proofs.Rows.meets.Goals as goal

pub overflow_mul-a : goal.overflow_mul-a
overflow_mul-a c = let w = c.self.inside in record { fits = omega (arith, c.self.invariant.few, row_within w.words.items w.stride w.rows w.bits c.args.self.now c.self.view_is w.words.len c.args.a c.requires.a c.self.invariant) }

pub overflow_mul-b : goal.overflow_mul-b
overflow_mul-b c = let w = c.self.inside in record { fits = omega (arith, c.self.invariant.few, row_within w.words.items w.stride w.rows w.bits c.args.self.now c.self.view_is w.words.len c.args.b c.requires.b c.self.invariant) }

pub meet_words-requires-clause-first : goal.meet_words-requires-clause-first
meet_words-requires-clause-first c = let w = c.self.inside in omega (arith, c.deref.ensures.len, row_within w.words.items w.stride w.rows w.bits c.args.self.now c.self.view_is w.words.len c.args.a c.requires.a c.self.invariant)

pub meet_words-requires-clause-second : goal.meet_words-requires-clause-second
meet_words-requires-clause-second c = let w = c.self.inside in omega (arith, c.deref.ensures.len, row_within w.words.items w.stride w.rows w.bits c.args.self.now c.self.view_is w.words.len c.args.b c.requires.b c.self.invariant)

pub returns : goal.returns
returns c =
    let w = c.self.inside in
    let v = c.args.self.now in
    let same : set.intersection (kept c.deref.result.now (c.args.a * w.stride) w.stride) (kept c.deref.result.now (c.args.b * w.stride) w.stride) ≡ set.intersection (row_of v c.args.a) (row_of v c.args.b) =
    ap (λ words. set.intersection (kept words (c.args.a * w.stride) w.stride) (kept words (c.args.b * w.stride) w.stride)) c.deref.ensures.value
    ∙ ap (λ s. set.intersection s (kept w.words.items (c.args.b * w.stride) w.stride)) (row-seen w.words.items w.stride w.rows w.bits v c.self.view_is c.args.a c.requires.a)
    ∙ ap (λ s. set.intersection (row_of v c.args.a) s) (row-seen w.words.items w.stride w.rows w.bits v c.self.view_is c.args.b c.requires.b) in
    (λ e. sym same ∙ c.meet_words.ensures.0 e, λ e. c.meet_words.ensures.1 (same ∙ e))
