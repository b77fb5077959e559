use Rattle.std.proofs.Common.{◌*◌, ◌&&◌, ◌∙◌, arith, ap, sym}
use Rattle.std.proofs.lemmas.Bool.{lt-ltb}
use Rattle.std.specs.FinSet as set
use Rattle.bit_rows.specs.Words.{is_one}
use Rattle.bit_rows.proofs.RowSets.{row_within, bit_ok, row-seen, contains-kept}
use Rattle.bit_rows.proofs.Rows.has.Goals as goal

pub overflow_mul-row : goal.overflow_mul-row
overflow_mul-row c = let w = c.self.inside in record { fits = omega (arith, c.self.invariant.few, row_within w.words.items w.stride w.rows w.bits c.args.self.now c.self.view_is w.words.len c.args.row c.requires.row c.self.invariant) }

pub has_bit-requires : goal.has_bit-requires
has_bit-requires c =
    let w = c.self.inside in
    omega (arith, c.deref.ensures.len, c.self.invariant.room, bit_ok w.words.items w.stride w.rows w.bits c.args.self.now c.self.view_is c.args.bit c.requires.bit, row_within w.words.items w.stride w.rows w.bits c.args.self.now c.self.view_is w.words.len c.args.row c.requires.row c.self.invariant)

pub returns : goal.returns
returns c =
    let w = c.self.inside in
    let bit = bit_ok w.words.items w.stride w.rows w.bits c.args.self.now c.self.view_is c.args.bit c.requires.bit in
    c.has_bit.ensures ∙ ap (λ words. is_one words (c.args.row * w.stride) c.args.bit) c.deref.ensures.value
    ∙ sym (ap (λ s. set.contains s c.args.bit) (sym (row-seen w.words.items w.stride w.rows w.bits c.args.self.now c.self.view_is c.args.row c.requires.row))
    ∙ contains-kept w.words.items (c.args.row * w.stride) w.stride c.args.bit
    ∙ ap (λ t. t && is_one w.words.items (c.args.row * w.stride) c.args.bit) (lt-ltb c.args.bit (64 * w.stride) (omega (arith, bit, c.self.invariant.room))))
