use Rattle.std.proofs.Common.{◌∙◌, arith, ap}
use Rattle.std.proofs.lemmas.List.{with_items_is}
use Rattle.bit_rows.proofs.RowSets.{row_within, bit_ok, row_without_bit, seen}
use Rattle.bit_rows.proofs.Rows.clear.Goals as goal

pub overflow_mul-row : goal.overflow_mul-row
overflow_mul-row c = let w = c.self.inside in record { fits = omega (arith, c.self.invariant.few, row_within w.words.items w.stride w.rows w.bits c.args.self.now c.self.view_is w.words.len c.args.row c.requires.row c.self.invariant) }

pub clear_bit-requires : goal.clear_bit-requires
clear_bit-requires c =
    let w = c.self.inside in
    omega (arith, c.deref_mut.ensures.len, c.self.invariant.room, bit_ok w.words.items w.stride w.rows w.bits c.args.self.now c.self.view_is c.args.bit c.requires.bit, row_within w.words.items w.stride w.rows w.bits c.args.self.now c.self.view_is w.words.len c.args.row c.requires.row c.self.invariant)

pub returns : goal.returns
returns c =
    let w = c.self.inside in
    let bits = c.clear_bit.ensures.bits in
    let others = c.clear_bit.ensures.others in
    ap (λ l. seen l w.stride w.rows w.bits) (with_items_is w.words c.clear_bit.new.words (c.clear_bit.auto.words ∙ c.deref_mut.ensures.len))
    ∙ row_without_bit w.words.items w.stride w.rows w.bits c.args.self.now c.self.view_is c.clear_bit.new.words c.args.row c.args.bit c.requires.row c.requires.bit c.self.invariant.room
    (rw c.deref_mut.ensures.value at bits) (rw c.deref_mut.ensures.value at others)
