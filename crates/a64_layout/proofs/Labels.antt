-- Where labels and marks stand.
use Rattle.std.proofs.Common.{◌≡◌, ℕ, ◌^◌, ◌<◌, ◌≤◌, true, Some, List, length, get_or, refl, ap, ◌∙◌, arith}
use Rattle.std.specs.Prelude.{slice_get}
use Rattle.std.specs.List.{position_or_len}
use Rattle.std.proofs.lemmas.Bool.Decides.{nat_tests}
use Rattle.std.proofs.lemmas.Option.{slice_get-get_or}
use Rattle.std.proofs.lemmas.List.Sums.{passes_at_first}
use Rattle.a64_layout.specs.Layout.{Set, place, is_label, position_of, label_place}
use Rattle.a64_layout.specs.Text.{is_mark, mark_position_of, label_count, IsWellLabelled}
use Rattle.a64_inst.specs.declared.item.Item.{Item}
use Rattle.a64_inst.specs.declared.item.Item.TheVariants.{Plain, Jump, If, IfZero, IfBit, Label, Mark}
use Rattle.a64_layout.proofs.Least.{place-zero, place_mono, stretches}

is_that_label : (label : ℕ) (item : Item) → is_label label item ≡ true → item ≡ Label label
is_that_label label (Label number) e = let same : number ≡ label = grind (arith, nat_tests) in ap (λ n. Label n) same
is_that_label label (Plain inst) e = cc
is_that_label label (Jump to) e = cc
is_that_label label (If cond to) e = cc
is_that_label label (IfZero width nonzero reg to) e = cc
is_that_label label (IfBit nonzero reg at to) e = cc
is_that_label label (Mark mark) e = cc

is_that_mark : (mark : ℕ) (item : Item) → is_mark mark item ≡ true → item ≡ Mark mark
is_that_mark mark (Mark number) e = let same : number ≡ mark = grind (arith, nat_tests) in ap (λ n. Mark n) same
is_that_mark mark (Plain inst) e = cc
is_that_mark mark (Jump to) e = cc
is_that_mark mark (If cond to) e = cc
is_that_mark mark (IfZero width nonzero reg to) e = cc
is_that_mark mark (IfBit nonzero reg at to) e = cc
is_that_mark mark (Label label) e = cc

-- a label that is there stands at its position
pub label_stands : (items : List Item) (label : ℕ) → position_of items label < length items → slice_get items (position_of items label) ≡ Some (Label label)
unfolding position_of
label_stands items label there =
    let at = position_or_len (is_label label) items in
    let passes = passes_at_first (is_label label) items (Label 0) there in
    slice_get-get_or items at (Label 0) there ∙ ap (λ i. Some i) (is_that_label label (get_or items at (Label 0)) passes)

pub mark_stands : (items : List Item) (mark : ℕ) → mark_position_of items mark < length items → slice_get items (mark_position_of items mark) ≡ Some (Mark mark)
unfolding mark_position_of
mark_stands items mark there =
    let at = position_or_len (is_mark mark) items in
    let passes = passes_at_first (is_mark mark) items (Mark 0) there in
    slice_get-get_or items at (Mark 0) there ∙ ap (λ i. Some i) (is_that_mark mark (get_or items at (Mark 0)) passes)

module _ (items : List Item) (good : IsWellLabelled items) (long : Set) where
  -- each place is in reach of a B
  pub place_short : (k : ℕ) → k ≤ length items → place items long k < 2 ^ 24
  place_short k le =
      let up = place_mono items long k (length items) le in
      let far = stretches items long (λ j. true) (λ j e. refl) 0 (length items) (omega arith) in
      let first = place-zero items long in
      let first_long = place-zero items (λ j. true) in
      let short = good.short in
      omega arith

  pub label_short : (label : ℕ) → label < label_count items → label_place items long label < 2 ^ 24
  label_short label below = let there = good.label_there label below in place_short (position_of items label) (omega arith)
