-- The mark that is found at a place, by the list of the marks' places.
use Rattle.std.proofs.Common.{◌≡◌, ℕ, zero, suc, ◌+◌, ◌<◌, ◌≤◌, Bool, true, false, refl, Option, Some, None, List, length, get_or, sym, ap, ◌∙◌, arith, nat_eq, nat_lt, if◌then◌else◌}
use Rattle.std.specs.Prelude.{slice_get, slice_index}
use Rattle.std.specs.List.{position_or_len}
use Rattle.std.proofs.lemmas.Bool.Decides.{nat_tests}
use Rattle.std.proofs.lemmas.List.Sums.{passes_at_first, fails_before_first}
use Rattle.a64_inst.specs.declared.item.Item.{Item}
use Rattle.a64_inst.specs.declared.item.Item.TheVariants.{Mark}
use Rattle.a64_layout.specs.Layout.{Set, place}
use Rattle.a64_layout.specs.Machine.{mark_at}
use Rattle.a64_layout.specs.Run.{IsMarked, IsWellMarked, mark_before}
use Rattle.a64_layout.specs.Text.{mark_count, mark_position_of, IsWellLabelled, TellsMarks}
use Rattle.a64_layout.proofs.Flags.{no_both}
use Rattle.a64_layout.proofs.Labels.{mark_stands}
use Rattle.a64_layout.proofs.Marked.{at_mark, mark_at_place, mark_in_is, none_some}

-- the mark right before an item stands there
pub before_is : (items : List Item) (k mark : ℕ) → mark_before items k ≡ Some mark → (p : ℕ) × (p + 1 ≡ k) × (slice_get items p ≡ Some (Mark mark))
before_is items zero mark is = absurd (none_some mark is)
before_is items (suc p) mark is = (p, omega arith, mark_in_is (slice_get items p) mark is)

one_number : (a b : ℕ) → Some (Mark a) ≡ Some (Mark b) → a ≡ b
one_number a b e = cc

module _ (items : List Item) (good : IsWellLabelled items) (marked : IsWellMarked items) (long : Set) where
  -- no two marks have one place
  one_mark : (a b : ℕ) → a < mark_count items → b < mark_count items
      → place items long (mark_position_of items a) ≡ place items long (mark_position_of items b) → a ≡ b
  one_mark a b below_a below_b same =
      let there_a = mark_stands items a (good.mark_there a below_a) in
      let there_b = mark_stands items b (good.mark_there b below_b) in
      let words = at_mark items good marked long (mark_position_of items b) b there_b in
      let none = words.0 in
      let one = words.1 in
      let next = mark_at_place items good marked long (mark_position_of items b + 1) a below_a (omega arith) (omega arith) in
      let e : mark_position_of items a ≡ mark_position_of items b = omega arith in
      one_number a b (sym there_a ∙ (ap (slice_get items) e ∙ there_b))

  module _ (marks : List ℕ) (count : length marks ≡ mark_count items) (tells : TellsMarks items long marks) (here : ℕ) where
    found_by : (b : Bool) (o : Option ℕ) → nat_lt (position_or_len (nat_eq here) marks) (length marks) ≡ b → IsMarked items long here o
        → (if b then Some (position_or_len (nat_eq here) marks) else None) ≡ o
    found_by true None is none =
        let p = position_or_len (nat_eq here) marks in
        let lt : position_or_len (nat_eq here) marks < length marks = grind (arith, nat_tests) in
        let passes = passes_at_first (nat_eq here) marks 0 lt in
        let same : here ≡ slice_index marks (position_or_len (nat_eq here) marks) = grind (arith, nat_tests) in
        absurd (none (position_or_len (nat_eq here) marks) (omega arith) (sym (tells (position_or_len (nat_eq here) marks) lt) ∙ sym same))
    found_by true (Some mark) is there =
        let lt : position_or_len (nat_eq here) marks < length marks = grind (arith, nat_tests) in
        let passes = passes_at_first (nat_eq here) marks 0 lt in
        let same : here ≡ slice_index marks (position_or_len (nat_eq here) marks) = grind (arith, nat_tests) in
        ap (λ n. Some n) (one_mark (position_or_len (nat_eq here) marks) mark (omega arith) there.0
        (sym (tells (position_or_len (nat_eq here) marks) lt) ∙ (sym same ∙ sym there.1)))
    found_by false None is none = refl
    found_by false (Some mark) is there =
        let below = there.0 in
        let past : length marks ≤ position_or_len (nat_eq here) marks = grind (arith, nat_tests) in
        let fails = fails_before_first (nat_eq here) marks mark 0 (omega arith) in
        let same : slice_index marks mark ≡ here = tells mark (omega arith) ∙ there.1 in
        let passes : nat_eq here (get_or marks mark 0) ≡ true = grind (arith, nat_tests) in
        absurd (no_both (nat_eq here (get_or marks mark 0)) passes fails)

    -- the one mark of a place is found there, and none where there is none
    pub mark_found : (o : Option ℕ) → IsMarked items long here o → mark_at marks here ≡ o
    mark_found o is = found_by (nat_lt (position_or_len (nat_eq here) marks) (length marks)) o refl is
