-- Items that a list of their labels' positions shows to be well labelled.
use Rattle.std.proofs.Common.{◌≡◌, ℕ, zero, suc, ◌+◌, ◌*◌, ◌^◌, ◌<◌, ◌≤◌, ⊎_elim, Bool, true, false, Option, Some, None, List, length, get_or}
use Rattle.std.proofs.Common.{refl, sym, ap, ◌∙◌, subst, arith}
use Rattle.std.specs.Prelude.{slice_get, slice_index}
use Rattle.std.proofs.lemmas.Bool.{cases_lt}
use Rattle.std.proofs.lemmas.Option.{slice_get_within, get_or_from_slice_get}
use Rattle.std.proofs.lemmas.List.Sums.{fails_before_first}
use Rattle.std.proofs.lemmas.Bool.Decides.{nat_tests}
use Rattle.tests_a64.specs.Checked.{AreGood, IsGood, LabelsThere, MarksThere}
use Rattle.a64_layout.specs.Branch.{IsTest, branch_in, size_of, size_in}
use Rattle.a64_layout.specs.Layout.{Set, place, is_label, position_of}
use Rattle.a64_layout.specs.Text.{is_mark, label_count, mark_count, mark_position_of, IsWellLabelled}
use Rattle.a64_inst.specs.declared.item.Item.{Item}
use Rattle.a64_inst.specs.declared.item.Item.TheVariants.{Plain, Jump, If, IfZero, IfBit, Label, Mark}
use Rattle.a64_layout.specs.declared.branch.Test.{Test}
use Rattle.a64_layout.specs.declared.branch.Test.TheVariants.{Holds, Zero, Bit}

no_both : (a : Bool) → a ≡ true → a ≡ false → ⊥
no_both a is not_so = let e : true ≡ false = sym is ∙ not_so in cc

none_is_no_branch : (b : Test × ℕ) → branch_in None ≡ Some b → ⊥
none_is_no_branch b is = cc

abbrev the_branch : Option (Test × ℕ) → Test × ℕ → Test × ℕ
the_branch (Some b) other = b
the_branch None other = other

one_branch : (o : Option (Test × ℕ)) (a b : Test × ℕ) → o ≡ Some a → o ≡ Some b → a ≡ b
one_branch o a b is_a is_b = ap (λ p. the_branch p a) (sym is_a ∙ is_b)

place-zero : (items : List Item) (long : Set) → place items long 0 ≡ 0
unfolding place
place-zero items long = refl

place-suc : (items : List Item) (long : Set) (k : ℕ) → place items long (suc k) ≡ place items long k + size_in (long k) (slice_get items k)
unfolding place
place-suc items long k = refl

size_most : (long : Bool) (item : Item) → size_of long item ≤ 2
size_most long (Plain inst) = omega arith
size_most long (Jump label) = omega arith
size_most true (If cond label) = omega arith
size_most false (If cond label) = omega arith
size_most true (IfZero width nonzero reg label) = omega arith
size_most false (IfZero width nonzero reg label) = omega arith
size_most true (IfBit nonzero reg at label) = omega arith
size_most false (IfBit nonzero reg at label) = omega arith
size_most long (Label label) = omega arith
size_most long (Mark mark) = omega arith

size_in_most : (long : Bool) (o : Option Item) → size_in long o ≤ 2
size_in_most long None = omega arith
size_in_most long (Some item) = size_most long item

-- at most two words an item
pub place_most : (items : List Item) (long : Set) (k : ℕ) → place items long k ≤ 2 * k
place_most items long zero = let e = place-zero items long in omega arith
place_most items long (suc k) =
    let rest = place_most items long k in
    let next = place-suc items long k in
    let size = size_in_most (long k) (slice_get items k) in
    omega arith

-- the first position of a label is no later than any
label_first : (items : List Item) (label k : ℕ) → slice_get items k ≡ Some (Label label) → position_of items label ≤ k
unfolding position_of
label_first items label k there =
    ⊎_elim
    (λ lt.
    let fails = fails_before_first (is_label label) items k (Label label) lt in
    let is : get_or items k (Label label) ≡ Label label = get_or_from_slice_get items k (Label label) (Label label) there in
    let passes : is_label label (get_or items k (Label label)) ≡ true = ap (is_label label) is ∙ grind (arith, nat_tests) in
    absurd (no_both (is_label label (get_or items k (Label label))) passes fails))
    (λ le. le)
    (cases_lt k (position_of items label))

-- what is checked of a branch
good_branch : (positions marks : List ℕ) (k : ℕ) (test : Test) (label : ℕ) (o : Option Item)
    → ((item : Item) → o ≡ Some item → IsGood positions marks k item) → branch_in o ≡ Some (test, label) → IsTest test × (label < length positions)
good_branch positions marks k test label None good is = absurd (none_is_no_branch (test, label) is)
good_branch positions marks k test label (Some (If cond to)) good is = subst (λ (b : Test × ℕ). IsTest b.0 × (b.1 < length positions))
    (one_branch (Some (Holds cond, to)) (Holds cond, to) (test, label) refl is) (good (If cond to) refl)
good_branch positions marks k test label (Some (IfZero width nonzero reg to)) good is = subst
    (λ (b : Test × ℕ). IsTest b.0 × (b.1 < length positions))
    (one_branch (Some (Zero width nonzero reg, to)) (Zero width nonzero reg, to) (test, label) refl is) (good (IfZero width nonzero reg to) refl)
good_branch positions marks k test label (Some (IfBit nonzero reg at to)) good is = subst (λ (b : Test × ℕ). IsTest b.0 × (b.1 < length positions))
    (one_branch (Some (Bit nonzero reg at, to)) (Bit nonzero reg at, to) (test, label) refl is) (good (IfBit nonzero reg at to) refl)
good_branch positions marks k test label (Some (Plain inst)) good is = absurd (none_is_no_branch (test, label) is)
good_branch positions marks k test label (Some (Jump to)) good is = absurd (none_is_no_branch (test, label) is)
good_branch positions marks k test label (Some (Label to)) good is = absurd (none_is_no_branch (test, label) is)
good_branch positions marks k test label (Some (Mark to)) good is = absurd (none_is_no_branch (test, label) is)

-- the first position of a mark is no later than any
mark_first : (items : List Item) (mark k : ℕ) → slice_get items k ≡ Some (Mark mark) → mark_position_of items mark ≤ k
unfolding mark_position_of
mark_first items mark k there =
    ⊎_elim
    (λ lt.
    let fails = fails_before_first (is_mark mark) items k (Mark mark) lt in
    let is : get_or items k (Mark mark) ≡ Mark mark = get_or_from_slice_get items k (Mark mark) (Mark mark) there in
    let passes : is_mark mark (get_or items k (Mark mark)) ≡ true = ap (is_mark mark) is ∙ grind (arith, nat_tests) in
    absurd (no_both (is_mark mark (get_or items k (Mark mark))) passes fails))
    (λ le. le)
    (cases_lt k (mark_position_of items mark))

pub checked : (items : List Item) (labels marks : List ℕ) → length labels ≡ label_count items → length marks ≡ mark_count items
    → length items < 2 ^ 22 → AreGood items labels marks → LabelsThere items labels → MarksThere items marks → IsWellLabelled items
checked items labels marks count mark_total few good there marks_there = record {
  insts = λ k inst is. good k (Plain inst) is;
  tests = λ k test label is. (good_branch labels marks k test label (slice_get items k) (λ item there. good k item there) is).0;
  jumps = λ k label is. let lt = good k (Jump label) is in omega arith;
  ifs = λ k test label is. let lt = (good_branch labels marks k test label (slice_get items k) (λ item there. good k item there) is).1 in omega arith;
  labels = λ k label is. let lt = (good k (Label label) is).0 in omega arith;
  label_once = λ i j label is_i is_j. sym (good i (Label label) is_i).1 ∙ (good j (Label label) is_j).1;
  label_there = λ label lt.
      let stands = there label (omega arith) in
      let within = slice_get_within items (slice_index labels label) (Label label) stands in
      let first = label_first items label (slice_index labels label) stands in
      omega arith;
  marks = λ k mark is. let lt = (good k (Mark mark) is).0 in omega arith;
  mark_once = λ i j mark is_i is_j. sym (good i (Mark mark) is_i).1 ∙ (good j (Mark mark) is_j).1;
  mark_there = λ mark lt.
      let stands = marks_there mark (omega arith) in
      let within = slice_get_within items (slice_index marks mark) (Mark mark) stands in
      let first = mark_first items mark (slice_index marks mark) stands in
      omega arith;
  short = let most = place_most items (λ k. true) (length items) in omega arith;
}

-- the same of the first items, labels and marks
abbrev pub AreGoodBefore : List Item → List ℕ → List ℕ → ℕ → Type 0
AreGoodBefore items labels marks n = (k : ℕ) (item : Item) → k < n → slice_get items k ≡ Some item → IsGood labels marks k item

-- numbered items stand at these positions
abbrev pub AreThereBefore : List Item → (ℕ → Item) → List ℕ → ℕ → Type 0
AreThereBefore items kind positions n = (number : ℕ) → number < n → slice_get items (slice_index positions number) ≡ Some (kind number)

-- items with their numbers
abbrev pub label_at : ℕ → Item
label_at label = Label label

abbrev pub mark_at : ℕ → Item
mark_at mark = Mark mark
