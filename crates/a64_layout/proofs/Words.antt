-- The words of the first items, one item more at a time.
use Rattle.std.proofs.Common.{◌≡◌, ℕ, zero, suc, ◌+◌, ◌^◌, ◌<◌, ◌≤◌, Bool, true, false, Option, Some, None, List, [], ◌++◌, length, refl, sym, ap, ◌∙◌, arith, length-append}
use Rattle.std.specs.Prelude.{slice_get, slice_index}
use Rattle.std.proofs.lemmas.Option.{slice_get_within}
use Rattle.a64_layout.specs.Layout.{IsIf, most_words, Set, place, label_place, IsEnough}
use Rattle.a64_layout.specs.Text.{if_words, words_of, words_in, words_before, label_count, IsWellLabelled, TellsLabels}
use Rattle.a64_inst.specs.declared.item.Item.{Item}
use Rattle.a64_inst.specs.declared.item.Item.TheVariants.{Plain, Jump, If, IfZero, IfBit, Label, Mark}
use Rattle.a64_layout.specs.Branch.{branch_in, size_of, size_in}
use Rattle.a64_layout.specs.Passes.{CanBranch, CanStand, GoesBelow}
use Rattle.a64_layout.specs.declared.branch.Test.{Test}
use Rattle.a64_layout.specs.declared.branch.Test.TheVariants.{Holds, Zero, Bit}
use Rattle.a64_layout.proofs.Labels.{place_short, label_short}
use Rattle.a64_layout.proofs.Least.{stretches, place-zero, place-suc, place-next}

pub words-zero : (items : List Item) (long : Set) → words_before items long 0 ≡ []
unfolding words_before
words-zero items long = refl

pub words-suc : (items : List Item) (long : Set) (k : ℕ)
    → words_before items long (suc k) ≡ words_before items long k ++ words_in (long k) (place items long k) (label_place items long) (slice_get items k)
unfolding words_before
words-suc items long k = refl

pub words-next : (items : List Item) (long : Set) (k : ℕ)
    → words_before items long (k + 1) ≡ words_before items long k ++ words_in (long k) (place items long k) (label_place items long) (slice_get items k)
words-next items long k = let e : k + 1 ≡ suc k = omega arith in ap (words_before items long) e ∙ words-suc items long k

-- as many words as the size says
size_of_words : (long : Bool) (here : ℕ) (to : ℕ → ℕ) (item : Item) → length (words_of long here to item) ≡ size_of long item
size_of_words long here to (Plain inst) = omega arith
size_of_words long here to (Jump label) = omega arith
size_of_words true here to (If cond label) = omega arith
size_of_words false here to (If cond label) = omega arith
size_of_words true here to (IfZero width nonzero reg label) = omega arith
size_of_words false here to (IfZero width nonzero reg label) = omega arith
size_of_words true here to (IfBit nonzero reg at label) = omega arith
size_of_words false here to (IfBit nonzero reg at label) = omega arith
size_of_words long here to (Label label) = refl
size_of_words long here to (Mark mark) = refl

pub size_in_words : (long : Bool) (here : ℕ) (to : ℕ → ℕ) (o : Option Item) → length (words_in long here to o) ≡ size_in long o
size_in_words long here to None = refl
size_in_words long here to (Some item) = size_of_words long here to item

pub words_length : (items : List Item) (long : Set) (k : ℕ) → length (words_before items long k) ≡ place items long k
words_length items long zero = ap length (words-zero items long) ∙ sym (place-zero items long)
words_length items long (suc k) =
    let rest = words_length items long k in
    let more = size_in_words (long k) (place items long k) (label_place items long) (slice_get items k) in
    let split = ap length (words-suc items long k)
    ∙ length-append (words_before items long k) (words_in (long k) (place items long k) (label_place items long) (slice_get items k)) in
    let next = place-suc items long k in
    omega arith

-- no more words than where all are long
pub few_words : (items : List Item) (long : Set) (words : List ℕ) → words ≡ words_before items long (length items) → length words ≤ most_words items
few_words items long words is =
    let count = ap length is ∙ words_length items long (length items) in
    let far = stretches items long (λ k. true) (λ k e. refl) 0 (length items) (omega arith) in
    let first = place-zero items long in
    let first_long = place-zero items (λ k. true) in
    omega arith

module _ (items : List Item) (good : IsWellLabelled items) (long : Set) (labels : List ℕ) (count : length labels ≡ label_count items)
    (tells : TellsLabels items long labels) where
  told : (label : ℕ) → label < label_count items → slice_index labels label ≡ label_place items long label
  told label named = tells label (omega arith)

  near : (label : ℕ) → label < label_count items → slice_index labels label < 2 ^ 24
  near label named = let same = told label named in let short = label_short items good long label named in omega arith

  -- what is written is what the list of labels tells
  words_told : (k : ℕ) (flag : Bool) (here : ℕ) (item : Item) → slice_get items k ≡ Some item
      → words_of flag here (slice_index labels) item ≡ words_of flag here (label_place items long) item
  words_told k flag here (Plain inst) there = refl
  words_told k flag here (Jump label) there = ap (λ to. words_of flag here (λ l. to) (Jump label)) (told label (good.jumps k label there))
  words_told k flag here (If cond label) there = ap (if_words flag (Holds cond) here) (told label (good.ifs k (Holds cond) label (ap branch_in there)))
  words_told k flag here (IfZero width nonzero reg label) there = ap (if_words flag (Zero width nonzero reg) here)
      (told label (good.ifs k (Zero width nonzero reg) label (ap branch_in there)))
  words_told k flag here (IfBit nonzero reg at label) there = ap (if_words flag (Bit nonzero reg at) here)
      (told label (good.ifs k (Bit nonzero reg at) label (ap branch_in there)))
  words_told k flag here (Label label) there = refl
  words_told k flag here (Mark mark) there = refl

  pub pushed_next : (k : ℕ) (flag : Bool) (item : Item) (words more : List ℕ) → slice_get items k ≡ Some item → long k ≡ flag
      → words ≡ words_before items long k → more ≡ words ++ words_of flag (length words) (slice_index labels) item → more ≡ words_before items long (k + 1)
  pushed_next k flag item words more there flag_is words_is pushed =
      let here : length words ≡ place items long k = ap length words_is ∙ words_length items long k in
      let one : words_of flag (length words) (slice_index labels) item ≡ words_in (long k) (place items long k) (label_place items long) (slice_get items k) =
      ap (λ h. words_of flag h (slice_index labels) item) here
      ∙ (words_told k flag (place items long k) item there
      ∙ (ap (λ b. words_of b (place items long k) (label_place items long) item) (sym flag_is)
      ∙ ap (words_in (long k) (place items long k) (label_place items long)) (sym there))) in
      pushed ∙ (ap (λ w. w ++ words_of flag (length words) (slice_index labels) item) words_is
      ∙ (ap (λ w. words_before items long k ++ w) one ∙ sym (words-next items long k)))

  branch_at : IsEnough items long → (k here : ℕ) (flag : Bool) (test : Test) (label : ℕ) → IsIf items k test label → long k ≡ flag
      → here ≡ place items long k → CanBranch flag here (slice_index labels label) test
  branch_at enough k here flag test label there flag_is here_is =
      let named = good.ifs k test label there in (
        good.tests k test label there,
        near label named,
        λ short.
            let fits = enough k test label there (flag_is ∙ short) in
            let same = told label named in
            let a = fits.0 in
            let b = fits.1 in
            (omega arith, omega arith),
      )

  stands_at : IsEnough items long → (k here : ℕ) (flag : Bool) (item : Item) → slice_get items k ≡ Some item → long k ≡ flag
      → here ≡ place items long k → CanStand flag here (slice_index labels) item
  stands_at enough k here flag (Plain inst) there flag_is here_is = good.insts k inst there
  stands_at enough k here flag (Jump label) there flag_is here_is = near label (good.jumps k label there)
  stands_at enough k here flag (If cond label) there flag_is here_is = branch_at enough k here flag (Holds cond) label (ap branch_in there) flag_is here_is
  stands_at enough k here flag (IfZero width nonzero reg label) there flag_is here_is = branch_at enough k here flag (Zero width nonzero reg) label
      (ap branch_in there) flag_is here_is
  stands_at enough k here flag (IfBit nonzero reg at label) there flag_is here_is = branch_at enough k here flag (Bit nonzero reg at) label
      (ap branch_in there) flag_is here_is
  stands_at enough k here flag (Label label) there flag_is here_is = tt
  stands_at enough k here flag (Mark mark) there flag_is here_is = tt

  pub can_stand : IsEnough items long → (k : ℕ) (flag : Bool) (item : Item) (words : List ℕ) → slice_get items k ≡ Some item → long k ≡ flag
      → words ≡ words_before items long k → CanStand flag (length words) (slice_index labels) item
  can_stand enough k flag item words there flag_is words_is = stands_at enough k (length words) flag item there flag_is
      (ap length words_is ∙ words_length items long k)

  pub has_room : (k : ℕ) (flag : Bool) (item : Item) (words : List ℕ) → slice_get items k ≡ Some item → long k ≡ flag
      → words ≡ words_before items long k → length words + size_of flag item < 2 ^ 24
  has_room k flag item words there flag_is words_is =
      let here : length words ≡ place items long k = ap length words_is ∙ words_length items long k in
      let within = slice_get_within items k item there in
      let short = place_short items good long (k + 1) (omega arith) in
      let next = place-next items long k in
      let size : size_in (long k) (slice_get items k) ≡ size_of flag item = ap (λ b. size_in b (slice_get items k)) flag_is ∙ ap (size_in flag) there in
      omega arith

  -- each label that an item goes to has its place in the list
  pub goes_below : (k : ℕ) (item : Item) → slice_get items k ≡ Some item → GoesBelow (length labels) item
  goes_below k (Plain inst) there = tt
  goes_below k (Jump label) there = let lt = good.jumps k label there in omega arith
  goes_below k (If cond label) there = let lt = good.ifs k (Holds cond) label (ap branch_in there) in omega arith
  goes_below k (IfZero width nonzero reg label) there = let lt = good.ifs k (Zero width nonzero reg) label (ap branch_in there) in omega arith
  goes_below k (IfBit nonzero reg at label) there = let lt = good.ifs k (Bit nonzero reg at) label (ap branch_in there) in omega arith
  goes_below k (Label label) there = tt
  goes_below k (Mark mark) there = tt
