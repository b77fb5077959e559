-- The words of a text, one by one: each is the word of an instruction of the items, or of a branch.
use Rattle.std.proofs.Common.{◌≡◌, ℕ, zero, suc, ◌+◌, ◌^◌, ◌<◌, ◌≤◌, ◌⊎◌, inl, inr, pos, Bool, true, false, if◌then◌else◌, Option, Some, None, List, length, refl, ap, ◌∙◌, arith}
use Rattle.std.specs.Prelude.{slice_get}
use Rattle.std.proofs.lemmas.Int.{ints}
use Rattle.std.proofs.lemmas.Option.{slice_get_within}
use Rattle.a64_inst.specs.WellFormed.{IsWellFormed}
use Rattle.a64_inst.specs.declared.inst.Inst.{Inst}
use Rattle.a64_inst.specs.declared.inst.Inst.TheVariants.{Branch, BranchIf, BranchZero, BranchBit}
use Rattle.a64_inst.specs.declared.item.Item.{Item}
use Rattle.a64_inst.specs.declared.item.Item.TheVariants.{Plain, Jump, If, IfZero, IfBit, Label, Mark}
use Rattle.a64_word.specs.Decode.{decode}
use Rattle.a64_word.specs.Word.{word}
use Rattle.a64_word.proofs.Inverse.{decode-word}
use Rattle.a64_layout.specs.Branch.{IsTest, branch_by, branch_in, opposite, reach, size_in}
use Rattle.a64_layout.specs.Layout.{Fits, IsEnough, IsIf, Set, label_place, place}
use Rattle.a64_layout.specs.Text.{IsWellLabelled, distance, if_words, words_before, words_of}
use Rattle.a64_layout.specs.declared.branch.Test.{Test}
use Rattle.a64_layout.specs.declared.branch.Test.TheVariants.{Holds, Zero, Bit}
use Rattle.a64_layout.proofs.Labels.{label_short, place_short}
use Rattle.a64_layout.proofs.Least.{one_or_two, place-next, size_if}
use Rattle.a64_layout.proofs.WordAt.{word_at}

-- an instruction that only branches
abbrev pub is_jump : Inst → Bool
is_jump (Branch offset) = true
is_jump (BranchIf cond offset) = true
is_jump (BranchZero width nonzero reg offset) = true
is_jump (BranchBit nonzero reg at offset) = true
is_jump _ = false

-- word i of item k is that of an instruction: the item, or a branch
pub record HasWord (items : List Item) (long : Set) (words : List ℕ) (k i : ℕ) : Type 0 where
  pub inst : Inst
  pub there : slice_get words (place items long k + i) ≡ Some (word inst)
  pub decodes : decode (word inst) ≡ Some inst
  pub of : (slice_get items k ≡ Some (Plain inst)) ⊎ (is_jump inst ≡ true)

jump_good : (here to : ℕ) → here < 2 ^ 24 → to < 2 ^ 24 → IsWellFormed (Branch (distance here to))
jump_good here to near far = (omega (arith, ints), omega (arith, ints))

test_good : (test : Test) (here to : ℕ) → IsTest test → Fits (reach test) here to → IsWellFormed (branch_by test (distance here to))
test_good (Holds cond) here to is fits = let a = fits.0 in let b = fits.1 in (omega (arith, ints), omega (arith, ints))
test_good (Zero width nonzero reg) here to is fits = let a = fits.0 in let b = fits.1 in (is, omega (arith, ints), omega (arith, ints))
test_good (Bit nonzero reg at) here to is fits = let a = fits.0 in let b = fits.1 in (is.0, is.1, omega (arith, ints), omega (arith, ints))

over_good : (test : Test) → IsTest test → IsWellFormed (branch_by (opposite test) (pos 2))
over_good (Holds cond) is = (omega (arith, ints), omega (arith, ints))
over_good (Zero width nonzero reg) is = (is, omega (arith, ints), omega (arith, ints))
over_good (Bit nonzero reg at) is = (is.0, is.1, omega (arith, ints), omega (arith, ints))

test_jumps : (test : Test) (offset : _) → is_jump (branch_by test offset) ≡ true
test_jumps (Holds cond) offset = refl
test_jumps (Zero width nonzero reg) offset = refl
test_jumps (Bit nonzero reg at) offset = refl

module _ (items : List Item) (good : IsWellLabelled items) (long : Set) (enough : IsEnough items long) (words : List ℕ)
    (words_are : words ≡ words_before items long (length items)) where
  by_word : (k i : ℕ) (item : Item) (inst : Inst) → slice_get items k ≡ Some item
      → slice_get (words_of (long k) (place items long k) (label_place items long) item) i ≡ Some (word inst) → IsWellFormed inst
      → (slice_get items k ≡ Some (Plain inst)) ⊎ (is_jump inst ≡ true) → HasWord items long words k i
  by_word k i item inst there is wf of = record {
    inst = inst;
    there = ap (λ ws. slice_get ws (place items long k + i)) words_are ∙ word_at items long k i item (word inst) there is;
    decodes = decode-word inst wf;
    of = of;
  }

  plain_word : (k i : ℕ) (inst : Inst) → slice_get items k ≡ Some (Plain inst) → i < 1 → HasWord items long words k i
  plain_word k zero inst there lt = by_word k 0 (Plain inst) inst there refl (good.insts k inst there) (inl there)
  plain_word k (suc i) inst there lt = absurd (omega arith)

  goes_to : (k label : ℕ) → k ≤ length items → label_place items long label < 2 ^ 24
      → IsWellFormed (Branch (distance (place items long k) (label_place items long label)))
  goes_to k label le far = jump_good (place items long k) (label_place items long label) (place_short items good long k le) far

  jump_words : (k i label : ℕ) → slice_get items k ≡ Some (Jump label) → i < 1 → HasWord items long words k i
  jump_words k zero label there lt =
      let within = slice_get_within items k (Jump label) there in
      by_word k 0 (Jump label) (Branch (distance (place items long k) (label_place items long label))) there refl
      (goes_to k label (omega arith) (label_short items good long label (good.jumps k label there))) (inr refl)
  jump_words k (suc i) label there lt = absurd (omega arith)

  test_words : (k i : ℕ) (item : Item) (test : Test) (label : ℕ) (flag : Bool) → long k ≡ flag → slice_get items k ≡ Some item
      → IsIf items k test label
      → ((f : Bool) → words_of f (place items long k) (label_place items long) item ≡ if_words f test (place items long k) (label_place items long label))
      → i < (if flag then 2 else 1) → HasWord items long words k i
  test_words k zero item test label false flag there is parts lt =
      let here = place items long k in
      let to = label_place items long label in
      by_word k 0 item (branch_by test (distance here to)) there
      (ap (λ f. slice_get (words_of f here (label_place items long) item) 0) flag ∙ ap (λ ws. slice_get ws 0) (parts false))
      (test_good test here to (good.tests k test label is) (enough k test label is flag)) (inr (test_jumps test (distance here to)))
  test_words k (suc i) item test label false flag there is parts lt = absurd (omega arith)
  test_words k zero item test label true flag there is parts lt =
      let here = place items long k in
      by_word k 0 item (branch_by (opposite test) (pos 2)) there
      (ap (λ f. slice_get (words_of f here (label_place items long) item) 0) flag ∙ ap (λ ws. slice_get ws 0) (parts true))
      (over_good test (good.tests k test label is)) (inr (test_jumps (opposite test) (pos 2)))
  test_words k (suc zero) item test label true flag there is parts lt =
      let here = place items long k in
      let to = label_place items long label in
      let within = slice_get_within items k item there in
      let up = place_short items good long (k + 1) (omega arith) in
      let next = place-next items long k in
      let size = size_if (long k) (slice_get items k) (test, label) is in
      let two : one_or_two (long k) ≡ 2 = ap one_or_two flag in
      let far = label_short items good long label (good.ifs k test label is) in
      by_word k 1 item (Branch (distance (here + 1) to)) there
      (ap (λ f. slice_get (words_of f here (label_place items long) item) 1) flag ∙ ap (λ ws. slice_get ws 1) (parts true))
      (jump_good (here + 1) to (omega arith) far) (inr refl)
  test_words k (suc (suc i)) item test label true flag there is parts lt = absurd (omega arith)

  word_in : (k i : ℕ) (o : Option Item) → slice_get items k ≡ o → i < size_in (long k) o → HasWord items long words k i
  word_in k i None there lt = absurd (omega arith)
  word_in k i (Some (Plain inst)) there lt = plain_word k i inst there lt
  word_in k i (Some (Jump label)) there lt = jump_words k i label there lt
  word_in k i (Some (If cond label)) there lt = test_words k i (If cond label) (Holds cond) label (long k) refl there (ap branch_in there) (λ f. refl) lt
  word_in k i (Some (IfZero width nonzero reg label)) there lt =
      test_words k i (IfZero width nonzero reg label) (Zero width nonzero reg) label (long k) refl there (ap branch_in there) (λ f. refl) lt
  word_in k i (Some (IfBit nonzero reg at label)) there lt =
      test_words k i (IfBit nonzero reg at label) (Bit nonzero reg at) label (long k) refl there (ap branch_in there) (λ f. refl) lt
  word_in k i (Some (Label label)) there lt = absurd (omega arith)
  word_in k i (Some (Mark mark)) there lt = absurd (omega arith)

  -- each word of an item
  pub has_word : (k i : ℕ) → i < size_in (long k) (slice_get items k) → HasWord items long words k i
  has_word k i lt = word_in k i (slice_get items k) refl lt

  -- and the word of an instruction
  pub plain_at : (k : ℕ) (inst : Inst) → slice_get items k ≡ Some (Plain inst) → (slice_get words (place items long k) ≡ Some (word inst))
      × (decode (word inst) ≡ Some inst)
  plain_at k inst there =
      let e : place items long k ≡ place items long k + 0 = omega arith in (
        ap (slice_get words) e ∙ ap (λ ws. slice_get ws (place items long k + 0)) words_are ∙ word_at items long k 0 (Plain inst) (word inst) there refl,
        decode-word inst (good.insts k inst there),
      )
