-- A run of labelled code is a run of its text: an item is one word or two, labels and marks are none.
use Rattle.std.proofs.Common.{◌≡◌, ℕ, zero, suc, ◌+◌, ◌*◌, ◌/◌, ◌<◌, ◌≤◌, ◌⊎◌, inl, inr, ⊎_elim, pos, Bool, true, false, not, if◌then◌else◌, Option, Some, None, List, length, refl, sym, ap, ◌∙◌, subst, arith}
use Rattle.std.specs.Prelude.{slice_get}
use Rattle.std.proofs.Math.Nat.{add-mul, one-mul, zero-mul, mul-le-mul_right}
use Rattle.std.proofs.lemmas.Bool.{cases_lt}
use Rattle.std.proofs.lemmas.Nat.{div_below}
use Rattle.std.proofs.lemmas.Int.{ints}
use Rattle.std.proofs.lemmas.Option.{slice_get_within}
use Rattle.b3_base.specs.Run.{iterate, Simulates}
use Rattle.b3_base.proofs.Run.{iterate-zero, iterate-one, iterate-suc, iterate-add}
use Rattle.a64_inst.specs.declared.inst.Inst.{Inst}
use Rattle.a64_inst.specs.declared.item.Item.{Item}
use Rattle.a64_inst.specs.declared.item.Item.TheVariants.{Plain, Jump, If, IfZero, IfBit, Label, Mark}
use Rattle.a64_layout.specs.Branch.{IsTest, branch_in, opposite, reach, size_in}
use Rattle.a64_layout.specs.Layout.{Fits, IsIf, Set, place, position_of, label_place, IsEnough}
use Rattle.a64_layout.specs.Run.{Config, At, Ended, Broken, Outcome, Goes, Ends, after, Meaning, IsWellMarked, IsMarked, mark_before, item_does, item_step, branch_cost, item_cost, cost, run_cost, StandsAt, HasDone, IsAt, IsAlike, Executes, free_with, free_before, free_steps, GoesOn, GoForward, place_at}
use Rattle.a64_layout.specs.Text.{distance, test_word, jump_word, if_words, words_of, words_before, IsWellLabelled}
use Rattle.a64_layout.specs.declared.branch.Test.{Test}
use Rattle.a64_layout.specs.declared.branch.Test.TheVariants.{Holds, Zero, Bit}
use Rattle.a64_layout.proofs.Flags.{true_or_false}
use Rattle.a64_layout.proofs.Labels.{place_short, label_short}
use Rattle.a64_layout.proofs.Least.{no_branch, no_some, one_or_two, place-next, place_mono, size_if}
use Rattle.a64_layout.proofs.Marked.{branch_unmarked, inside_unmarked, instruction_marked}
use Rattle.a64_layout.proofs.WordAt.{word_at}

-- the opposite branch goes over one word
two_on : (here : ℕ) → distance here (here + 2) ≡ pos 2
two_on here = grind (arith, ints)

over_fits : (test : Test) (here : ℕ) → Fits (reach (opposite test)) here (here + 2)
over_fits (Holds cond) here = (omega arith, omega arith)
over_fits (Zero width nonzero reg) here = (omega arith, omega arith)
over_fits (Bit nonzero reg at) here = (omega arith, omega arith)

opposite_test : (test : Test) → IsTest test → IsTest (opposite test)
opposite_test (Holds cond) is = is
opposite_test (Zero width nonzero reg) is = is
opposite_test (Bit nonzero reg at) is = is

free-suc : (items : List Item) (k : ℕ) → free_before items (k + 1) ≡ free_with (free_before items k) (slice_get items k)
unfolding free_before
free-suc items k = let e : k + 1 ≡ suc k = omega arith in ap (free_before items) e

-- instructions are a word each
pub instructions_place : (items : List Item) (long : Set) (k n : ℕ)
    → ((i : ℕ) → i < n → (inst : Inst) × (slice_get items (k + i) ≡ Some (Plain inst))) → place items long (k + n) ≡ place items long k + n
instructions_place items long k zero all = let e : k + zero ≡ k = omega arith in let same = ap (place items long) e in omega arith
instructions_place items long k (suc n) all =
    let e : k + suc n ≡ k + n + 1 = omega arith in
    let same = ap (place items long) e in
    let next = place-next items long (k + n) in
    let one : size_in (long (k + n)) (slice_get items (k + n)) ≡ 1 = ap (size_in (long (k + n))) (all n (omega arith)).1 in
    let rest = instructions_place items long k n (λ i lt. all i (omega arith)) in
    omega arith

some_words : (long : Bool) → 1 ≤ one_or_two long
some_words true = omega arith
some_words false = omega arith

two_words : (long : Bool) → one_or_two long ≤ 2
two_words true = omega arith
two_words false = omega arith

size_two : (long : Bool) (item : Item) → size_in long (Some item) ≤ 2
size_two long (Plain inst) = omega arith
size_two long (Jump label) = omega arith
size_two long (If cond label) = two_words long
size_two long (IfZero width nonzero reg label) = two_words long
size_two long (IfBit nonzero reg at label) = two_words long
size_two long (Label label) = omega arith
size_two long (Mark mark) = omega arith

jump_is_no_instruction : (label : ℕ) (inst : Inst) → Some (Jump label) ≡ Some (Plain inst) → ⊥
jump_is_no_instruction label inst e = cc

branch_is_no_instruction : (b : Test × ℕ) (inst : Inst) → Some b ≡ branch_in (Some (Plain inst)) → ⊥
branch_is_no_instruction b inst e = no_some b (sym e)

-- ---- what a step costs
module _ {W E : Type 0} (m : Meaning W E) (items : List Item) (long : Set) where
  pub item_is : (k : ℕ) (s : W) (o : Option Item) → slice_get items k ≡ o → item_step m items (At k s) ≡ item_does m items o k s
  unfolding item_step
  item_is k s o there = ap (λ i. item_does m items i k s) there

  pub cost_is : (k : ℕ) (s : W) (o : Option Item) → slice_get items k ≡ o → cost m items long (At k s) ≡ item_cost m items long o k s
  unfolding cost
  cost_is k s o there = ap (λ i. item_cost m items long i k s) there

  cost_over : (end : E) (s : W) → cost m items long (Ended end s) ≡ 1
  unfolding cost
  cost_over end s = refl

  cost_broken : cost m items long Broken ≡ 1
  unfolding cost
  cost_broken = refl

  run_cost-zero : (a : Config W E) → run_cost m items long 0 a ≡ 0
  unfolding run_cost
  run_cost-zero a = refl

  run_cost-suc : (n : ℕ) (a : Config W E) → run_cost m items long (suc n) a ≡ cost m items long a + run_cost m items long n (item_step m items a)
  unfolding run_cost
  run_cost-suc n a = refl

  pub run_cost-one : (a : Config W E) → run_cost m items long 1 a ≡ cost m items long a
  run_cost-one a =
      let sum = run_cost-suc 0 a in
      let none = run_cost-zero (item_step m items a) in
      omega arith

  branch_most : (flag holds : Bool) → branch_cost m items flag holds ≤ one_or_two flag
  branch_most true true = omega arith
  branch_most true false = omega arith
  branch_most false holds = omega arith

  -- an item's words at most
  item_most : (item : Item) (k : ℕ) (s : W) → item_cost m items long (Some item) k s ≤ size_in (long k) (Some item)
  item_most (Plain inst) k s = omega arith
  item_most (Jump label) k s = omega arith
  item_most (If cond label) k s = branch_most (long k) (m.holds (Holds cond) s)
  item_most (IfZero width nonzero reg label) k s = branch_most (long k) (m.holds (Zero width nonzero reg) s)
  item_most (IfBit nonzero reg at label) k s = branch_most (long k) (m.holds (Bit nonzero reg at) s)
  item_most (Label label) k s = omega arith
  item_most (Mark mark) k s = omega arith

  -- a step costs at most the words of its item
  pub cost_most : (k : ℕ) (s : W) (item : Item) → slice_get items k ≡ Some item → cost m items long (At k s) + place items long k ≤ place items long (k + 1)
  cost_most k s item there =
      let is = cost_is k s (Some item) there in
      let most = item_most item k s in
      let next = place-next items long k in
      let size : size_in (long k) (slice_get items k) ≡ size_in (long k) (Some item) = ap (size_in (long k)) there in
      omega arith

  forward_parts : (n : ℕ) (a : Config W E) → GoForward m items (suc n) a → GoesOn a (item_step m items a) × GoForward m items n (item_step m items a)
  unfolding GoForward
  forward_parts n a forward = forward

  broken_stops : (a : Config W E) → a ≡ Broken → (k : ℕ) (s : W) → GoesOn (At k s) a → ⊥
  broken_stops a is k s on = subst (GoesOn (At k s)) is on

  some_or_none : (o : Option Item) → ((item : Item) × (o ≡ Some item)) ⊎ (o ≡ None)
  some_or_none None = inr refl
  some_or_none (Some item) = inl (item, refl)

  -- the words that an item is run by, behind the first, stand before the last item's end
  pub cost_within : (k i : ℕ) (s : W) → 0 < i → i < cost m items long (At k s) → place items long k + i < place items long (length items)
  cost_within k i s some lt =
      ⊎_elim
      (λ found.
      let most = cost_most k s found.0 found.1 in
      let within = slice_get_within items k found.0 found.1 in
      let up = place_mono items long (k + 1) (length items) (omega arith) in
      omega arith)
      (λ none. let one = cost_is k s None none in absurd (omega arith))
      (some_or_none (slice_get items k))

  goes_on_most : (k : ℕ) (s : W) (a : Config W E) → GoesOn (At k s) a → place items long (k + 1) ≤ place_at items long a
  goes_on_most k s (At l t) on = place_mono items long (k + 1) l (omega arith)
  goes_on_most k s (Ended end t) on = elim on [ ]
  goes_on_most k s Broken on = elim on [ ]

  -- a step that goes farther on costs at most the words that it passes
  step_forward : (k : ℕ) (s : W) → GoesOn (At k s) (item_step m items (At k s))
      → cost m items long (At k s) + place items long k ≤ place_at items long (item_step m items (At k s))
  step_forward k s on =
      ⊎_elim
      (λ found.
      let most = cost_most k s found.0 found.1 in
      let far = goes_on_most k s (item_step m items (At k s)) on in
      omega arith)
      (λ none. absurd (broken_stops (item_step m items (At k s)) (item_is k s None none) k s on))
      (some_or_none (slice_get items k))

  any_forward : (a : Config W E) → GoesOn a (item_step m items a) → cost m items long a + place_at items long a ≤ place_at items long (item_step m items a)
  any_forward (At k s) on = step_forward k s on
  any_forward (Ended end t) on = elim on [ ]
  any_forward Broken on = elim on [ ]

  -- steps that each go farther on cost at most the words that they pass
  pub run_forward : (n : ℕ) (a : Config W E) → GoForward m items n a
      → run_cost m items long n a + place_at items long a ≤ place_at items long (iterate (item_step m items) n a)
  run_forward zero a forward =
      let none = run_cost-zero a in
      let same = ap (place_at items long) (iterate-zero (item_step m items) a) in
      omega arith
  run_forward (suc n) a forward =
      let parts = forward_parts n a forward in
      let one = any_forward a parts.0 in
      let rest = run_forward n (item_step m items a) parts.1 in
      let sum = run_cost-suc n a in
      let same = ap (place_at items long) (iterate-suc (item_step m items) n a) in
      omega arith

  branch_paid : (flag holds : Bool) → branch_cost m items flag holds ≡ 0 → ⊥
  branch_paid true true e = omega arith
  branch_paid true false e = omega arith
  branch_paid false holds e = omega arith

  item_free : (o : Option Item) (k : ℕ) (s : W) → item_cost m items long o k s ≡ 0 → item_does m items o k s ≡ At (k + 1) s
  item_free None k s e = absurd (omega arith)
  item_free (Some (Plain inst)) k s e = absurd (omega arith)
  item_free (Some (Jump label)) k s e = absurd (omega arith)
  item_free (Some (If cond label)) k s e = absurd (branch_paid (long k) (m.holds (Holds cond) s) e)
  item_free (Some (IfZero width nonzero reg label)) k s e = absurd (branch_paid (long k) (m.holds (Zero width nonzero reg) s) e)
  item_free (Some (IfBit nonzero reg at label)) k s e = absurd (branch_paid (long k) (m.holds (Bit nonzero reg at) s) e)
  item_free (Some (Label label)) k s e = refl
  item_free (Some (Mark mark)) k s e = refl

  step_free : (k : ℕ) (s : W) → cost m items long (At k s) ≡ 0 → item_step m items (At k s) ≡ At (k + 1) s
  step_free k s free = item_is k s (slice_get items k) refl ∙ item_free (slice_get items k) k s (sym (cost_is k s (slice_get items k) refl) ∙ free)

  -- steps that cost nothing go on one by one and leave the state as it is
  pub run_free : (n k : ℕ) (s : W) → run_cost m items long n (At k s) ≡ 0 → iterate (item_step m items) n (At k s) ≡ At (k + n) s
  run_free zero k s free = let e : k ≡ k + zero = omega arith in iterate-zero (item_step m items) (At k s) ∙ ap (λ n. At n s) e
  run_free (suc n) k s free =
      let sum = run_cost-suc n (At k s) in
      let first : item_step m items (At k s) ≡ At (k + 1) s = step_free k s (omega arith) in
      let same : run_cost m items long n (item_step m items (At k s)) ≡ run_cost m items long n (At (k + 1) s) = ap (run_cost m items long n) first in
      let e : k + 1 + n ≡ k + suc n = omega arith in
      iterate-suc (item_step m items) n (At k s) ∙ ap (iterate (item_step m items) n) first ∙ run_free n (k + 1) s (omega arith) ∙ ap (λ l. At l s) e

  -- ---- bounds
  few_free : (b : ℕ) → ((k : ℕ) → free_before items k < b) → (a : Config W E) → free_steps items a < b
  few_free b few (At k s) = few k
  few_free b few (Ended end s) = let some = few 0 in omega arith
  few_free b few Broken = let some = few 0 in omega arith

  item_rises : (o : Option Item) (k : ℕ) (s : W) → item_cost m items long o k s ≡ 0 → free_with (free_before items k) o ≡ free_before items k + 1
  item_rises None k s e = absurd (omega arith)
  item_rises (Some (Plain inst)) k s e = absurd (omega arith)
  item_rises (Some (Jump label)) k s e = absurd (omega arith)
  item_rises (Some (If cond label)) k s e = absurd (branch_paid (long k) (m.holds (Holds cond) s) e)
  item_rises (Some (IfZero width nonzero reg label)) k s e = absurd (branch_paid (long k) (m.holds (Zero width nonzero reg) s) e)
  item_rises (Some (IfBit nonzero reg at label)) k s e = absurd (branch_paid (long k) (m.holds (Bit nonzero reg at) s) e)
  item_rises (Some (Label label)) k s e = refl
  item_rises (Some (Mark mark)) k s e = refl

  rises : (a : Config W E) → cost m items long a ≡ 0 → free_steps items a < free_steps items (item_step m items a)
  rises (At k s) free =
      let goes = ap (free_steps items) (step_free k s free) in
      let more = free-suc items k ∙ item_rises (slice_get items k) k s (sym (cost_is k s (slice_get items k) refl) ∙ free) in
      omega arith
  rises (Ended end s) free = let one = cost_over end s in absurd (omega arith)
  rises Broken free = let one = cost_broken in absurd (omega arith)

  item_two : (o : Option Item) (k : ℕ) (s : W) → item_cost m items long o k s ≤ 2
  item_two None k s = omega arith
  item_two (Some item) k s = let most = item_most item k s in let size = size_two (long k) item in omega arith

  cost_two : (a : Config W E) → cost m items long a ≤ 2
  cost_two (At k s) = let is = cost_is k s (slice_get items k) refl in let most = item_two (slice_get items k) k s in omega arith
  cost_two (Ended end s) = let one = cost_over end s in omega arith
  cost_two Broken = let one = cost_broken in omega arith

  -- n items cost at most two words each
  pub run_most : (n : ℕ) (a : Config W E) → run_cost m items long n a ≤ n * 2
  run_most zero a = let none = run_cost-zero a in omega arith
  run_most (suc n) a =
      let sum = run_cost-suc n a in
      let one = cost_two a in
      let rest = run_most n (item_step m items a) in
      omega arith

  run_price : (b : ℕ) → ((k : ℕ) → free_before items k < b) → (n : ℕ) (a : Config W E)
      → n + free_steps items a ≤ run_cost m items long n a * b + free_steps items (iterate (item_step m items) n a)
  run_price b few zero a =
      let none = ap (λ c. c * b) (run_cost-zero a) in
      let free : 0 * b ≡ 0 = zero-mul b in
      let same = ap (free_steps items) (iterate-zero (item_step m items) a) in
      omega arith
  run_price b few (suc n) a =
      let rest = run_price b few n (item_step m items a) in
      let sum = ap (λ c. c * b) (run_cost-suc n a) in
      let split : (cost m items long a + run_cost m items long n (item_step m items a)) * b ≡ cost m items long a * b + run_cost m items long n
      (item_step m items a) * b = add-mul (cost m items long a) (run_cost m items long n (item_step m items a)) b in
      let same = ap (free_steps items) (iterate-suc (item_step m items) n a) in
      let below = few_free b few a in
      ⊎_elim
      (λ none.
      let free : cost m items long a ≡ 0 = omega arith in
      let up = rises a free in
      let zero_cost : cost m items long a * b ≡ 0 = ap (λ c. c * b) free ∙ zero-mul b in
      omega arith)
      (λ paid.
      let one : 1 * b ≤ cost m items long a * b = mul-le-mul_right b paid in
      let same_b : 1 * b ≡ b = one-mul b in
      omega arith)
      (cases_lt (cost m items long a) 1)

  -- where fewer than b labels and marks stand in a row, b items cost a word at least
  pub run_least : (b : ℕ) → ((k : ℕ) → free_before items k < b) → (n : ℕ) (a : Config W E) → n / b ≤ run_cost m items long n a
  run_least b few n a =
      let price = run_price b few n a in
      let last = few_free b few (iterate (item_step m items) n a) in
      let e : (run_cost m items long n a + 1) * b ≡ run_cost m items long n a * b + 1 * b = add-mul (run_cost m items long n a) 1 b in
      let same : 1 * b ≡ b = one-mul b in
      let lt : n / b < run_cost m items long n a + 1 = div_below n b (run_cost m items long n a + 1) (omega arith) (omega arith) in
      omega arith

-- ---- steps of the items are steps of the machine
module _ {W E C : Type 0} (m : Meaning W E) (items : List Item) (good : IsWellLabelled items) (marked : IsWellMarked items) (long : Set)
    (enough : IsEnough items long)
    (words : List ℕ) (words_are : words ≡ words_before items long (length items)) (Stands : ℕ → W → C → Type 0) (IsOver : E → W → C → Type 0)
    (step : C → C) (runs : Executes words Stands IsOver m items long step) where
  -- the machine is at each word of an item as that is run, and then where the run of the items is
  abbrev IsStep : Config W E → C → Type 0
  IsStep a c = ((i : ℕ) → i < cost m items long a → IsAt words Stands IsOver items long i a (iterate step i c)) × IsAlike words Stands IsOver items
      long (item_step m items a) (iterate step (cost m items long a) c)

  stands : (here other : ℕ) (s : W) (c : C) → here ≡ other → StandsAt words Stands IsOver here s c → StandsAt words Stands IsOver other s c
  stands here other s c e at = subst (λ p. StandsAt words Stands IsOver p s c) e at

  -- by what the step leads to and costs
  no_word_step : (a x : Config W E) (c : C) → item_step m items a ≡ x → cost m items long a ≡ 0 → IsAlike words Stands IsOver items long x c → IsStep a c
  no_word_step a x c is free alike = (
    λ i lt. absurd (omega arith),
    subst (λ n. IsAlike words Stands IsOver items long (item_step m items a) (iterate step n c)) (sym free)
        (subst (IsAlike words Stands IsOver items long (item_step m items a)) (sym (iterate-zero step c))
        (subst (λ z. IsAlike words Stands IsOver items long z c) (sym is) alike)),
  )

  first_at : (a : Config W E) (c : C) (i : ℕ) → i ≡ 0 → IsAlike words Stands IsOver items long a c → IsAt words Stands IsOver items long i a (iterate step i c)
  first_at a c i none alike = subst (λ n. IsAt words Stands IsOver items long n a (iterate step n c)) (sym none)
      (subst (IsAt words Stands IsOver items long 0 a) (sym (iterate-zero step c)) alike)

  one_word_step : (a x : Config W E) (c : C) → item_step m items a ≡ x → cost m items long a ≡ 1 → IsAlike words Stands IsOver items long a c
      → IsAlike words Stands IsOver items long x (step c) → IsStep a c
  one_word_step a x c is one before alike = (
    λ i lt. first_at a c i (omega arith) before,
    subst (λ n. IsAlike words Stands IsOver items long (item_step m items a) (iterate step n c)) (sym one)
        (subst (IsAlike words Stands IsOver items long (item_step m items a)) (sym (iterate-one step c))
        (subst (λ z. IsAlike words Stands IsOver items long z (step c)) (sym is) alike)),
  )

  two_word_step : (a x : Config W E) (c : C) → item_step m items a ≡ x → cost m items long a ≡ 2 → IsAlike words Stands IsOver items long a c
      → IsAt words Stands IsOver items long 1 a (step c) → IsAlike words Stands IsOver items long x (step (step c)) → IsStep a c
  two_word_step a x c is two before between alike = (
    λ i lt.
        ⊎_elim
        (λ first. first_at a c i (omega arith) before)
        (λ second.
        let e : i ≡ 1 = omega arith in
        subst (λ n. IsAt words Stands IsOver items long n a (iterate step n c)) (sym e)
        (subst (IsAt words Stands IsOver items long 1 a) (sym (iterate-one step c)) between))
        (cases_lt i 1),
    subst (λ n. IsAlike words Stands IsOver items long (item_step m items a) (iterate step n c)) (sym two)
        (subst (IsAlike words Stands IsOver items long (item_step m items a)) (sym (iterate-suc step 1 c ∙ iterate-one step (step c)))
        (subst (λ z. IsAlike words Stands IsOver items long z (step (step c))) (sym is) alike)),
  )

  -- ---- where things stand
  word_of_item : (k j : ℕ) (item : Item) (w : ℕ) → slice_get items k ≡ Some item
      → slice_get (words_of (long k) (place items long k) (label_place items long) item) j ≡ Some w → slice_get words (place items long k + j) ≡ Some w
  word_of_item k j item w there is = ap (λ ws. slice_get ws (place items long k + j)) words_are ∙ word_at items long k j item w there is

  first_word : (k : ℕ) (item : Item) (w : ℕ) → slice_get items k ≡ Some item
      → slice_get (words_of (long k) (place items long k) (label_place items long) item) 0 ≡ Some w → slice_get words (place items long k) ≡ Some w
  first_word k item w there is =
      let e : place items long k ≡ place items long k + 0 = omega arith in
      ap (slice_get words) e ∙ word_of_item k 0 item w there is

  next_is : (k : ℕ) (item : Item) (size : ℕ) → slice_get items k ≡ Some item → size_in (long k) (Some item) ≡ size
      → place items long (k + 1) ≡ place items long k + size
  next_is k item size there is =
      let next = place-next items long k in
      let same = ap (size_in (long k)) there ∙ is in
      omega arith

  -- where the machine stands before a word it stands there
  stands_here : (k : ℕ) (s : W) (c : C) (w : ℕ) → slice_get words (place items long k) ≡ Some w → IsAlike words Stands IsOver items long (At k s) c
      → Stands (place items long k) s c
  stands_here k s c w is alike =
      let within = slice_get_within words (place items long k) w is in
      let e : place items long k + 0 ≡ place items long k = omega arith in
      stands (place items long k + 0) (place items long k) s c e alike within

  -- the machine stands at a place of the items
  alike_at : (k here : ℕ) (s : W) (c : C) → here ≡ place items long k → StandsAt words Stands IsOver here s c
      → IsAlike {E = E} words Stands IsOver items long (At k s) c
  alike_at k here s c e at = stands here (place items long k + 0) s c (omega arith) at

  alike_if : (b : Bool) (s : W) (k l from to : ℕ) (c : C) → from ≡ place items long k → to ≡ place items long l
      → StandsAt words Stands IsOver (if b then from else to) s c → IsAlike {E = E} words Stands IsOver items long (At (if b then k else l) s) c
  alike_if true s k l from to c e f at = alike_at k from s c e at
  alike_if false s k l from to c e f at = alike_at l to s c f at

  -- ---- instructions and jumps
  alike_after : (k : ℕ) (inst : Inst) (s : W) (o : Outcome W E) (c : C) → slice_get items k ≡ Some (Plain inst)
      → m.does k (mark_before items k) inst s ≡ o → HasDone words Stands IsOver (place items long k) o c
      → IsAlike words Stands IsOver items long (after k o) c
  alike_after k inst s (Goes passed t) c there does done =
      alike_at (k + passed) (place items long k + passed) t c (sym (instructions_place items long k passed (runs.passes k passed inst s t there does))) done
  alike_after k inst s (Ends end t) c there does done = done

  plain_step : (k : ℕ) (s : W) (c : C) (inst : Inst) → slice_get items k ≡ Some (Plain inst) → IsAlike words Stands IsOver items long (At k s) c
      → IsStep (At k s) c
  plain_step k s c inst there alike =
      let first = first_word k (Plain inst) _ there refl in
      let done = runs.plain k inst s c there (good.insts k inst there) (instruction_marked items good marked long k inst there) first
      (stands_here k s c _ first alike) in
      one_word_step (At k s) (after k (m.does k (mark_before items k) inst s)) c (item_is m items long k s (Some (Plain inst)) there)
      (cost_is m items long k s (Some (Plain inst)) there) alike
      (alike_after k inst s (m.does k (mark_before items k) inst s) (step c) there refl done)

  jump_step : (k : ℕ) (s : W) (c : C) (label : ℕ) → slice_get items k ≡ Some (Jump label) → IsAlike words Stands IsOver items long (At k s) c
      → IsStep (At k s) c
  jump_step k s c label there alike =
      let within = slice_get_within items k (Jump label) there in
      let first = first_word k (Jump label) _ there refl in
      let next = next_is k (Jump label) 1 there refl in
      let unmarked = branch_unmarked items good marked long k (omega arith) (λ inst is. jump_is_no_instruction label inst (sym there ∙ is)) in
      one_word_step (At k s) (At (position_of items label) s) c (item_is m items long k s (Some (Jump label)) there)
      (cost_is m items long k s (Some (Jump label)) there) alike
      (alike_at (position_of items label) (label_place items long label) s (step c) refl
      (runs.jump (place items long k) (label_place items long label) s c (place_short items good long k (omega arith))
      (label_short items good long label (good.jumps k label there)) unmarked first (stands_here k s c _ first alike)))

  -- ---- branches: an item with these words and this step
  pub record IsBranch (k : ℕ) (test : Test) (label : ℕ) (s : W) : Type 0 where
    pub is_if : IsIf items k test label
    pub does : item_step m items (At k s) ≡ At (if m.holds test s then position_of items label else k + 1) s
    pub costs : cost m items long (At k s) ≡ branch_cost m items (long k) (m.holds test s)
    pub word_is : (j w : ℕ) → slice_get (if_words (long k) test (place items long k) (label_place items long label)) j ≡ Some w
        → slice_get words (place items long k + j) ≡ Some w
    pub no_instruction : (inst : Inst) → slice_get items k ≡ Some (Plain inst) → ⊥

  module _ (k : ℕ) (test : Test) (label : ℕ) (s : W) (b : IsBranch k test label s) (c : C) (alike : IsAlike words Stands IsOver items long (At k s) c) where
    size_is : (flag : Bool) → long k ≡ flag → place items long (k + 1) ≡ place items long k + one_or_two flag
    size_is flag is =
        let next = place-next items long k in
        let size = size_if (long k) (slice_get items k) (test, label) b.is_if in
        let same = ap one_or_two is in
        omega arith

    within_items : k < length items
    within_items = ⊎_elim (λ lt. lt) (λ ge. absurd (no_branch items k test label ge b.is_if)) (cases_lt k (length items))

    word_here : (w : ℕ) → slice_get (if_words (long k) test (place items long k) (label_place items long label)) 0 ≡ Some w
        → slice_get words (place items long k) ≡ Some w
    word_here w is = let e : place items long k ≡ place items long k + 0 = omega arith in ap (slice_get words) e ∙ b.word_is 0 w is

    unmarked_here : IsMarked items long (place items long k) None
    unmarked_here =
        let some : 1 ≤ one_or_two (long k) = some_words (long k) in
        let size = size_is (long k) refl in
        branch_unmarked items good marked long k (omega arith) b.no_instruction

    short_step : long k ≡ false → IsStep (At k s) c
    short_step short =
        let here = place items long k in
        let to = label_place items long label in
        let first = word_here (test_word test (distance here to)) (ap (λ f. slice_get (if_words f test here to) 0) short) in
        let size = size_is false short in
        one_word_step (At k s) (At (if m.holds test s then position_of items label else k + 1) s) c b.does
        (b.costs ∙ ap (λ f. branch_cost m items f (m.holds test s)) short) alike
        (alike_if (m.holds test s) s (position_of items label) (k + 1) to (here + 1) (step c) refl (sym size)
        (runs.test test here to s c (good.tests k test label b.is_if) (enough k test label b.is_if short) unmarked_here first
        (stands_here k s c _ first alike)))

    -- the first word of a long item goes over the B or to it
    over_step : (holds : Bool) → long k ≡ true → m.holds test s ≡ holds
        → StandsAt words Stands IsOver (if not holds then place items long k + 2 else place items long k + 1) s (step c)
    over_step holds is_long holds_is =
        let here = place items long k in
        let to = label_place items long label in
        let first = word_here (test_word (opposite test) (distance here (here + 2)))
        (ap (λ f. slice_get (if_words f test here to) 0) is_long ∙ ap (λ d. Some (test_word (opposite test) d)) (sym (two_on here))) in
        subst (λ f. StandsAt words Stands IsOver (if f then here + 2 else here + 1) s (step c)) (runs.opposite test s ∙ ap not holds_is)
        (runs.test (opposite test) here (here + 2) s c (opposite_test test (good.tests k test label b.is_if)) (over_fits test here) unmarked_here
        first (stands_here k s c _ first alike))

    long_step : long k ≡ true → IsStep (At k s) c
    long_step is_long =
        let here = place items long k in
        let to = label_place items long label in
        let size = size_is true is_long in
        let within = within_items in
        let next_short = place_short items good long (k + 1) (omega arith) in
        let to_short = label_short items good long label (good.ifs k test label b.is_if) in
        let second = b.word_is 1 (jump_word (here + 1) to) (ap (λ f. slice_get (if_words f test here to) 1) is_long) in
        let unmarked = inside_unmarked items good marked long k (here + 1) (omega arith) (omega arith) in
        ⊎_elim
        (λ holds.
        let at = over_step true is_long holds in
        two_word_step (At k s) (At (position_of items label) s) c
        (b.does ∙ ap (λ f. At (if f then position_of items label else k + 1) s) holds)
        (b.costs ∙ (ap (λ f. branch_cost m items f (m.holds test s)) is_long ∙ ap (branch_cost m items true) holds)) alike at
        (alike_at (position_of items label) to s (step (step c)) refl
        (runs.jump (here + 1) to s (step c) (omega arith) to_short unmarked second (at (slice_get_within words (here + 1) _ second)))))
        (λ fails.
        one_word_step (At k s) (At (k + 1) s) c
        (b.does ∙ ap (λ f. At (if f then position_of items label else k + 1) s) fails)
        (b.costs ∙ (ap (λ f. branch_cost m items f (m.holds test s)) is_long ∙ ap (branch_cost m items true) fails)) alike
        (alike_at (k + 1) (here + 2) s (step c) (sym size) (over_step false is_long fails)))
        (true_or_false (m.holds test s))

    branch_step : IsStep (At k s) c
    branch_step = ⊎_elim (λ is. long_step is) (λ is. short_step is) (true_or_false (long k))

  -- a label or a mark
  free_step : (k : ℕ) (s : W) (c : C) (item : Item) → slice_get items k ≡ Some item → size_in (long k) (Some item) ≡ 0
      → item_does m items (Some item) k s ≡ At (k + 1) s → item_cost m items long (Some item) k s ≡ 0
      → IsAlike words Stands IsOver items long (At k s) c → IsStep (At k s) c
  free_step k s c item there size goes free alike =
      let next = next_is k item 0 there size in
      no_word_step (At k s) (At (k + 1) s) c (item_is m items long k s (Some item) there ∙ goes) (cost_is m items long k s (Some item) there ∙ free)
      (alike_at (k + 1) (place items long k + 0) s c (omega arith) alike)

  item_steps : (k : ℕ) (s : W) (c : C) (o : Option Item) → slice_get items k ≡ o → IsAlike words Stands IsOver items long (At k s) c → IsStep (At k s) c
  item_steps k s c None there alike = one_word_step (At k s) Broken c (item_is m items long k s None there) (cost_is m items long k s None there) alike tt
  item_steps k s c (Some (Plain inst)) there alike = plain_step k s c inst there alike
  item_steps k s c (Some (Jump label)) there alike = jump_step k s c label there alike
  item_steps k s c (Some (If cond label)) there alike =
      branch_step k (Holds cond) label s (record {
        is_if = ap branch_in there;
        does = item_is m items long k s (Some (If cond label)) there;
        costs = cost_is m items long k s (Some (If cond label)) there;
        word_is = λ j w is. word_of_item k j (If cond label) w there is;
        no_instruction = λ inst is. branch_is_no_instruction (Holds cond, label) inst (sym (ap branch_in there) ∙ ap branch_in is);
      }) c alike
  item_steps k s c (Some (IfZero width nonzero reg label)) there alike =
      branch_step k (Zero width nonzero reg) label s (record {
        is_if = ap branch_in there;
        does = item_is m items long k s (Some (IfZero width nonzero reg label)) there;
        costs = cost_is m items long k s (Some (IfZero width nonzero reg label)) there;
        word_is = λ j w is. word_of_item k j (IfZero width nonzero reg label) w there is;
        no_instruction = λ inst is. branch_is_no_instruction (Zero width nonzero reg, label) inst (sym (ap branch_in there) ∙ ap branch_in is);
      }) c alike
  item_steps k s c (Some (IfBit nonzero reg at label)) there alike =
      branch_step k (Bit nonzero reg at) label s (record {
        is_if = ap branch_in there;
        does = item_is m items long k s (Some (IfBit nonzero reg at label)) there;
        costs = cost_is m items long k s (Some (IfBit nonzero reg at label)) there;
        word_is = λ j w is. word_of_item k j (IfBit nonzero reg at label) w there is;
        no_instruction = λ inst is. branch_is_no_instruction (Bit nonzero reg at, label) inst (sym (ap branch_in there) ∙ ap branch_in is);
      }) c alike
  item_steps k s c (Some (Label label)) there alike = free_step k s c (Label label) there refl refl refl alike
  item_steps k s c (Some (Mark mark)) there alike = free_step k s c (Mark mark) there refl refl refl alike

  -- a step of the items is as many steps of the machine as it costs
  pub any_step : (a : Config W E) (c : C) → IsAlike words Stands IsOver items long a c → IsStep a c
  unfolding item_step
  any_step (At k s) c alike = item_steps k s c (slice_get items k) refl alike
  any_step (Ended end s) c alike = one_word_step (Ended end s) (Ended end s) c refl (cost_over m items long end s) alike (runs.over end s c alike)
  any_step Broken c alike = one_word_step Broken Broken c refl (cost_broken m items long) alike tt

  -- n steps of the items are as many steps of the machine as they cost
  pub text_runs : (n : ℕ) (a : Config W E) (c : C) → IsAlike words Stands IsOver items long a c
      → IsAlike words Stands IsOver items long (iterate (item_step m items) n a) (iterate step (run_cost m items long n a) c)
  text_runs zero a c alike =
      subst (λ z. IsAlike words Stands IsOver items long z (iterate step (run_cost m items long 0 a) c)) (sym (iterate-zero (item_step m items) a))
      (subst (λ n. IsAlike words Stands IsOver items long a (iterate step n c)) (sym (run_cost-zero m items long a))
      (subst (IsAlike words Stands IsOver items long a) (sym (iterate-zero step c)) alike))
  text_runs (suc n) a c alike =
      let one = any_step a c alike in
      let rest = text_runs n (item_step m items a) (iterate step (cost m items long a) c) one.1 in
      let first = cost m items long a in
      let later = run_cost m items long n (item_step m items a) in
      subst (λ z. IsAlike words Stands IsOver items long z (iterate step (run_cost m items long (suc n) a) c)) (sym (iterate-suc (item_step m items) n a))
      (subst (λ j. IsAlike words Stands IsOver items long (iterate (item_step m items) n (item_step m items a)) (iterate step j c))
      (sym (run_cost-suc m items long n a))
      (subst (IsAlike words Stands IsOver items long (iterate (item_step m items) n (item_step m items a)))
      (sym (iterate-add step (cost m items long a) (run_cost m items long n (item_step m items a)) c)) rest))

  -- where fewer than b labels and marks stand in a row, and P holds wherever the machine is in a run of the items
  pub text_simulates : (P : Config W E → C → Type 0)
      → ((a : Config W E) (i : ℕ) (c : C) → IsAt words Stands IsOver items long i a c → P (item_step m items a) c) → (b : ℕ)
      → ((k : ℕ) → free_before items k < b)
      → Simulates (item_step m items) step (IsAlike words Stands IsOver items long) P (free_steps items) b 2
  text_simulates P proper b few = record {
    below = λ a c alike. few_free m items long b few a;
    step = λ a c alike.
        let one = any_step a c alike in
        (cost m items long a, cost_two m items long a, rises m items long a, λ i lt. proper a i (iterate step i c) (one.0 i lt), one.1);
  }
