-- The machine runs the words as the run of the items asks.
use Rattle.std.proofs.Common.{◌≡◌, ℕ, ℤ, ◌+◌, ◌-◌, ◌*◌, ◌/◌, ◌%◌, ◌^◌, ◌<◌, ◌≤◌, Bool, true, false, not, ◌&&◌, Some, List, length, refl, sym, ap, ◌∙◌, subst, arith, nat_eq, nat_le, if◌then◌else◌, Option, None, ⊎_elim}
use Rattle.std.specs.Prelude.{slice_get}
use Rattle.std.proofs.lemmas.Bool.{cases_lt, le-leb}
use Rattle.std.proofs.lemmas.Bool.Decides.{nat_tests}
use Rattle.std.proofs.lemmas.Int.{ints}
use Rattle.std.proofs.lemmas.Option.{slice_get_within}
use Rattle.b3_base.specs.Run.{iterate}
use Rattle.b3_base.proofs.Run.{iterate-zero}
use Rattle.a64_inst.specs.Registers.{Stepped}
use Rattle.a64_inst.specs.Step.{step_of}
use Rattle.a64_inst.specs.StepBranch.{branch, branch_bit, branch_if, branch_target, branch_zero, is_taken}
use Rattle.a64_inst.specs.Values.{holds}
use Rattle.a64_inst.specs.WellFormed.{IsWellFormed}
use Rattle.a64_inst.specs.declared.inst.Cond.{Cond}
use Rattle.a64_inst.specs.declared.inst.Cond.TheVariants.{Eq, Ne, Hs, Lo, Mi, Pl, Vs, Vc, Hi, Ls, Ge, Lt, Gt, Le}
use Rattle.a64_inst.specs.declared.inst.Inst.{Inst}
use Rattle.a64_inst.specs.declared.inst.Inst.TheVariants.{Branch}
use Rattle.a64_inst.specs.declared.item.Item.{Item}
use Rattle.a64_inst.specs.declared.item.Item.TheVariants.{Plain}
use Rattle.a64_inst.specs.declared.state.Flags.{Flags}
use Rattle.a64_word.specs.Word.{word}
use Rattle.a64_word.proofs.Inverse.{decode-word}
use Rattle.a64_layout.specs.Branch.{IsTest, branch_by, opposite, opposite_cond, reach}
use Rattle.a64_layout.specs.Layout.{Fits, IsEnough, Set, place}
use Rattle.a64_layout.specs.Machine.{Machine, decoded, goes_on_at, instruction_does, is_next, goes_first, items_at, items_run, machine_of, machine_step, mark_at, moved_to, Outside, outside_at, PassesInstructions, place_of, RunsAsItems, test_holds, does_at, does_first, words_run}
use Rattle.a64_layout.specs.Run.{At, Ends, Executes, Goes, HasDone, IsAlike, IsWellMarked, Outcome, mark_before, StandsAt}
use Rattle.a64_layout.specs.Text.{IsWellLabelled, TellsMarks, mark_count, distance, words_before}
use Rattle.a64_layout.specs.declared.branch.Test.{Test}
use Rattle.a64_layout.specs.declared.branch.Test.TheVariants.{Holds, Zero, Bit}
use Rattle.a64_layout.proofs.Least.{and_right}
use Rattle.a64_layout.proofs.Labels.{place_short}
use Rattle.a64_layout.proofs.Listed.{before_is, mark_found}
use Rattle.a64_layout.proofs.Simulation.{any_step, cost_within, run_cost-one, run_forward, run_free, run_least, run_most, text_runs}
use Rattle.a64_layout.proofs.Words.{words_length}

-- ---- tests
not_not : (b : Bool) → b ≡ not (not b)
not_not true = refl
not_not false = refl

opposite_holds : (cond : Cond) (f : Flags) → holds (opposite_cond cond) f ≡ not (holds cond f)
opposite_holds Eq f = refl
opposite_holds Ne f = not_not f.z
opposite_holds Hs f = refl
opposite_holds Lo f = not_not f.c
opposite_holds Mi f = refl
opposite_holds Pl f = not_not f.n
opposite_holds Vs f = refl
opposite_holds Vc f = not_not f.v
opposite_holds Hi f = refl
opposite_holds Ls f = not_not (f.c && not f.z)
opposite_holds Ge f = refl
opposite_holds Lt f = not_not _
opposite_holds Gt f = refl
opposite_holds Le f = not_not _

opposite_taken : (nonzero : Bool) (word : ℕ) → is_taken (not nonzero) word ≡ not (is_taken nonzero word)
opposite_taken true word = not_not (nat_eq word 0)
opposite_taken false word = refl

test_opposite : (test : Test) (c : Machine) → test_holds (opposite test) c ≡ not (test_holds test c)
test_opposite (Holds cond) c = opposite_holds cond c.registers.flags
test_opposite (Zero width nonzero reg) c = opposite_taken nonzero _
test_opposite (Bit nonzero reg at) c = opposite_taken nonzero _

-- ---- what is read at a place
there_at : (first here : ℕ) → place_of first (first + 4 * here) ≡ Some here
there_at first here =
    let above : nat_le first (first + 4 * here) ≡ true = le-leb first (first + 4 * here) (omega arith) in
    let whole : (first + 4 * here - first) % 4 ≡ 0 = omega arith in
    let index : (first + 4 * here - first) / 4 ≡ here = omega arith in
    rw (above, whole, index) refl

-- the machine does the instruction whose word stands there, or what the outside does at the mark that is found
step_is : (first here : ℕ) (words marks : List ℕ) (outside : Outside) (inst : Inst) (c : Machine) (mark : Option ℕ) → IsWellFormed inst
    → slice_get words here ≡ Some (word inst) → mark_at marks here ≡ mark
    → machine_step first words marks outside (moved_to (first + 4 * here) c)
    ≡ does_first (outside_at outside mark (moved_to (first + 4 * here) c)) (Some inst) (moved_to (first + 4 * here) c)
step_is first here words marks outside inst c mark good there found =
    let read : decoded (slice_get words here) ≡ Some inst = ap decoded there ∙ decode-word inst good in
    ap (λ o. does_at words marks outside o (moved_to (first + 4 * here) c)) (there_at first here)
    ∙ ap (λ o. does_first (outside_at outside (mark_at marks here) (moved_to (first + 4 * here) c)) o (moved_to (first + 4 * here) c)) read
    ∙ ap (λ m. does_first (outside_at outside m (moved_to (first + 4 * here) c)) (Some inst) (moved_to (first + 4 * here) c)) found

-- ---- branches
target_is : (first here to : ℕ) → first + 4 * here < 2 ^ 64 → first + 4 * to < 2 ^ 64 → here < 2 ^ 24 → to < 2 ^ 24
    → branch_target (first + 4 * here) (distance here to) ≡ first + 4 * to
target_is first here to before after near far = omega (arith, ints)

jump_good : (here to : ℕ) → here < 2 ^ 24 → to < 2 ^ 24 → IsWellFormed (Branch (distance here to))
jump_good here to near far = (omega (arith, ints), omega (arith, ints))

test_good : (test : Test) (here to : ℕ) → IsTest test → Fits (reach test) here to → IsWellFormed (branch_by test (distance here to))
test_good (Holds cond) here to is fits = let a = fits.0 in let b = fits.1 in (omega (arith, ints), omega (arith, ints))
test_good (Zero width nonzero reg) here to is fits = let a = fits.0 in let b = fits.1 in (is, omega (arith, ints), omega (arith, ints))
test_good (Bit nonzero reg at) here to is fits = let a = fits.0 in let b = fits.1 in (is.0, is.1, omega (arith, ints), omega (arith, ints))

jumps : (offset : ℤ) (address : ℕ) (c : Machine)
    → machine_of (step_of (Branch offset) (moved_to address c).registers c.memory) ≡ moved_to (branch_target address offset) c
unfolding step_of branch
jumps offset address c = refl

either : (b : Bool) (x y : Stepped) → machine_of (if b then x else y) ≡ (if b then machine_of x else machine_of y)
either true x y = refl
either false x y = refl

branches : (test : Test) (offset : ℤ) (address : ℕ) (c : Machine)
    → machine_of (step_of (branch_by test offset) (moved_to address c).registers c.memory) ≡
    (if test_holds test c then moved_to (branch_target address offset) c else moved_to ((address + 4) % 2 ^ 64) c)
unfolding step_of branch_if branch_zero branch_bit branch
branches (Holds cond) offset address c = either (test_holds (Holds cond) c) _ _
branches (Zero width nonzero reg) offset address c = either (test_holds (Zero width nonzero reg) c) _ _
branches (Bit nonzero reg at) offset address c = either (test_holds (Bit nonzero reg at) c) _ _

-- ---- the machine stands at a place of the items, with pc there
abbrev pub StandsWith : ℕ → ℕ → Machine → Machine → Type 0
StandsWith first here s c = c ≡ moved_to (first + 4 * here) s

-- nothing is said of a run of the items that has ended
abbrev pub IsAnywhere : Inst → Machine → Machine → Type 0
IsAnywhere inst s c = Unit {0}

pc_is : (address : ℕ) (after : Stepped) → goes_on_at address after ≡ true → after.registers.pc ≡ address
pc_is address after goes =
    let same : nat_eq after.registers.pc address ≡ true = and_right (is_next after.outcome) (nat_eq after.registers.pc address) goes in
    grind (arith, nat_tests)

-- the machine stands where its pc is
stands_at_pc : (address : ℕ) (c : Machine) → c.registers.pc ≡ address → c ≡ moved_to address c
stands_at_pc address c is = ap (λ a. moved_to a c) is

passed_one : (b : Bool) (inst : Inst) (s after : Machine) (passed : ℕ) → (if b then Goes 1 s else Ends inst s) ≡ Goes passed after → passed ≡ 1
passed_one true inst s after passed e = cc
passed_one false inst s after passed e = cc

abbrev leads : ℕ → Machine → Outcome Machine Inst
leads passed s = Goes passed s

went_by : (passed other : ℕ) (s after : Machine) → leads passed s ≡ Goes other after → passed ≡ other
went_by passed other s after e = cc

none_done : (done : ℕ × Machine) → None ≡ Some done → ⊥
none_done done e = cc

module _ (items : List Item) (good : IsWellLabelled items) (marked : IsWellMarked items) (long : Set) (enough : IsEnough items long) (words : List ℕ)
    (words_are : words ≡ words_before items long (length items)) (marks : List ℕ) (marks_are : length marks ≡ mark_count items)
    (tells : TellsMarks items long marks)
    (outside : Outside) (fitting : PassesInstructions items outside)
    (first : ℕ) (ends : first + 4 * length words ≤ 2 ^ 64) where
  done_if : (b : Bool) (here : ℕ) (inst : Inst) (s c : Machine) → (b ≡ true → StandsAt words (StandsWith first) IsAnywhere (here + 1) s c)
      → HasDone words (StandsWith first) IsAnywhere here (if b then Goes 1 s else Ends inst s) c
  done_if true here inst s c goes = goes refl
  done_if false here inst s c goes = tt

  few_words_here : length words < 2 ^ 24
  few_words_here =
      let count = ap length words_are ∙ words_length items long (length items) in
      let short = place_short items good long (length items) (omega arith) in
      omega arith

  branched : (b : Bool) (here to : ℕ) (offset : ℤ) (s : Machine) → offset ≡ distance here to → here < length words
      → StandsAt words (StandsWith first) IsAnywhere (if b then to else here + 1) s
      (if b then moved_to (branch_target (first + 4 * here) offset) s else moved_to ((first + 4 * here + 4) % 2 ^ 64) s)
  branched true here to offset s is within below =
      let few = few_words_here in
      ap (λ a. moved_to a s) (ap (branch_target (first + 4 * here)) is ∙ target_is first here to (omega arith) (omega arith) (omega arith) (omega arith))
  branched false here to offset s is within below = let e : (first + 4 * here + 4) % 2 ^ 64 ≡ first + 4 * (here + 1) = omega arith in ap (λ a. moved_to a s) e

  -- an instruction, or what the outside does at its mark
  instruction_done : (o : Option (ℕ × Machine)) (here : ℕ) (inst : Inst) (s c : Machine) → c ≡ does_first o (Some inst) (moved_to (first + 4 * here) s)
      → HasDone words (StandsWith first) IsAnywhere here (goes_first o (instruction_does (first + 4 * here) inst s)) c
  instruction_done (Some done) here inst s c step = λ below.
      let e : first + 4 * here + 4 * done.0 ≡ first + 4 * (here + done.0) = omega arith in
      step ∙ ap (λ a. moved_to a done.1) e
  instruction_done None here inst s c step =
      done_if (goes_on_at (first + 4 * here + 4) (step_of inst (moved_to (first + 4 * here) s).registers s.memory)) here inst
      (machine_of (step_of inst (moved_to (first + 4 * here) s).registers s.memory)) c
      (λ goes below.
      let pc = pc_is (first + 4 * here + 4) (step_of inst (moved_to (first + 4 * here) s).registers s.memory) goes in
      step ∙ stands_at_pc (first + 4 * (here + 1)) (machine_of (step_of inst (moved_to (first + 4 * here) s).registers s.memory)) (omega arith))

  -- what the outside passes from a marked instruction on is instructions
  outside_passes : (mark : Option ℕ) (k : ℕ) (c : Machine) (done : ℕ × Machine) → mark_before items k ≡ mark → outside_at outside mark c ≡ Some done
      → (i : ℕ) → i < done.0 → (other : Inst) × (slice_get items (k + i) ≡ Some (Plain other))
  outside_passes None k c done is by i lt = absurd (none_done done by)
  outside_passes (Some mark) k c done is by i lt =
      let before = before_is items k mark is in
      let plain = fitting before.0 mark c done before.2 by i lt in
      (plain.0, ap (λ n. slice_get items (n + i)) (sym before.1) ∙ plain.1)

  any_passes : (o : Option (ℕ × Machine)) (k passed : ℕ) (inst : Inst) (s after : Machine)
      → outside_at outside (mark_before items k) (moved_to (first + 4 * place items long k) s) ≡ o
      → slice_get items k ≡ Some (Plain inst) → goes_first o (instruction_does (first + 4 * place items long k) inst s) ≡ Goes passed after
      → (i : ℕ) → i < passed → (other : Inst) × (slice_get items (k + i) ≡ Some (Plain other))
  any_passes (Some done) k passed inst s after by there does i lt =
      let same : done.0 ≡ passed = went_by done.0 passed done.1 after does in
      outside_passes (mark_before items k) k (moved_to (first + 4 * place items long k) s) done refl by i (omega arith)
  any_passes None k passed inst s after by there does i lt =
      let one : passed ≡ 1 = passed_one _ inst _ after passed does in
      let e : k ≡ k + i = omega arith in
      (inst, ap (slice_get items) (sym e) ∙ there)

  executes : Executes words (StandsWith first) IsAnywhere (items_at first outside items long) items long (machine_step first words marks outside)
  executes = record {
    plain = λ k inst s c there wf mark word_is stands.
        instruction_done (outside_at outside (mark_before items k) (moved_to (first + 4 * place items long k) s)) (place items long k) inst s
        (machine_step first words marks outside c)
        (ap (machine_step first words marks outside) stands
        ∙ step_is first (place items long k) words marks outside inst s (mark_before items k) wf word_is
        (mark_found items good marked long marks marks_are tells (place items long k) (mark_before items k) mark));
    passes = λ k passed inst s after there does i lt. any_passes _ k passed inst s after refl there does i lt;
    jump = λ here to s c near far mark word_is stands below.
        let within = slice_get_within words here _ word_is in
        ap (machine_step first words marks outside) stands
        ∙ step_is first here words marks outside (Branch (distance here to)) s None (jump_good here to near far) word_is
        (mark_found items good marked long marks marks_are tells here None mark)
        ∙ jumps (distance here to) (first + 4 * here) s
        ∙ ap (λ a. moved_to a s) (target_is first here to (omega arith) (omega arith) near far);
    test = λ test here to s c is fits mark word_is stands below.
        let within = slice_get_within words here _ word_is in
        ap (machine_step first words marks outside) stands
        ∙ step_is first here words marks outside (branch_by test (distance here to)) s None (test_good test here to is fits) word_is
        (mark_found items good marked long marks marks_are tells here None mark)
        ∙ branches test (distance here to) (first + 4 * here) s
        ∙ branched (test_holds test s) here to (distance here to) s refl within below;
    opposite = test_opposite;
    over = λ inst s c is. tt;
  }

  -- the machine stands with pc at an item's place
  at_item : (j : ℕ) (c : Machine)
      → IsAlike {E = Inst} words (StandsWith first) IsAnywhere items long (At j c) (moved_to (first + 4 * place items long j) c)
  at_item j c some = let e : first + 4 * place items long j ≡ first + 4 * (place items long j + 0) = omega arith in ap (λ a. moved_to a c) e

  items_same : (j n k : ℕ) (c after : Machine) → place items long k < length words → items_run first outside items long n (At j c) ≡ At k after
      → iterate (machine_step first words marks outside) (words_run first outside items long n (At j c)) (moved_to (first + 4 * place items long j) c)
      ≡ moved_to (first + 4 * place items long k) after
  items_same j n k c after below is =
      let alike = text_runs (items_at first outside items long) items good marked long enough words words_are (StandsWith first) IsAnywhere
      (machine_step first words marks outside) executes n (At j c) (moved_to (first + 4 * place items long j) c) (at_item j c) in
      let there = subst (λ z. IsAlike words (StandsWith first) IsAnywhere items long z
      (iterate (machine_step first words marks outside) (words_run first outside items long n (At j c)) (moved_to (first + 4 * place items long j) c)))
      is alike in
      let at : first + 4 * (place items long k + 0) ≡ first + 4 * place items long k = omega arith in
      there (omega arith) ∙ ap (λ a. moved_to a after) at

  item_inside : (j i : ℕ) (c : Machine) → i < words_run first outside items long 1 (At j c)
      → iterate (machine_step first words marks outside) i (moved_to (first + 4 * place items long j) c) ≡ moved_to (first + 4 * (place items long j + i)) c
  item_inside j i c lt =
      let here = moved_to (first + 4 * place items long j) c in
      let cost_one = run_cost-one (items_at first outside items long) items long (At j c) in
      ⊎_elim
      (λ later.
      let count = ap length words_are ∙ words_length items long (length items) in
      let within = cost_within (items_at first outside items long) items long j i c later (omega arith) in
      let one = any_step (items_at first outside items long) items good marked long enough words words_are (StandsWith first) IsAnywhere
      (machine_step first words marks outside) executes (At j c) here (at_item j c) in
      one.0 i (omega arith) (omega arith))
      (λ none.
      let e : i ≡ 0 = omega arith in
      let at : first + 4 * place items long j ≡ first + 4 * (place items long j + i) = omega arith in
      ap (λ n. iterate (machine_step first words marks outside) n here) e ∙ iterate-zero (machine_step first words marks outside) here
      ∙ ap (λ a. moved_to a c) at)
      (cases_lt 0 i)

-- words of the items run as they do
pub runs_as_items : (items : List Item) → IsWellLabelled items → IsWellMarked items → (long : Set) → IsEnough items long → (words : List ℕ)
    → words ≡ words_before items long (length items)
    → (marks : List ℕ) → length marks ≡ mark_count items → TellsMarks items long marks → RunsAsItems items long words marks
runs_as_items items good marked long enough words words_are marks marks_are tells = record {
  same = λ first j n k outside c after fitting ends below is.
      items_same items good marked long enough words words_are marks marks_are tells outside fitting first ends j n k c after below is;
  inside = λ first j i outside c fitting ends lt.
      item_inside items good marked long enough words words_are marks marks_are tells outside fitting first ends j i c lt;
  most = λ first n outside a. run_most (items_at first outside items long) items long n a;
  least = λ first n b outside a few. run_least (items_at first outside items long) items long b few n a;
  free = λ first n k outside c none. run_free (items_at first outside items long) items long n k c none;
  forward = λ first n outside a go. run_forward (items_at first outside items long) items long n a go;
}
