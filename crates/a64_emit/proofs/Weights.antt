-- The words of each instruction, and of a procedure.
use Rattle.air_ir.specs.declared.operand.Arg.TheVariants.{Imm}
use Rattle.air_ir.specs.declared.operand.Role.TheVariants.{Use}
use Rattle.std.proofs.Common.{◌≡◌, ℕ, suc, ◌+◌, ◌-◌, ◌*◌, ◌/◌, ◌%◌, ◌≤◌, Bool, true, false, List, [], ◌∷◌, ◌++◌, length, get_or, refl, sym, ap, subst, arith, length-append, ◌∙◌}
use Rattle.std.specs.Prelude.{nat_eq, if◌then◌else◌}
use Rattle.std.specs.List.{sum_by}
use Rattle.std.proofs.lemmas.List.Sums.{sum_by-append, sum_by-cons}
use Rattle.b3_base.specs.declared.word.Width.{Width}
use Rattle.b3_base.specs.declared.word.Width.TheVariants.{W64, W32}
use Rattle.stackmap.specs.declared.site.SavedRow.{SavedRow}
use Rattle.a64_inst.specs.declared.inst.Cond.{Cond}
use Rattle.a64_inst.specs.declared.inst.Cond.TheVariants.{Eq, Hi}
use Rattle.a64_inst.specs.declared.inst.Inst.{Inst}
use Rattle.a64_inst.specs.declared.inst.Inst.TheVariants.{AddSubImm, AddSubReg, Break}
use Rattle.a64_inst.specs.declared.item.Item.{Item}
use Rattle.a64_inst.specs.declared.item.Item.TheVariants.{If, Jump, Label, Mark, Plain}
use Rattle.b3_meaning.specs.declared.role.Checked.{Checked}
use Rattle.b3_meaning.specs.declared.role.Checked.TheVariants.{Sum, Difference, Product}
use Rattle.a64_checked.specs.Checks.{comparing, making, passing}
use Rattle.air_ir.specs.Forms.{AllFit, Takes}
use Rattle.air_ir.specs.Weight.{arg_words}
use Rattle.air_ir.specs.declared.frame.Frame.{Frame}
use Rattle.air_ir.specs.declared.op.Test.{Test}
use Rattle.air_ir.specs.declared.op.Test.TheVariants.{Compare, NonZero, Bit}
use Rattle.air_ir.specs.declared.operand.Arg.{Arg}
use Rattle.air_ir.specs.declared.operand.Operand.{Operand}
use Rattle.a64_layout.specs.Branch.{size_of}
use Rattle.a64_emit.specs.Code.{arg_at, branch_code, branch_item, exits_by, branches, bring, compared, copy_code, copy_reg, fetch, fetch_tested, put_result, result_reg, select_code, set_code, source_at, test_at, test_count, width_at, guarded, fetch_checked, make_checked, checked_items, result_at}
use Rattle.a64_code.specs.Computing.{reg_of, is_sum_word, sum_with}
use Rattle.a64_code.specs.Constants.{constant}
use Rattle.a64_code.specs.Places.{above_sp, epilogue, leave, load_at, lower_sp, plains, prologue, restores, saves, store_at, unless_zero}
use Rattle.a64_emit.specs.Switched.{case_items, cases_in_order, compare_word, jump_to, search_items, switch_items}
use Rattle.a64_emit.specs.Trees.{Leaf, Node, Tree, node_count, tree}
use Rattle.a64_emit.specs.declared.case.Case.{Case}
use Rattle.a64_emit.proofs.Sorting.{cases_length}
use Rattle.a64_emit.proofs.Trees.{in_order, tree_order}
use Rattle.a64_emit.proofs.Sizes.{bring_most, constant_most, fetch_most, load_most, operand_words, place_least, plain_words, put_most, store_most, words_of, place_words}

-- ---- operands

pub fit_count : (ts : List Takes) (os : List Operand) → AllFit ts os → length os ≡ length ts
unfolding AllFit
fit_count [] [] fits = refl
fit_count [] (o ∷ os) fits = absurd fits
fit_count (t ∷ ts) [] fits = absurd fits
fit_count (t ∷ ts) (o ∷ os) fits = let more = fit_count ts os fits.1 in omega arith

-- ---- branches

pub jump_most : (next label : ℕ) → words_of (jump_to next label) ≤ 1
jump_most next label = elim (nat_eq label next) as (λ b. words_of (if b then [] else Jump label ∷ []) ≤ 1) [ true ↦ omega arith | false ↦ omega arith ]

branch_most : (t : Test) (passes : Bool) (width : Width) (reg label : ℕ) → size_of true (branch_item t passes width reg label) ≤ 2
branch_most (Compare cond) passes width reg label = omega arith
branch_most NonZero passes width reg label = omega arith
branch_most (Bit bit) passes width reg label = omega arith

branches_most : (t : Test) (width : Width) (reg next then_label else_label : ℕ) → words_of (branches t width reg next then_label else_label) ≤ 3
branches_most t width reg next then_label else_label =
    let first = branch_most t false width reg else_label in
    let second = branch_most t true width reg then_label in
    let jump = jump_most next else_label in
    elim (nat_eq then_label next) as (λ b. words_of
    (if b then branch_item t false width reg else_label ∷ [] else branch_item t true width reg then_label ∷ jump_to next else_label) ≤ 3) [
      | true ↦ let sum = sum_by-cons (size_of true) (branch_item t false width reg else_label) [] in omega arith
      | false ↦ let sum = sum_by-cons (size_of true) (branch_item t true width reg then_label) (jump_to next else_label) in omega arith
    ]

case_most : (width : Width) (reg word : ℕ) → length (compare_word width reg word) ≤ 5
case_most width reg word =
    let put = constant_most width 16 word in
    let inst : Inst = AddSubReg width true true 31 reg 16 0 0 in
    let count = length-append (constant width 16 word) (inst ∷ []) in
    elim (is_sum_word width word) as (λ b. length (if b then sum_with width true true 31 reg word ∷ [] else constant width 16 word ++ inst ∷ []) ≤ 5) [
      | true ↦ omega arith
      | false ↦ omega arith
    ]

cases_most : (width : Width) (reg : ℕ) (cases : List Case) → words_of (case_items width reg cases) ≤ 7 * length cases
unfolding case_items
cases_most width reg [] = omega arith
cases_most width reg (case ∷ cases) =
    let items : List Item = case_items width reg cases in
    let more = cases_most width reg cases in
    let count = case_most width reg case.word in
    let plain = plain_words (compare_word width reg case.word) in
    let both = sum_by-append (size_of true) (plains (compare_word width reg case.word)) (If Eq case.target ∷ items) in
    let sum = sum_by-cons (size_of true) (If Eq case.target) items in
    omega arith

search_most : (width : Width) (reg other next label : ℕ) (t : Tree Case) → words_of (search_items width reg other next label t) ≤ 10 * length (in_order t) + 1
unfolding search_items in_order
search_most width reg other next label (Leaf cases) =
    let most = cases_most width reg cases in
    let jump = jump_most next other in
    let both = sum_by-append (size_of true) (case_items width reg cases) (jump_to next other) in
    omega arith
search_most width reg other next label (Node before case behind) =
    let compare : List Item = plains (compare_word width reg case.word) in
    let first : List Item = search_items width reg other label (label + 1) before in
    let rest : List Item = search_items width reg other next (label + 1 + node_count before) behind in
    let most_first = search_most width reg other label (label + 1) before in
    let most_rest = search_most width reg other next (label + 1 + node_count before) behind in
    let count = case_most width reg case.word in
    let plain = plain_words (compare_word width reg case.word) in
    let parts = sum_by-append (size_of true) (compare ++ If Eq case.target ∷ If Hi label ∷ first) (Label label ∷ rest) in
    let front = sum_by-append (size_of true) compare (If Eq case.target ∷ If Hi label ∷ first) in
    let equal = sum_by-cons (size_of true) (If Eq case.target) (If Hi label ∷ first) in
    let high = sum_by-cons (size_of true) (If Hi label) first in
    let here = sum_by-cons (size_of true) (Label label) rest in
    let long = length-append (in_order before) (case ∷ in_order behind) in
    omega arith

switch_most : (width : Width) (reg next label : ℕ) (cases targets : List ℕ) → words_of (switch_items width reg next label cases targets) ≤ 10 * length cases + 1
switch_most width reg next label cases targets =
    let most = search_most width reg (get_or targets (length cases) 0) next label (tree (cases_in_order width cases targets)) in
    let same = ap (λ (xs : List Case). length xs) (tree_order (cases_in_order width cases targets)) in
    let long = cases_length width cases targets in
    omega arith

-- ---- lists of some operands

pub of_one : (os : List Operand) → length os ≡ 1 → (a : Operand) × (os ≡ a ∷ [])
of_one [] count = absurd (omega arith)
of_one (a ∷ []) count = (a, refl)
of_one (a ∷ b ∷ os) count = absurd (omega arith)

pub of_two : (os : List Operand) → length os ≡ 2 → (a : Operand) × (b : Operand) × (os ≡ a ∷ b ∷ [])
of_two [] count = absurd (omega arith)
of_two (a ∷ os) count = let rest = of_one os (omega arith) in (a, rest.0, ap (λ (xs : List Operand). a ∷ xs) rest.1)

of_three : (os : List Operand) → length os ≡ 3 → (a : Operand) × (b : Operand) × (c : Operand) × (os ≡ a ∷ b ∷ c ∷ [])
of_three [] count = absurd (omega arith)
of_three (a ∷ os) count = let rest = of_two os (omega arith) in (a, rest.0, rest.1, ap (λ (xs : List Operand). a ∷ xs) rest.2)

of_four : (os : List Operand) → length os ≡ 4 → (a : Operand) × (b : Operand) × (c : Operand) × (d : Operand) × (os ≡ a ∷ b ∷ c ∷ d ∷ [])
of_four [] count = absurd (omega arith)
of_four (a ∷ os) count = let rest = of_three os (omega arith) in (a, rest.0, rest.1, rest.2, ap (λ (xs : List Operand). a ∷ xs) rest.3)

of_five : (os : List Operand) → length os ≡ 5 → (a : Operand) × (b : Operand) × (c : Operand) × (d : Operand) × (e : Operand) × (os ≡ a ∷ b ∷ c ∷ d ∷ e ∷ [])
of_five [] count = absurd (omega arith)
of_five (a ∷ os) count = let rest = of_four os (omega arith) in (a, rest.0, rest.1, rest.2, rest.3, ap (λ (xs : List Operand). a ∷ xs) rest.4)

most_of : (n a b d : ℕ) → n ≤ 2 + (a + b) + d → n ≤ 2 + (0 + a + b + d)
most_of n a b d le = omega arith

two_of : (n a d : ℕ) → n ≤ 2 + a + d → n ≤ 2 + (0 + a + d)
two_of n a d le = omega arith

four_of : (n a x y d : ℕ) → n ≤ 2 + a + x + y + d → n ≤ 2 + (0 + a + x + y + d)
four_of n a x y d le = omega arith

five_of : (n a b x y d : ℕ) → n ≤ 2 + (a + b) + x + y + d → n ≤ 2 + (0 + a + b + x + y + d)
five_of n a b x y d le = omega arith

module _ (f : Frame) where
  -- ---- instructions

  tested_two : (cond : Cond) (a b : Operand) (os : List Operand) → length (fetch_tested f (Compare cond) (a ∷ b ∷ os)) ≤ arg_words a.arg + arg_words b.arg
  tested_two cond a b os =
      let first = fetch_most f 15 a.arg in
      let second = fetch_most f 16 b.arg in
      let least_a = place_least a.arg in
      let least_b = place_least b.arg in
      let one : length (fetch_tested f (Compare cond) (a ∷ b ∷ os)) ≡ length (fetch f 15 a.arg) + length (fetch f 16 b.arg) =
      length-append (fetch f 15 a.arg) (fetch f 16 b.arg) in
      omega arith

  fetched_alone : (a : Operand) → length (fetch f 15 a.arg ++ []) ≤ arg_words a.arg
  fetched_alone a =
      let first = fetch_most f 15 a.arg in
      let least_a = place_least a.arg in
      let one : length (fetch f 15 a.arg ++ []) ≡ length (fetch f 15 a.arg) + 0 = length-append (fetch f 15 a.arg) [] in
      omega arith

  -- a test, an instruction and what puts its result
  tested_words : (tested : List Inst) (i j : Inst) (d : Arg) (n : ℕ) → length tested ≤ n
      → length (tested ++ i ∷ j ∷ put_result f (result_reg d) d) ≤ 2 + n + arg_words d
  tested_words tested i j d n le =
      let put = put_most f (result_reg d) d in
      let least = place_least d in
      let all : length (tested ++ i ∷ j ∷ put_result f (result_reg d) d) ≡ length tested + length (i ∷ j ∷ put_result f (result_reg d) d) =
      length-append tested (i ∷ j ∷ put_result f (result_reg d) d) in
      omega arith

  pub set_most : (t : Test) (os : List Operand) → length os ≡ test_count t + 1 → length (set_code f t os) ≤ 2 + sum_by (operand_words f) os
  set_most (Compare cond) os count =
      let shape = of_three os count in
      let a : Operand = shape.0 in
      let b : Operand = shape.1 in
      let d : Operand = shape.2 in
      subst (λ xs. length (set_code f (Compare cond) xs) ≤ 2 + sum_by (operand_words f) xs) (sym shape.3)
      (let most = tested_words (fetch_tested f (Compare cond) (a ∷ b ∷ d ∷ [])) (test_at (Compare cond) (a ∷ b ∷ d ∷ [])) _ d.arg
      (arg_words a.arg + arg_words b.arg) (tested_two cond a b (d ∷ [])) in most_of _ (arg_words a.arg) (arg_words b.arg) (arg_words d.arg) most)
  set_most NonZero os count =
      let shape = of_two os count in
      let a : Operand = shape.0 in
      let d : Operand = shape.1 in
      subst (λ xs. length (set_code f NonZero xs) ≤ 2 + sum_by (operand_words f) xs) (sym shape.2)
      (two_of _ (arg_words a.arg) (arg_words d.arg) (tested_words (fetch_tested f NonZero (a ∷ d ∷ [])) (test_at NonZero (a ∷ d ∷ [])) _ d.arg
      (arg_words a.arg) (fetched_alone a)))
  set_most (Bit k) os count =
      let shape = of_two os count in
      let a : Operand = shape.0 in
      let d : Operand = shape.1 in
      subst (λ xs. length (set_code f (Bit k) xs) ≤ 2 + sum_by (operand_words f) xs) (sym shape.2)
      (two_of _ (arg_words a.arg) (arg_words d.arg) (tested_words (fetch_tested f (Bit k) (a ∷ d ∷ [])) (test_at (Bit k) (a ∷ d ∷ [])) _ d.arg
      (arg_words a.arg) (fetched_alone a)))

  -- a test, two words that are fetched, an instruction and what puts its result
  select_words : (tested : List Inst) (i j : Inst) (x y d : Arg) (n : ℕ) → length tested ≤ n
      → length (tested ++ i ∷ fetch f 15 x ++ fetch f 16 y ++ j ∷ put_result f (result_reg d) d) ≤ 2 + n + arg_words x + arg_words y + arg_words d
  select_words tested i j x y d n le =
      let first = fetch_most f 15 x in
      let second = fetch_most f 16 y in
      let put = put_most f (result_reg d) d in
      let least_x = place_least x in
      let least_y = place_least y in
      let least_d = place_least d in
      let a : length (tested ++ i ∷ fetch f 15 x) ≡ length tested + suc (length (fetch f 15 x)) = length-append tested (i ∷ fetch f 15 x) in
      let b : length (tested ++ i ∷ fetch f 15 x ++ fetch f 16 y) ≡ length (tested ++ i ∷ fetch f 15 x) + length (fetch f 16 y) =
      length-append (tested ++ i ∷ fetch f 15 x) (fetch f 16 y) in
      let c : length (tested ++ i ∷ fetch f 15 x ++ fetch f 16 y ++ j ∷ put_result f (result_reg d) d) ≡ length
      (tested ++ i ∷ fetch f 15 x ++ fetch f 16 y) + suc (length (put_result f (result_reg d) d)) =
      length-append (tested ++ i ∷ fetch f 15 x ++ fetch f 16 y) (j ∷ put_result f (result_reg d) d) in
      omega arith

  pub select_most : (t : Test) (os : List Operand) → length os ≡ test_count t + 3 → length (select_code f t os) ≤ 2 + sum_by (operand_words f) os
  select_most (Compare cond) os count =
      let shape = of_five os count in
      let a : Operand = shape.0 in
      let b : Operand = shape.1 in
      let x : Operand = shape.2 in
      let y : Operand = shape.3 in
      let d : Operand = shape.4 in
      let xs : List Operand = a ∷ b ∷ x ∷ y ∷ d ∷ [] in
      subst (λ os. length (select_code f (Compare cond) os) ≤ 2 + sum_by (operand_words f) os) (sym shape.5)
      (five_of _ (arg_words a.arg) (arg_words b.arg) (arg_words x.arg) (arg_words y.arg) (arg_words d.arg)
      (select_words (fetch_tested f (Compare cond) xs) (test_at (Compare cond) xs) _ x.arg y.arg d.arg (arg_words a.arg + arg_words b.arg)
      (tested_two cond a b (x ∷ y ∷ d ∷ []))))
  select_most NonZero os count =
      let shape = of_four os count in
      let a : Operand = shape.0 in
      let x : Operand = shape.1 in
      let y : Operand = shape.2 in
      let d : Operand = shape.3 in
      let xs : List Operand = a ∷ x ∷ y ∷ d ∷ [] in
      subst (λ os. length (select_code f NonZero os) ≤ 2 + sum_by (operand_words f) os) (sym shape.4)
      (four_of _ (arg_words a.arg) (arg_words x.arg) (arg_words y.arg) (arg_words d.arg)
      (select_words (fetch_tested f NonZero xs) (test_at NonZero xs) _ x.arg y.arg d.arg (arg_words a.arg) (fetched_alone a)))
  select_most (Bit k) os count =
      let shape = of_four os count in
      let a : Operand = shape.0 in
      let x : Operand = shape.1 in
      let y : Operand = shape.2 in
      let d : Operand = shape.3 in
      let xs : List Operand = a ∷ x ∷ y ∷ d ∷ [] in
      subst (λ os. length (select_code f (Bit k) os) ≤ 2 + sum_by (operand_words f) os) (sym shape.4)
      (four_of _ (arg_words a.arg) (arg_words x.arg) (arg_words y.arg) (arg_words d.arg)
      (select_words (fetch_tested f (Bit k) xs) (test_at (Bit k) xs) _ x.arg y.arg d.arg (arg_words a.arg) (fetched_alone a)))

  pub copy_most : (os : List Operand) → length os ≡ 2 → length (copy_code f (width_at os 0) (arg_at os 0) (arg_at os 1)) ≤ 1 + sum_by (operand_words f) os
  copy_most os count =
      let shape = of_two os count in
      let a : Operand = shape.0 in
      let d : Operand = shape.1 in
      subst (λ xs. length (copy_code f (width_at xs 0) (arg_at xs 0) (arg_at xs 1)) ≤ 1 + sum_by (operand_words f) xs) (sym shape.2)
      (let reg : ℕ = copy_reg a.arg d.arg in
      let first = bring_most f a.width reg a.arg in
      let put = put_most f reg d.arg in
      let least = place_least d.arg in
      let both = length-append (bring f a.width reg a.arg) (put_result f reg d.arg) in
      omega arith)

  -- ---- what ends a block

  before_branches : (t : Test) (os : List Operand) → length os ≡ test_count t → length (fetch_tested f t os ++ compared t os) ≤ 1 + sum_by (operand_words f) os
  before_branches (Compare cond) os count =
      let shape = of_two os count in
      let a : Operand = shape.0 in
      let b : Operand = shape.1 in
      subst (λ xs. length (fetch_tested f (Compare cond) xs ++ compared (Compare cond) xs) ≤ 1 + sum_by (operand_words f) xs) (sym shape.2)
      (let tested = tested_two cond a b [] in
      let both = length-append (fetch_tested f (Compare cond) (a ∷ b ∷ [])) (compared (Compare cond) (a ∷ b ∷ [])) in
      omega arith)
  before_branches NonZero os count = one_before os count
    where
      one_before : (os : List Operand) → length os ≡ 1 → length (fetch_tested f NonZero os ++ compared NonZero os) ≤ 1 + sum_by (operand_words f) os
      one_before os count =
          let shape = of_one os count in
          let a : Operand = shape.0 in
          subst (λ xs. length (fetch_tested f NonZero xs ++ compared NonZero xs) ≤ 1 + sum_by (operand_words f) xs) (sym shape.1)
          (let alone = fetched_alone a in
          let both = length-append (fetch f 15 a.arg ++ []) [] in
          omega arith)
  before_branches (Bit k) os count = one_before os count
    where
      one_before : (os : List Operand) → length os ≡ 1 → length (fetch_tested f (Bit k) os ++ compared (Bit k) os) ≤ 1 + sum_by (operand_words f) os
      one_before os count =
          let shape = of_one os count in
          let a : Operand = shape.0 in
          subst (λ xs. length (fetch_tested f (Bit k) xs ++ compared (Bit k) xs) ≤ 1 + sum_by (operand_words f) xs) (sym shape.1)
          (let alone = fetched_alone a in
          let both = length-append (fetch f 15 a.arg ++ []) [] in
          omega arith)

  -- a test in front of others
  pub check_before : (t : Test) (inputs rest : List Operand) → length inputs ≡ test_count t
      → length (fetch_tested f t (inputs ++ rest) ++ compared t (inputs ++ rest)) ≤ 1 + sum_by (operand_words f) inputs
  check_before (Compare cond) inputs rest count =
      let shape = of_two inputs count in
      subst (λ (xs : List Operand). length (fetch_tested f (Compare cond) (xs ++ rest) ++ compared (Compare cond) (xs ++ rest))
      ≤ 1 + sum_by (operand_words f) xs) (sym shape.2) (before_branches (Compare cond) (shape.0 ∷ shape.1 ∷ []) refl)
  check_before NonZero inputs rest count =
      let shape = of_one inputs count in
      subst (λ (xs : List Operand). length (fetch_tested f NonZero (xs ++ rest) ++ compared NonZero (xs ++ rest)) ≤ 1 + sum_by (operand_words f) xs)
      (sym shape.1) (before_branches NonZero (shape.0 ∷ []) refl)
  check_before (Bit k) inputs rest count =
      let shape = of_one inputs count in
      subst (λ (xs : List Operand). length (fetch_tested f (Bit k) (xs ++ rest) ++ compared (Bit k) (xs ++ rest)) ≤ 1 + sum_by (operand_words f) xs)
      (sym shape.1) (before_branches (Bit k) (shape.0 ∷ []) refl)

  -- the words of a check: its branch may be long
  pub guarded_most : (before : List Inst) (t : Test) (width : Width) (reg label : ℕ) (behind : List Inst)
      → words_of (guarded before t width reg label behind) ≤ length before + 2 + length behind
  guarded_most before t width reg label behind =
      let both = sum_by-append (size_of true) (plains before) (branch_item t true width reg label ∷ plains behind) in
      let front = plain_words before in
      let back = plain_words behind in
      let branch = branch_most t true width reg label in
      let one = sum_by-cons (size_of true) (branch_item t true width reg label) (plains behind) in
      omega arith

  -- the words of an exit
  pub exit_words : (label mark : ℕ) (b : Bool) → words_of (exits_by b label mark) ≤ (if b then 1 else 0)
  exit_words label mark true =
      let one = sum_by-cons (size_of true) (Label label) (Mark mark ∷ Plain (Break 1) ∷ []) in
      let two = sum_by-cons (size_of true) (Mark mark) (Plain (Break 1) ∷ []) in
      let three = sum_by-cons (size_of true) (Plain (Break 1)) [] in
      omega arith
  exit_words label mark false = omega arith

  -- how many words compare
  abbrev pub compare_words : Checked → ℕ
  compare_words Sum = 1
  compare_words Difference = 1
  compare_words Product = 3

  comparing_count : (kind : Checked) (width : Width) (a b : ℕ) → length (comparing kind width a b) ≡ compare_words kind
  unfolding comparing
  comparing_count Sum width a b = refl
  comparing_count Difference width a b = refl
  comparing_count Product W32 a b = refl
  comparing_count Product W64 a b = refl

  making_count : (kind : Checked) (width : Width) (rd a b : ℕ) → length (making kind width rd a b) ≡ 1
  unfolding making
  making_count Sum width rd a b = refl
  making_count Difference width rd a b = refl
  making_count Product width rd a b = refl

  last_of : (xs : List Operand) (o d : Operand) → get_or (xs ++ o ∷ []) (length (xs ++ o ∷ []) - 1) d ≡ o
  last_of xs o d =
      let count = length-append xs (o ∷ []) in
      ap (λ n. get_or (xs ++ o ∷ []) n d) (omega arith) ∙ at_end xs
    where
      at_end : (xs : List Operand) → get_or (xs ++ o ∷ []) (length xs) d ≡ o
      at_end [] = refl
      at_end (x ∷ xs) = at_end xs

  pub checked_most : (label : ℕ) (kind : Checked) (a b : Operand) (more : List Operand) (o : Operand)
      → words_of (checked_items f label kind (a ∷ b ∷ (more ++ o ∷ [])))
      ≤ compare_words kind + 3 + sum_by (operand_words f) (a ∷ b ∷ (more ++ o ∷ []))
  checked_most label kind a b more o =
      let os : List Operand = a ∷ b ∷ (more ++ o ∷ []) in
      let d : Operand = record { role = Use; width = W64; arg = Imm 0 } in
      let last : result_at os ≡ o.arg = ap (λ (x : Operand). x.arg) (last_of (a ∷ b ∷ more) o d) in
      let ra : ℕ = reg_of (source_at os 0 15) in
      let rb : ℕ = reg_of (source_at os 1 16) in
      let rd : ℕ = result_reg (result_at os) in
      let compare : List Inst = comparing kind (width_at os 0) ra rb in
      let make : List Inst = making kind (width_at os 0) rd ra rb in
      let put : length (put_result f rd (result_at os)) ≤ place_words o.arg =
      subst (λ (x : Arg). length (put_result f rd x) ≤ place_words o.arg) (sym last) (put_most f rd o.arg) in
      let most = guarded_most (fetch_checked f kind os) (Compare (passing kind)) (width_at os 0) 0 label (make_checked f kind os) in
      let first = fetch_most f 15 a.arg in
      let second = fetch_most f 16 b.arg in
      let least_a = place_least a.arg in
      let least_b = place_least b.arg in
      let least_o = place_least o.arg in
      let one = length-append (fetch f 15 a.arg) (fetch f 16 b.arg ++ compare) in
      let two = length-append (fetch f 16 b.arg) compare in
      let three = length-append make (put_result f rd (result_at os)) in
      let compares = comparing_count kind (width_at os 0) ra rb in
      let makes = making_count kind (width_at os 0) rd ra rb in
      let sum_a = sum_by-cons (operand_words f) a (b ∷ (more ++ o ∷ [])) in
      let sum_b = sum_by-cons (operand_words f) b (more ++ o ∷ []) in
      let sum_more = sum_by-append (operand_words f) more (o ∷ []) in
      let sum_o = sum_by-cons (operand_words f) o [] in
      omega arith

  pub branch_code_most : (next : ℕ) (targets : List ℕ) (t : Test) (os : List Operand) → length os ≡ test_count t
      → words_of (branch_code f next targets t os) ≤ 4 + sum_by (operand_words f) os
  branch_code_most next targets t os count =
      let before = before_branches t os count in
      let plain = plain_words (fetch_tested f t os ++ compared t os) in
      let items : List Item = branches t (width_at os 0) (reg_of (source_at os 0 15)) next (get_or targets 0 0) (get_or targets 1 0) in
      let most = branches_most t (width_at os 0) (reg_of (source_at os 0 15)) next (get_or targets 0 0) (get_or targets 1 0) in
      let both = sum_by-append (size_of true) (plains (fetch_tested f t os ++ compared t os)) items in
      omega arith

  pub switch_code_most : (next label : ℕ) (cases targets : List ℕ) (os : List Operand) → length os ≡ 1
      → words_of (plains (fetch f 15 (arg_at os 0)) ++ switch_items (width_at os 0) (reg_of (source_at os 0 15)) next label cases targets) ≤ 10 * length
      cases + 2 + sum_by (operand_words f) os
  switch_code_most next label cases targets os count =
      let shape = of_one os count in
      let a : Operand = shape.0 in
      subst (λ xs. words_of (plains (fetch f 15 (arg_at xs 0)) ++ switch_items (width_at xs 0) (reg_of (source_at xs 0 15)) next label cases targets)
      ≤ 10 * length cases + 2 + sum_by (operand_words f) xs) (sym shape.1)
      (let first = fetch_most f 15 a.arg in
      let least = place_least a.arg in
      let plain = plain_words (fetch f 15 a.arg) in
      let most = switch_most a.width (reg_of (source_at (a ∷ []) 0 15)) next label cases targets in
      let both = sum_by-append (size_of true) (plains (fetch f 15 a.arg)) (switch_items a.width (reg_of (source_at (a ∷ []) 0 15)) next label cases targets) in
      omega arith)

  saves_most : (rows : List SavedRow) → length (saves f rows) ≤ 2 * length rows
  unfolding saves
  saves_most [] = omega arith
  saves_most (s ∷ rows) =
      let here = store_most s.reg.0 (above_sp f s.offset) in
      let more = saves_most rows in
      let both = length-append (store_at s.reg.0 (above_sp f s.offset)) (saves f rows) in
      omega arith

  restores_most : (rows : List SavedRow) → length (restores f rows) ≤ 2 * length rows
  unfolding restores
  restores_most [] = omega arith
  restores_most (s ∷ rows) =
      let here = load_most s.reg.0 (above_sp f s.offset) in
      let more = restores_most rows in
      let both = length-append (load_at s.reg.0 (above_sp f s.offset)) (restores f rows) in
      omega arith

  unless_most : (n : ℕ) (inst : Inst) → length (unless_zero n (inst ∷ [])) ≤ 1
  unless_most n inst = elim (nat_eq n 0) as (λ b. length (if b then [] else inst ∷ []) ≤ 1) [ true ↦ omega arith | false ↦ omega arith ]

  lower_most : (bytes : ℕ) → length (lower_sp bytes) ≤ 2
  unfolding lower_sp
  lower_most bytes =
      let first = unless_most (bytes / 4096) (AddSubImm W64 true false 31 31 (bytes / 4096) true) in
      let second = unless_most (bytes % 4096) (AddSubImm W64 true false 31 31 (bytes % 4096) false) in
      let both = length-append (unless_zero (bytes / 4096) (AddSubImm W64 true false 31 31 (bytes / 4096) true ∷ []))
      (unless_zero (bytes % 4096) (AddSubImm W64 true false 31 31 (bytes % 4096) false ∷ [])) in
      omega arith

  pub prologue_most : length f.saved ≤ 10 → length (prologue f) ≤ 24
  unfolding prologue
  prologue_most few =
      let low = lower_most (f.bytes - 16) in
      let saved = saves_most f.saved in
      let both = length-append (lower_sp (f.bytes - 16)) (saves f f.saved) in
      omega arith

  pub epilogue_most : length f.saved ≤ 10 → length (epilogue f) ≤ 24
  unfolding epilogue
  epilogue_most few =
      let restored = restores_most f.saved in
      let both = length-append (restores f f.saved) leave in
      omega arith
