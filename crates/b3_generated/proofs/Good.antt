-- The made module is valid and within the limits, and the generated text spells it.
use Rattle.std.proofs.Common.{◌≡◌, ℕ, zero, suc, ◌+◌, ◌*◌, ◌<◌, ◌≤◌, List, [], ◌∷◌, ◌++◌, Some, length, refl, sym, ap, ◌∙◌, subst, arith}
use Rattle.std.specs.Prelude.{All, codes, slice_get, sum_by}
use Rattle.std.specs.Fmt.{decimal}
use Rattle.std.specs.List.{AllByRecursion}
use Rattle.std.proofs.Math.ListN.{length-append}
use Rattle.std.proofs.lemmas.List.Elements.{All-cons, All-nil}
use Rattle.std.proofs.lemmas.List.Sums.{sum_by-cons}
use Rattle.b3_ir.specs.Procedure.{Block, Procedure, total}
use Rattle.b3_ir.specs.declared.value.Value.{Value}
use Rattle.b3_module.specs.Canonical.{lined, lined_procedure, lined_values, rows_of_block, rows_of_procedure}
use Rattle.b3_module.specs.Limits.{operands}
use Rattle.b3_module.specs.TextModules.{IsTextModule, IsTextProcedure}
use Rattle.b3_module.specs.Texts.{Spells}
use Rattle.b3_print.specs.Printed.{canonical}
use Rattle.b3_rules.specs.Valid.{IsValid, IsValidProcedure}
use Rattle.b3_trial.specs.Generated.{drawn, next_state, state_behind}
use Rattle.b3_generated.specs.Laws.{IsGoodText}
use Rattle.b3_generated.specs.Made.{arguments, block_of, branch, constant, entry, jump, less, loop_values, module_of, operations, procedure_of, procedures_from, return_value, upsilon}
use Rattle.b3_generated.proofs.Forms.{AllForms, Form, IsReturn, arguments_count, by_form, drawn_small, entry_formed, lined_length, loop_formed, operations_count}
use Rattle.b3_generated.proofs.Limits.{HasParts, keeps_limits, three_count, three_inner}
use Rattle.b3_generated.proofs.Names.{name_good, name_tells}
use Rattle.b3_generated.proofs.Texts.{generated_is_canonical, procedure_listed}
use Rattle.b3_generated.proofs.Valid.{valid_procedure}
use Rattle.b3_generated.proofs.Values.{IsMade, block_on, made}

-- ---- what holds of each value

all_of : (P : Value → Type 0) → ((i : ℕ) (v : Value) → Form i v → P v) → (i : ℕ) (vs : List Value) → AllForms i vs → All P vs
all_of P each i [] forms = All-nil P
all_of P each i (v ∷ vs) forms = All-cons P v vs (each i v forms.0) (all_of P each (i + 1) vs forms.1)

few_operands : (i : ℕ) (v : Value) → Form i v → operands v ≤ 2
few_operands = by_form (λ i v. operands v ≤ 2) (record {
  arguments = λ line i low. omega arith;
  constants = λ line i word low high small. omega arith;
  first = λ line. omega arith;
  jump = λ line. omega arith;
  phi = λ line. omega arith;
  operations = λ line i number x y low high first second. omega arith;
  next = λ line. omega arith;
  less = λ line. omega arith;
  branch = λ line. omega arith;
  returned = λ line. omega arith;
})

-- ---- one procedure, on lines

record IsGood (k : ℕ) (p : Procedure) : Type 0 where
  pub name : p.name ≡ codes "g" ++ decimal k
  pub valid : IsValidProcedure p
  pub parts : HasParts p
  pub values : total p ≡ 517

entry_count : (word : ℕ) → length (entry word) ≡ 12
entry_count word =
    omega (arith, length-append (arguments 8 0) (constant 0 8 1 ∷ constant 0 9 word ∷ upsilon 0 10 0 ∷ jump 0 ∷ []), arguments_count 8 0)

loop_count : (state : ℕ) → length (loop_values state) ≡ 504
loop_count state =
    omega (arith, length-append (operations 500 state 13) (upsilon 0 513 512 ∷ less 0 ∷ branch 0 ∷ []), operations_count 500 state 13)

module _ (name : List ℕ) (line la lb lc : ℕ) (first second third : List Value) (is : IsMade first second third) where
  abbrev p : Procedure
  p = made name line la lb lc first second third

  made_parts : HasParts p
  made_parts =
      let Few : Value → Type 0 = λ v. operands v ≤ 2 in
      record {
        slots = refl;
        inner = three_inner (block_on 0 la first) (block_on 1 lb second) (block_on 2 lc third) (all_of Few few_operands 0 first is.first_forms)
            (all_of Few few_operands 12 second is.second_forms) (all_of Few few_operands 516 third is.third_forms);
        count = omega (arith, three_count (block_on 0 la first) (block_on 1 lb second) (block_on 2 lc third), is.first_count, is.second_count, is.third_count);
      }

  made_total : total p ≡ 517
  made_total =
      let count : Block → ℕ = λ b. length b.values in
      let a = sum_by-cons count (block_on 0 la first) (block_on 1 lb second ∷ block_on 2 lc third ∷ []) in
      let b = sum_by-cons count (block_on 1 lb second) (block_on 2 lc third ∷ []) in
      let c = sum_by-cons count (block_on 2 lc third) [] in
      omega (arith, a, b, c, is.first_count, is.second_count, is.third_count)

one_good : (line state k : ℕ) → IsGood k (lined_procedure line (procedure_of state k))
one_good line state k =
    let a : Block = block_of 0 (entry (drawn state)) in
    let b : Block = block_of 1 (loop_values (next_state state)) in
    let la : ℕ = line + 1 + 0 in
    let lb : ℕ = la + length (rows_of_block a) in
    let lc : ℕ = lb + length (rows_of_block b) in
    let name : List ℕ = codes "g" ++ decimal k in
    let first : List Value = lined_values (la + 1) a.values in
    let second : List Value = lined_values (lb + 1) b.values in
    let third : List Value = lined_values (lc + 1) (return_value 0 ∷ []) in
    let is : IsMade first second third = record {
      first_forms = entry_formed (la + 1) (drawn state) (drawn_small state);
      second_forms = loop_formed (lb + 1) (next_state state);
      third_forms = (IsReturn (lc + 1) refl refl, tt);
      first_count = lined_length (la + 1) a.values ∙ entry_count (drawn state);
      second_count = lined_length (lb + 1) b.values ∙ loop_count (next_state state);
      third_count = refl;
    } in
    record {
      name = refl;
      valid = valid_procedure name line la lb lc first second third is;
      parts = made_parts name line la lb lc first second third is;
      values = made_total name line la lb lc first second third is;
    }

-- ---- the module

each_good : (count state k line i : ℕ) (p : Procedure) → slice_get (lined line (procedures_from count state k)) i ≡ Some p → (i < count) × IsGood (k + i) p
unfolding procedures_from
each_good zero state k line i p there = absurd cc
each_good (suc count) state k line zero p there =
    let same : lined_procedure line (procedure_of state k) ≡ p = cc in
    let at : k ≡ k + 0 = omega arith in
    (omega arith, subst (IsGood (k + 0)) same (subst (λ n. IsGood n (lined_procedure line (procedure_of state k))) at (one_good line state k)))
each_good (suc count) state k line (suc i) p there =
    let more = each_good count (state_behind 1501 state) (k + 1) (line + length (rows_of_procedure (procedure_of state k))) i p there in
    let at : k + 1 + i ≡ k + suc i = omega arith in
    (omega (arith, more.0), subst (λ n. IsGood n p) at more.1)

lined_count : (line : ℕ) (m : List Procedure) → length (lined line m) ≡ length m
lined_count line [] = refl
lined_count line (p ∷ m) = ap suc (lined_count (line + length (rows_of_procedure p)) m)

procedures_count : (count state k : ℕ) → length (procedures_from count state k) ≡ count
unfolding procedures_from
procedures_count zero state k = refl
procedures_count (suc count) state k = ap suc (procedures_count count (state_behind 1501 state) (k + 1))

procedures_listed : (count state k : ℕ) → k + count < 1000 → AllByRecursion IsTextProcedure (procedures_from count state k)
unfolding procedures_from
procedures_listed zero state k few = tt
procedures_listed (suc count) state k few =
    (procedure_listed state k (name_good k (omega arith)), procedures_listed count (state_behind 1501 state) (k + 1) (omega arith))

total_of : (ps : List Procedure) → ((k : ℕ) (p : Procedure) → slice_get ps k ≡ Some p → total p ≡ 517) → sum_by total ps ≡ 517 * length ps
total_of [] each = omega arith
total_of (p ∷ ps) each =
    omega (arith, sum_by-cons total p ps, each 0 p refl, total_of ps (λ k q there. each (suc k) q there))

module _ (n : ℕ) where
  abbrev ps : List Procedure
  ps = lined 1 (module_of n)

  good : (i : ℕ) (p : Procedure) → slice_get ps i ≡ Some p → (i < 16) × IsGood i p
  good i p there =
      let at : 0 + i ≡ i = omega arith in
      let g = each_good 16 n 0 1 i p there in
      (g.0, subst (λ k. IsGood k p) at g.1)

  as_many : length ps ≡ 16
  as_many = lined_count 1 (module_of n) ∙ procedures_count 16 n 0

  valid : IsValid ps
  valid = record {
    names = λ k p there j q also less same.
        let one = good k p there in
        let other = good j q also in
        let e : j ≡ k = name_tells j k (omega (arith, other.0)) (omega (arith, one.0)) (sym other.1.name ∙ same ∙ one.1.name) in
        omega arith;
    each = λ k p there. (good k p there).1.valid;
  }

  listed : IsTextModule (module_of n)
  listed = record { some = omega (arith, procedures_count 16 n 0); procedures = procedures_listed 16 n 0 (omega arith) }

  pub good_text : ((m : List Procedure) → IsTextModule m → Spells (canonical m) (lined 1 m)) → IsGoodText n
  good_text again = record {
    spells = subst (λ text. Spells text ps) (generated_is_canonical n) (again (module_of n) listed);
    within = keeps_limits ps (omega (arith, as_many)) (λ k p there. (good k p there).1.parts);
    valid = valid;
    procedures = as_many;
    values = omega (arith, total_of ps (λ k p there. (good k p there).1.values), as_many);
  }
