-- Where the values of a made procedure stand, and what their ids name.
use Rattle.std.proofs.Common.{◌≡◌, ℕ, zero, suc, ◌+◌, ◌<◌, ◌≤◌, ◌⊎◌, List, [], ◌∷◌, ◌++◌, Some, length, refl, ap, ◌∙◌, subst, arith, ⊎_elim}
use Rattle.std.specs.Prelude.{slice_get}
use Rattle.std.proofs.Math.ListN.{length-append}
use Rattle.std.proofs.lemmas.Option.{slice_get_within}
use Rattle.b3_ir.specs.Naming.{all_values, type_of, type_or_void, value_named, with_id}
use Rattle.b3_ir.specs.Procedure.{Block, Procedure, StandsAt, values_of}
use Rattle.b3_ir.specs.declared.opcode.Ty.TheVariants.{Int32, Int64}
use Rattle.b3_ir.specs.declared.value.Value.{Value}
use Rattle.b3_generated.proofs.Forms.{AllForms, Form, by_form, form_at, forms_both, named}

-- the id of the first value of a block, and the one behind that of the last
abbrev pub start : ℕ → ℕ
start zero = 0
start (suc zero) = 12
start (suc (suc b)) = 516

abbrev pub limit : ℕ → ℕ
limit zero = 12
limit (suc zero) = 516
limit (suc (suc b)) = 517

pub limit_start : (c b : ℕ) → c < b → b < 3 → limit c ≤ start b
limit_start c zero less few = absurd (omega arith)
limit_start zero (suc zero) less few = omega arith
limit_start (suc c) (suc zero) less few = absurd (omega arith)
limit_start zero (suc (suc b)) less few = omega arith
limit_start (suc zero) (suc (suc b)) less few = omega arith
limit_start (suc (suc c)) (suc (suc b)) less few = absurd (omega arith)

-- three blocks of such values
pub record IsMade (first second third : List Value) : Type 0 where
  pub first_forms : AllForms 0 first
  pub second_forms : AllForms 12 second
  pub third_forms : AllForms 516 third
  pub first_count : length first ≡ 12
  pub second_count : length second ≡ 504
  pub third_count : length third ≡ 1

abbrev pub block_on : ℕ → ℕ → List Value → Block
block_on number line values = record { number = number; line = line; values = values }

abbrev pub made : List ℕ → ℕ → ℕ → ℕ → ℕ → List Value → List Value → List Value → Procedure
made name line la lb lc first second third =
    record { name = name; line = line; slots = []; blocks = block_on 0 la first ∷ block_on 1 lb second ∷ block_on 2 lc third ∷ [] }

some_at : {X : Type 0} (xs : List X) (k : ℕ) → k < length xs → (x : X) × (slice_get xs k ≡ Some x)
some_at [] k lt = absurd (omega arith)
some_at (x ∷ xs) zero lt = (x, refl)
some_at (x ∷ xs) (suc k) lt = some_at xs k (omega arith)

module _ (name : List ℕ) (line la lb lc : ℕ) (first second third : List Value) (is : IsMade first second third) where
  abbrev p : Procedure
  p = made name line la lb lc first second third

  pub count_of : (b : ℕ) → b < 3 → start b + length (values_of p b) ≡ limit b
  count_of zero few = omega (arith, is.first_count)
  count_of (suc zero) few = omega (arith, is.second_count)
  count_of (suc (suc zero)) few = omega (arith, is.third_count)
  count_of (suc (suc (suc b))) few = absurd (omega arith)

  pub block_forms : (b : ℕ) → b < 3 → AllForms (start b) (values_of p b)
  block_forms zero few = is.first_forms
  block_forms (suc zero) few = is.second_forms
  block_forms (suc (suc zero)) few = is.third_forms
  block_forms (suc (suc (suc b))) few = absurd (omega arith)

  pub few_blocks : (b j : ℕ) (v : Value) → StandsAt p b j v → b < 3
  few_blocks zero j v at = omega arith
  few_blocks (suc zero) j v at = omega arith
  few_blocks (suc (suc zero)) j v at = omega arith
  few_blocks (suc (suc (suc b))) j v at = absurd (nothing j v at)
    where
      nothing : (j : ℕ) (v : Value) → ¬ (slice_get [] j ≡ Some v)
      nothing j v e = cc

  pub form_of : (b j : ℕ) (v : Value) → StandsAt p b j v → Form (start b + j) v
  form_of b j v at = form_at (start b) (values_of p b) (block_forms b (few_blocks b j v at)) j v at

  pub below_limit : (b j : ℕ) (v : Value) → StandsAt p b j v → start b + j < limit b
  below_limit b j v at =
      let counted : start b + length (values_of p b) ≡ limit b = count_of b (few_blocks b j v at) in
      let within : j < length (values_of p b) = slice_get_within (values_of p b) j v at in
      omega (arith, counted, within)

  -- the value of each id
  pub stands : (b j : ℕ) → b < 3 → start b + j < limit b → (v : Value) × StandsAt p b j v
  stands b j few lt =
      let counted : start b + length (values_of p b) ≡ limit b = count_of b few in
      some_at (values_of p b) j (omega (arith, counted))

  pub all_forms : AllForms 0 (all_values p)
  all_forms =
      forms_both 0 12 first (second ++ (third ++ [])) is.first_forms (omega (arith, is.first_count))
      (forms_both 12 516 second (third ++ []) is.second_forms (omega (arith, is.second_count))
      (forms_both 516 517 third [] is.third_forms (omega (arith, is.third_count)) tt))

  all_count : length (all_values p) ≡ 517
  all_count =
      let a : length (first ++ (second ++ (third ++ []))) ≡ length first + length (second ++ (third ++ [])) = length-append first (second ++ (third ++ [])) in
      let b : length (second ++ (third ++ [])) ≡ length second + length (third ++ []) = length-append second (third ++ []) in
      let c : length (third ++ []) ≡ length third + 0 = length-append third [] in
      omega (arith, a, b, c, is.first_count, is.second_count, is.third_count)

  pub record Named (i : ℕ) : Type 0 where
    pub value : Value
    pub there : slice_get (all_values p) i ≡ Some value
    pub named : value_named p i ≡ Some value
    pub form : Form i value

  names : (i : ℕ) → value_named p i ≡ slice_get (all_values p) i
  names i = let at : i ≡ 0 + i = omega arith in ap (λ n. with_id n (all_values p)) at ∙ named 0 (all_values p) all_forms i

  pub value_at : (i : ℕ) → i < 517 → Named i
  value_at i lt =
      let v = some_at (all_values p) i (omega (arith, all_count)) in
      let at : 0 + i ≡ i = omega arith in
      record { value = v.0; there = v.1; named = names i ∙ v.1; form = subst (λ n. Form n v.0) at (form_at 0 (all_values p) all_forms i v.0 v.1) }

  -- ---- the types of ids

  word_type : (i : ℕ) (v : Value) → Form i v → (i < 10) ⊎ ((12 ≤ i) × (i < 513)) → v.ty ≡ Int64
  word_type = by_form (λ i v. (i < 10) ⊎ ((12 ≤ i) × (i < 513)) → v.ty ≡ Int64) (record {
    arguments = λ line i low at. refl;
    constants = λ line i word low high small at. refl;
    first = λ line at. absurd (⊎_elim (λ (x : 10 < 10). omega arith) (λ (x : (12 ≤ 10) × (10 < 513)). omega arith) at);
    jump = λ line at. absurd (⊎_elim (λ (x : 11 < 10). omega arith) (λ (x : (12 ≤ 11) × (11 < 513)). omega arith) at);
    phi = λ line at. refl;
    operations = λ line i number x y low high first second at. refl;
    next = λ line at. absurd (⊎_elim (λ (x : 513 < 10). omega arith) (λ (x : (12 ≤ 513) × (513 < 513)). omega arith) at);
    less = λ line at. absurd (⊎_elim (λ (x : 514 < 10). omega arith) (λ (x : (12 ≤ 514) × (514 < 513)). omega arith) at);
    branch = λ line at. absurd (⊎_elim (λ (x : 515 < 10). omega arith) (λ (x : (12 ≤ 515) × (515 < 513)). omega arith) at);
    returned = λ line at. absurd (⊎_elim (λ (x : 516 < 10). omega arith) (λ (x : (12 ≤ 516) × (516 < 513)). omega arith) at);
  })

  pub word_typed : (x : ℕ) → (x < 10) ⊎ ((12 ≤ x) × (x < 513)) → type_of p x ≡ Int64
  word_typed x at =
      let lt : x < 517 = ⊎_elim (λ (low : x < 10). omega arith) (λ (mid : (12 ≤ x) × (x < 513)). omega arith) at in
      let v = value_at x lt in
      ap type_or_void v.named ∙ word_type x v.value v.form at

  less_type : (i : ℕ) (v : Value) → Form i v → i ≡ 514 → v.ty ≡ Int32
  less_type = by_form (λ i v. i ≡ 514 → v.ty ≡ Int32) (record {
    arguments = λ line i low at. absurd (omega arith);
    constants = λ line i word low high small at. absurd (omega arith);
    first = λ line at. absurd (omega arith);
    jump = λ line at. absurd (omega arith);
    phi = λ line at. absurd (omega arith);
    operations = λ line i number x y low high first second at. absurd (omega arith);
    next = λ line at. absurd (omega arith);
    less = λ line at. refl;
    branch = λ line at. absurd (omega arith);
    returned = λ line at. absurd (omega arith);
  })

  pub less_typed : type_of p 514 ≡ Int32
  less_typed = let v = value_at 514 (omega arith) in ap type_or_void v.named ∙ less_type 514 v.value v.form refl
