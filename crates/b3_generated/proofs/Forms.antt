-- The values of a made procedure by their ids, 0 to 516, whatever their lines.
use Rattle.std.proofs.Common.{◌≡◌, ℕ, zero, suc, ◌+◌, ◌%◌, ◌-◌, ◌^◌, ◌<◌, ◌≤◌, ◌⊎◌, inl, inr, Bool, true, false, List, [], ◌∷◌, ◌++◌, Some, length, refl, sym, ap, ◌∙◌, subst, arith, nat_eq, nat_lt, if◌then◌else◌}
use Rattle.std.specs.Prelude.{slice_get}
use Rattle.std.proofs.lemmas.Bool.{eq-eqb}
use Rattle.std.proofs.lemmas.Bool.Decides.{nat_tests}
use Rattle.b3_ir.specs.Naming.{with_id}
use Rattle.b3_ir.specs.declared.opcode.Opcode.{Opcode}
use Rattle.b3_ir.specs.declared.opcode.Opcode.TheVariants as op
use Rattle.b3_ir.specs.declared.value.Value.{Value}
use Rattle.b3_module.specs.Canonical.{lined_values, rows_of_value}
use Rattle.b3_trial.specs.Generated.{child_before, drawn, next_state, opcode_of, state_behind}
use Rattle.b3_generated.specs.Made.{argument, arguments, branch, constant, entry, jump, less, loop_values, operation, operations, phi, return_value, upsilon}

-- an id below another whose value has a word: all but the two at the end of block 0
abbrev pub IsWordBelow : ℕ → ℕ → Type 0
IsWordBelow i x = (x < i) × ((x < 10) ⊎ (12 ≤ x))

-- the value of an id
pub data Form (i : ℕ) (v : Value) : Type 0 where
  IsArgument : (line : ℕ) (low : i < 8) (is : v ≡ argument line i) → Form i v
  IsConstant : (line word : ℕ) (low : 8 ≤ i) (high : i < 10) (small : word < 2 ^ 32) (is : v ≡ constant line i word) → Form i v
  IsFirst : (line : ℕ) (at : i ≡ 10) (is : v ≡ upsilon line 10 0) → Form i v
  IsJump : (line : ℕ) (at : i ≡ 11) (is : v ≡ jump line) → Form i v
  IsPhi : (line : ℕ) (at : i ≡ 12) (is : v ≡ phi line) → Form i v
  IsOperation : (line number x y : ℕ) (low : 13 ≤ i) (high : i < 513)
      (first : IsWordBelow i x) (second : IsWordBelow i y) (is : v ≡ operation line i number x y) → Form i v
  IsNext : (line : ℕ) (at : i ≡ 513) (is : v ≡ upsilon line 513 512) → Form i v
  IsLess : (line : ℕ) (at : i ≡ 514) (is : v ≡ less line) → Form i v
  IsBranch : (line : ℕ) (at : i ≡ 515) (is : v ≡ branch line) → Form i v
  IsReturn : (line : ℕ) (at : i ≡ 516) (is : v ≡ return_value line) → Form i v

-- what holds of each form
pub record Cases (P : ℕ → Value → Type 0) : Type 0 where
  pub arguments : (line i : ℕ) → i < 8 → P i (argument line i)
  pub constants : (line i word : ℕ) → 8 ≤ i → i < 10 → word < 2 ^ 32 → P i (constant line i word)
  pub first : (line : ℕ) → P 10 (upsilon line 10 0)
  pub jump : (line : ℕ) → P 11 (jump line)
  pub phi : (line : ℕ) → P 12 (phi line)
  pub operations : (line i number x y : ℕ) → 13 ≤ i → i < 513 → IsWordBelow i x → IsWordBelow i y → P i (operation line i number x y)
  pub next : (line : ℕ) → P 513 (upsilon line 513 512)
  pub less : (line : ℕ) → P 514 (less line)
  pub branch : (line : ℕ) → P 515 (branch line)
  pub returned : (line : ℕ) → P 516 (return_value line)

moved : (P : ℕ → Value → Type 0) (i k : ℕ) (v w : Value) → i ≡ k → v ≡ w → P k w → P i v
moved P i k v w at is h = subst (λ n. P n v) (sym at) (subst (P k) (sym is) h)

pub by_form : (P : ℕ → Value → Type 0) → Cases P → (i : ℕ) (v : Value) → Form i v → P i v
by_form P cases i v (IsArgument line low is) = subst (P i) (sym is) (cases.arguments line i low)
by_form P cases i v (IsConstant line word low high small is) = subst (P i) (sym is) (cases.constants line i word low high small)
by_form P cases i v (IsFirst line at is) = moved P i 10 v (upsilon line 10 0) at is (cases.first line)
by_form P cases i v (IsJump line at is) = moved P i 11 v (jump line) at is (cases.jump line)
by_form P cases i v (IsPhi line at is) = moved P i 12 v (phi line) at is (cases.phi line)
by_form P cases i v (IsOperation line number x y low high first second is) = subst (P i) (sym is) (cases.operations line i number x y low high first second)
by_form P cases i v (IsNext line at is) = moved P i 513 v (upsilon line 513 512) at is (cases.next line)
by_form P cases i v (IsLess line at is) = moved P i 514 v (less line) at is (cases.less line)
by_form P cases i v (IsBranch line at is) = moved P i 515 v (branch line) at is (cases.branch line)
by_form P cases i v (IsReturn line at is) = moved P i 516 v (return_value line) at is (cases.returned line)

-- what holds of each opcode of arithmetic
pub by_opcode : (Q : Opcode → Type 0) → Q op.Add → Q op.Sub → Q op.Mul → Q op.BitAnd → Q op.BitOr → Q op.BitXor → (n : ℕ) → Q (opcode_of n)
by_opcode Q a b c d e f zero = a
by_opcode Q a b c d e f (suc zero) = b
by_opcode Q a b c d e f (suc (suc zero)) = c
by_opcode Q a b c d e f (suc (suc (suc zero))) = d
by_opcode Q a b c d e f (suc (suc (suc (suc zero)))) = e
by_opcode Q a b c d e f (suc (suc (suc (suc (suc n))))) = f

-- ---- values one after the other, the first of which has this id

abbrev pub AllForms : ℕ → List Value → Type 0
AllForms i [] = Unit {0}
AllForms i (v ∷ vs) = Form i v × AllForms (i + 1) vs

pub forms_both : (i k : ℕ) (a b : List Value) → AllForms i a → k ≡ i + length a → AllForms k b → AllForms i (a ++ b)
forms_both i k [] b x e y = let same : k ≡ i = omega (arith, e) in subst (λ n. AllForms n b) same y
forms_both i k (v ∷ a) b x e y = (x.0, forms_both (i + 1) k a b x.1 (omega (arith, e)) y)

pub form_at : (i : ℕ) (vs : List Value) → AllForms i vs → (k : ℕ) (v : Value) → slice_get vs k ≡ Some v → Form (i + k) v
form_at i [] forms k v there = absurd cc
form_at i (w ∷ vs) forms zero v there =
    let same : w ≡ v = cc in
    let at : i ≡ i + 0 = omega arith in
    subst (Form (i + 0)) same (subst (λ n. Form n w) at forms.0)
form_at i (w ∷ vs) forms (suc k) v there =
    let at : i + 1 + k ≡ i + suc k = omega arith in
    subst (λ n. Form n v) at (form_at (i + 1) vs forms.1 k v there)

pub id_of : (i : ℕ) (v : Value) → Form i v → v.id ≡ i
id_of i v form = by_form (λ n w. w.id ≡ n) (record {
  arguments = λ line i low. refl;
  constants = λ line i word low high small. refl;
  first = λ line. refl;
  jump = λ line. refl;
  phi = λ line. refl;
  operations = λ line i number x y low high first second. refl;
  next = λ line. refl;
  less = λ line. refl;
  branch = λ line. refl;
  returned = λ line. refl;
}) i v form

-- an id names the value at its place
pub named : (i : ℕ) (vs : List Value) → AllForms i vs → (k : ℕ) → with_id (i + k) vs ≡ slice_get vs k
named i [] forms k = refl
named i (v ∷ vs) forms zero =
    let here : nat_eq v.id (i + 0) ≡ true = eq-eqb v.id (i + 0) (id_of i v forms.0 ∙ omega arith) in
    rw here refl
named i (v ∷ vs) forms (suc k) =
    let id : v.id ≡ i = id_of i v forms.0 in
    let other : nat_eq v.id (i + suc k) ≡ false = grind (arith, nat_tests) in
    let at : i + suc k ≡ i + 1 + k = omega arith in
    rw other (ap (λ n. with_id n vs) at ∙ named (i + 1) vs forms.1 k)

-- ---- the values on lines

pub lined_length : (line : ℕ) (vs : List Value) → length (lined_values line vs) ≡ length vs
lined_length line [] = refl
lined_length line (v ∷ vs) = ap suc (lined_length (line + length (rows_of_value v)) vs)

pub lined_both : (line : ℕ) (a b : List Value) → (after : ℕ) × (lined_values line (a ++ b) ≡ lined_values line a ++ lined_values after b)
lined_both line [] b = (line, refl)
lined_both line (v ∷ a) b =
    let more = lined_both (line + length (rows_of_value v)) a b in
    (more.0, ap (λ (vs : List Value). record v { line = line } ∷ vs) more.1)

pub drawn_small : (state : ℕ) → drawn state < 2 ^ 32
drawn_small state = omega arith

pub child_formed : (i draw : ℕ) → 13 ≤ i → IsWordBelow i (child_before i draw)
child_formed i draw low = by (nat_lt (draw % (i - 2)) 10) refl low
  where
    by : (b : Bool) → nat_lt (draw % (i - 2)) 10 ≡ b → 13 ≤ i → IsWordBelow i (if b then draw % (i - 2) else draw % (i - 2) + 2)
    by true e low = let few : draw % (i - 2) < 10 = grind (arith, nat_tests) in (omega arith, inl few)
    by false e low = let many : 10 ≤ draw % (i - 2) = grind (arith, nat_tests) in (omega arith, inr (omega arith))

arguments_formed : (count r line : ℕ) → r + count ≤ 8 → AllForms r (lined_values line (arguments count r))
unfolding arguments
arguments_formed zero r line few = tt
arguments_formed (suc count) r line few =
    (IsArgument line (omega arith) refl, arguments_formed count (r + 1) (line + length (rows_of_value (argument 0 r))) (omega arith))

operations_formed : (count state i line : ℕ) → 13 ≤ i → i + count ≤ 513 → AllForms i (lined_values line (operations count state i))
unfolding operations
operations_formed zero state i line low high = tt
operations_formed (suc count) state i line low high = (
  IsOperation line (drawn state % 6) (child_before i (drawn (next_state state))) (child_before i (drawn (next_state (next_state state))))
      low (omega arith) (child_formed i (drawn (next_state state)) low) (child_formed i (drawn (next_state (next_state state))) low) refl,
  operations_formed count (state_behind 3 state) (i + 1) (line + 1) (omega arith) (omega arith),
)

pub arguments_count : (count r : ℕ) → length (arguments count r) ≡ count
unfolding arguments
arguments_count zero r = refl
arguments_count (suc count) r = ap suc (arguments_count count (r + 1))

pub operations_count : (count state i : ℕ) → length (operations count state i) ≡ count
unfolding operations
operations_count zero state i = refl
operations_count (suc count) state i = ap suc (operations_count count (state_behind 3 state) (i + 1))

pub entry_formed : (line word : ℕ) → word < 2 ^ 32 → AllForms 0 (lined_values line (entry word))
entry_formed line word small =
    let rest : List Value = constant 0 8 1 ∷ constant 0 9 word ∷ upsilon 0 10 0 ∷ jump 0 ∷ [] in
    let cut = lined_both line (arguments 8 0) rest in
    let counted : 8 ≡ 0 + length (lined_values line (arguments 8 0)) = omega (arith, lined_length line (arguments 8 0), arguments_count 8 0) in
    subst (AllForms 0) (sym cut.1)
    (forms_both 0 8 (lined_values line (arguments 8 0)) (lined_values cut.0 rest) (arguments_formed 8 0 line (omega arith)) counted (
      IsConstant cut.0 1 (omega arith) (omega arith) (omega arith) refl,
      (
        IsConstant (cut.0 + 1) word (omega arith) (omega arith) small refl,
        (IsFirst (cut.0 + 1 + 1) refl refl, (IsJump (cut.0 + 1 + 1 + 1) refl refl, tt)),
      ),
    ))

pub loop_formed : (line state : ℕ) → AllForms 12 (lined_values line (loop_values state))
loop_formed line state =
    let rest : List Value = upsilon 0 513 512 ∷ less 0 ∷ branch 0 ∷ [] in
    let cut = lined_both (line + 1) (operations 500 state 13) rest in
    let counted : 513 ≡ 13 + length (lined_values (line + 1) (operations 500 state 13)) =
    omega (arith, lined_length (line + 1) (operations 500 state 13), operations_count 500 state 13) in (
      IsPhi line refl refl,
      subst (AllForms 13) (sym cut.1)
          (forms_both 13 513 (lined_values (line + 1) (operations 500 state 13)) (lined_values cut.0 rest)
          (operations_formed 500 state 13 (line + 1) (omega arith) (omega arith)) counted
          (IsNext cut.0 refl refl, (IsLess (cut.0 + 1) refl refl, (IsBranch (cut.0 + 1 + 1) refl refl, tt)))),
    )
