-- The operands that report children, and those of the registers that are changed, one by one.
use Rattle.std.proofs.Common.{◌≡◌, ◌≢◌, ◌∙◌, ℕ, ◌+◌, ◌<◌, ◌≤◌, Bool, ◌&&◌, true, false, List, [], ◌∷◌, ◌++◌, Option, Some, None, zero, suc, length, slice_get, length-append, inl, inr, refl, sym, ap, subst, arith, cond, All, Contains}
use Rattle.std.proofs.lemmas.Bool.{cases_lt, eqb-true, eq-eqb, or_cases, or_left, or_right}
use Rattle.std.proofs.lemmas.List.Elements.{All-append, All-cons, All-nil, Contains-append_cases, Contains-append_left, Contains-append_right}
use Rattle.b3_base.specs.declared.word.Width.TheVariants.{W64}
use Rattle.b3_ir.specs.declared.value.Constraint.{Constraint}
use Rattle.b3_ir.specs.declared.value.Constraint.TheVariants.{WarmAny, ColdAny, LateColdAny, SomeRegister, SomeRegisterWithClobber, SomeEarlyRegister, SomeLateRegister, Fixed, LateFixed}
use Rattle.b3_ir.specs.declared.value.Reg.{Reg as Register}
use Rattle.b3_ir.specs.declared.value.Value.{Value}
use Rattle.stackmap.specs.Placing.{register_for}
use Rattle.stackmap.specs.Registers.{is_register}
use Rattle.air_ir.specs.Forms.{operand_in}
use Rattle.air_ir.specs.declared.operand.Arg.{Arg}
use Rattle.air_ir.specs.declared.operand.Arg.TheVariants.{At}
use Rattle.air_ir.specs.declared.operand.Home.TheVariants.{Reg}
use Rattle.air_ir.specs.declared.operand.Operand.{Operand}
use Rattle.air_ir.specs.declared.operand.Role.{Role}
use Rattle.air_stackmap.specs.SiteCode.{clobbered_from, in_each, is_clobbering, report_by, reports_from}
use Rattle.air_stackmap.specs.declared.child.Child.{Child}

-- ---- reported children

-- operand k reports child k
pub record Reports (v : Value) (n : ℕ) (cs : List Child) (k : ℕ) (a : Constraint) (o : Operand) : Type 0 where
  pub child : Child
  pub at : slice_get cs k ≡ Some child
  pub is : report_by a (register_for v (n + k)) child ≡ o

pub report_at : (v : Value) (n : ℕ) (wants : List Constraint) (cs : List Child) (k : ℕ) (a : Constraint) (o : Operand)
    → slice_get wants k ≡ Some a → slice_get (reports_from v n wants cs) k ≡ Some o → Reports v n cs k a o
unfolding reports_from
report_at v n [] cs k a o e f = absurd (cc)
report_at v n (x ∷ wants) [] k a o e f = absurd (cc)
report_at v n (x ∷ wants) (c ∷ cs) zero a o e f =
    let same : x ≡ a = cc in
    let made : report_by x (register_for v n) c ≡ o = cc in
    record {
      child = c;
      at = refl;
      is =
          ap (λ (j : ℕ). report_by a (register_for v j) c) (omega arith) ∙ ap (λ (b : Constraint). report_by b (register_for v n) c) (sym same)
          ∙ made;
    }
report_at v n (x ∷ wants) (c ∷ cs) (suc k) a o e f =
    let r = report_at v (suc n) wants cs k a o e f in
    record { child = r.child; at = r.at; is = ap (λ (j : ℕ). report_by a (register_for v j) r.child) (omega arith) ∙ r.is }

pub reports_count : (v : Value) (n : ℕ) (wants : List Constraint) (cs : List Child) → length wants ≡ length cs → length (reports_from v n wants cs) ≡ length cs
unfolding reports_from
reports_count v n [] [] e = refl
reports_count v n [] (c ∷ cs) e = absurd (omega (arith, e))
reports_count v n (a ∷ wants) [] e = absurd (omega (arith, e))
reports_count v n (a ∷ wants) (c ∷ cs) e = ap suc (reports_count v (suc n) wants cs (omega (arith, e)))

-- a fact of each
pub each_report : (P : Operand → Type 0) (v : Value) (n : ℕ) (wants : List Constraint) (cs : List Child) (Q : Child → Type 0) → All Q cs
    → ((k : ℕ) (a : Constraint) (c : Child) → Q c → P (report_by a (register_for v k) c)) → All P (reports_from v n wants cs)
unfolding reports_from
each_report P v n [] cs Q all one = All-nil P
each_report P v n (a ∷ wants) [] Q all one = All-nil P
each_report P v n (a ∷ wants) (c ∷ cs) Q all one =
    All-cons P (report_by a (register_for v n) c) (reports_from v (suc n) wants cs) (one n a c (all 0 c (omega arith)))
    (each_report P v (suc n) wants cs Q (λ i d less. all (suc i) d (omega (arith, less))) one)

-- ---- registers

pub each_in : (P : Operand → Type 0) (role : Role) (is : ℕ → Bool) (n : ℕ)
    → ((r : ℕ) → r < n → is r ≡ true → P (operand_in role W64 r)) → All P (in_each role is n)
unfolding in_each
each_in P role is zero one = All-nil P
each_in P role is (suc n) one =
    All-append P (in_each role is n) _ (each_in P role is n (λ r less e. one r (omega (arith, less)) e)) (last (is n) refl)
  where
    last : (b : Bool) → is n ≡ b → All P (cond b (operand_in role W64 n ∷ []) [])
    last true e = All-cons P (operand_in role W64 n) [] (one n (omega arith) e) (All-nil P)
    last false e = All-nil P

pub in_each_there : (role : Role) (is : ℕ → Bool) (n r : ℕ) → r < n → is r ≡ true → Contains (in_each role is n) (operand_in role W64 r)
unfolding in_each
in_each_there role is zero r less e = absurd (omega (arith, less))
in_each_there role is (suc n) r less e = elim (cases_lt r n) [
  | inl below ↦ Contains-append_left (in_each role is n) _ (operand_in role W64 r) (in_each_there role is n r below e)
  | inr above ↦
      (let same : r ≡ n = omega (arith, less, above) in
      Contains-append_right (in_each role is n) _ (operand_in role W64 r)
      (subst (λ (b : Bool). Contains (cond b (operand_in role W64 n ∷ []) []) (operand_in role W64 r)) (sym (ap is (sym same) ∙ e))
      (0, (omega arith), ap (operand_in role W64) (sym same))))
]

-- a register of those, with the operand that it has
pub record IsIn (role : Role) (is : ℕ → Bool) (n : ℕ) (o : Operand) : Type 0 where
  pub register : ℕ
  pub less : register < n
  pub there : is register ≡ true
  pub operand : operand_in role W64 register ≡ o

pub in_each_from : (role : Role) (is : ℕ → Bool) (n : ℕ) (o : Operand) → Contains (in_each role is n) o → IsIn role is n o
unfolding in_each
in_each_from role is zero o (k, less, e) = absurd (omega (arith, less))
in_each_from role is (suc n) o c = elim (Contains-append_cases (in_each role is n) _ o c) [
  | inl before ↦
      (let i = in_each_from role is n o before in
      record { register = i.register; less = omega (arith, i.less); there = i.there; operand = i.operand })
  | inr last ↦ at_last (is n) refl last
]
  where
    at_last : (b : Bool) → is n ≡ b → Contains (cond b (operand_in role W64 n ∷ []) []) o → IsIn role is (suc n) o
    at_last true e (zero, less, f) = record { register = n; less = omega arith; there = e; operand = f }
    at_last true e (suc k, less, f) = absurd (omega (arith, less))
    at_last false e (k, less, f) = absurd (omega (arith, less))

abbrev number_in : Arg → ℕ
number_in (At (Reg reg)) = reg.0
number_in _ = 0

-- whether a register stands in an operand of its own role, and no other role's
pub in_each_is : (role : Role) (is : ℕ → Bool) (n r : ℕ) → Contains (in_each role is n) (operand_in role W64 r) → is r ≡ true
in_each_is role is n r c = from (in_each_from role is n (operand_in role W64 r) c)
  where
    from : IsIn role is n (operand_in role W64 r) → is r ≡ true
    from i = subst (λ (q : ℕ). is q ≡ true) (ap (λ (o : Operand). number_in o.arg) i.operand) i.there

pub in_each_not : (role other : Role) (is : ℕ → Bool) (n r : ℕ) → role ≢ other → Contains (in_each role is n) (operand_in other W64 r) → ⊥
in_each_not role other is n r ne c = ne (ap (λ (o : Operand). o.role) (in_each_from role is n (operand_in other W64 r) c).operand)

pub in_each_count : (role : Role) (is : ℕ → Bool) (n : ℕ) → length (in_each role is n) ≤ n
unfolding in_each
in_each_count role is zero = omega arith
in_each_count role is (suc n) = more (is n) (in_each_count role is n)
  where
    joined : (xs ys : List Operand) → length (xs ++ ys) ≡ length xs + length ys
    joined xs ys = length-append xs ys

    more : (b : Bool) → length (in_each role is n) ≤ n → length (in_each role is n ++ cond b (operand_in role W64 n ∷ []) []) ≤ suc n
    more true h = omega (arith, h, joined (in_each role is n) (operand_in role W64 n ∷ []))
    more false h = omega (arith, h, joined (in_each role is n) [])

-- ---- the registers that children clobber

-- some child of those from child n on clobbers this register
pub record Clobbers (v : Value) (n : ℕ) (wants : List Constraint) (r : ℕ) : Type 0 where
  pub child : ℕ
  pub asks : slice_get wants child ≡ Some SomeRegisterWithClobber
  pub register : register_for v (n + child) ≡ Some (record { 0 = r })

and_left : (a b : Bool) → (a && b) ≡ true → (a ≡ true) × (b ≡ true)
and_left true b e = (refl, e)
and_left false b e = absurd (cc)

is_it : (a : Constraint) → is_clobbering a ≡ true → a ≡ SomeRegisterWithClobber
is_it SomeRegisterWithClobber e = refl
is_it WarmAny e = absurd (cc)
is_it ColdAny e = absurd (cc)
is_it LateColdAny e = absurd (cc)
is_it SomeRegister e = absurd (cc)
is_it SomeEarlyRegister e = absurd (cc)
is_it SomeLateRegister e = absurd (cc)
is_it (Fixed reg) e = absurd (cc)
is_it (LateFixed reg) e = absurd (cc)

registers_alike : (r : ℕ) (o : Option Register) → is_register r o ≡ true → o ≡ Some (record { 0 = r })
registers_alike r (Some reg) e = ap (λ (q : ℕ). Some (record { 0 = q })) (eqb-true reg.0 r e)
registers_alike r None e = absurd (cc)

pub clobbered_is : (v : Value) (n : ℕ) (wants : List Constraint) (r : ℕ) → clobbered_from v n wants r ≡ true → Clobbers v n wants r
unfolding clobbered_from
clobbered_is v n [] r e = absurd (cc)
clobbered_is v n (a ∷ wants) r e = elim (or_cases _ _ e) [
  | inl here ↦
      (let both = and_left _ _ here in
      record {
        child = 0;
        asks = ap Some (is_it a both.0);
        register = ap (register_for v) (omega arith) ∙ registers_alike r (register_for v n) both.1;
      })
  | inr there ↦
      (let c = clobbered_is v (suc n) wants r there in
      record { child = suc c.child; asks = c.asks; register = ap (register_for v) (omega arith) ∙ c.register })
]

pub is_clobbered : (v : Value) (n : ℕ) (wants : List Constraint) (r k : ℕ) → slice_get wants k ≡ Some SomeRegisterWithClobber
    → register_for v (n + k) ≡ Some (record { 0 = r }) → clobbered_from v n wants r ≡ true
unfolding clobbered_from
is_clobbered v n [] r k e f = absurd (cc)
is_clobbered v n (a ∷ wants) r zero e f =
    or_left (is_clobbering a && is_register r (register_for v n)) _
    (let is : a ≡ SomeRegisterWithClobber = cc in
    let at : register_for v n ≡ Some (record { 0 = r }) = ap (register_for v) (omega arith) ∙ f in rw (is, at, eq-eqb r r refl) refl)
is_clobbered v n (a ∷ wants) r (suc k) e f =
    or_right _ _ (is_clobbered v (suc n) wants r k e (ap (register_for v) (omega arith) ∙ f))
