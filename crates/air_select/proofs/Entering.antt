-- The entry: it moves each argument that is named into its temporary, and leads to the block behind it.
use Rattle.std.proofs.Common.{◌≡◌, ℕ, ◌≤◌, Bool, true, false, ◌||◌, List, [], ◌∷◌, refl, ap, ◌∙◌, subst, arith, eq-eqb, ⊎_elim}
use Rattle.std.specs.Prelude.{Contains}
use Rattle.std.specs.List.{list_any}
use Rattle.b3_base.proofs.Lists.{Contains-none, Contains-cases, place_of}
use Rattle.b3_ir.specs.Procedure.{Procedure, values_of}
use Rattle.b3_ir.specs.declared.opcode.Opcode.{Opcode}
use Rattle.b3_ir.specs.declared.opcode.Opcode.TheVariants as opcode
use Rattle.b3_ir.specs.declared.value.Body.{Body}
use Rattle.b3_ir.specs.declared.value.Body.TheVariants.{Argument}
use Rattle.b3_ir.specs.declared.value.Reg.{Reg}
use Rattle.b3_ir.specs.declared.value.Value.{Value}
use Rattle.b3_rules.specs.Rules.{IsArgumentIn}
use Rattle.b3_rules.specs.Valid.{IsValidProcedure, ValueAt}
use Rattle.b3_rules.specs.declared.rule.Rule.TheVariants as rule
use Rattle.air_select.specs.Selected.{names_register}
use Rattle.air_select.proofs.Does.{HasArguments}

-- ---- the arguments that are named

any_passes : (test : Value → Bool) (vs : List Value) (v : Value) → Contains vs v → test v ≡ true → list_any test vs ≡ true
any_passes test [] v has e = absurd (Contains-none v has)
any_passes test (w ∷ vs) v has e =
    ⊎_elim
    (λ (same : w ≡ v). ap (λ b. b || list_any test vs) (ap test same ∙ e))
    (λ (more : Contains vs v). ap (λ b. test w || b) (any_passes test vs v more e) ∙ or_true (test w))
    (Contains-cases w vs v has)
  where
    or_true : (b : Bool) → (b || true) ≡ true
    or_true true = refl
    or_true false = refl

low_register : (body : Body) (reg : Reg) → body ≡ Argument reg → IsArgumentIn body → reg.0 ≤ 7
low_register body reg e few = subst IsArgumentIn e few

-- each argument is in one of the registers that the entry moves, and the entry moves it
pub has_arguments : (p : Procedure) → IsValidProcedure p → HasArguments p
has_arguments p valid b v reg has is body =
    let at = place_of (values_of p b) v has in
    let rule_is = valid rule.Arguments (ValueAt b at.0 v) at.1 is in
    let few : reg.0 ≤ 7 = low_register v.body reg body rule_is.1 in
    let here : Contains (values_of p 0) v = subst (λ (n : ℕ). Contains (values_of p n) v) rule_is.0 has in
    let passes : names_register reg.0 v.kind.opcode v.body ≡ true =
    ap (λ (o : Opcode). names_register reg.0 o v.body) is ∙ ap (names_register reg.0 opcode.ArgumentReg) body ∙ eq-eqb reg.0 reg.0 refl in
    (omega arith, any_passes (λ (w : Value). names_register reg.0 w.kind.opcode w.body) (values_of p 0) v here passes)
