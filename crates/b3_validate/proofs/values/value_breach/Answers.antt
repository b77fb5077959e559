use Rattle.std.proofs.Common.{ℕ, arith, refl, sym, ap, subst, ◌∙◌}
use Rattle.b3_ir.specs.Procedure.{Kept}
use Rattle.b3_ir.specs.declared.opcode.Ty.{Ty}
use Rattle.b3_ir.specs.declared.value.Value.{Value}
use Rattle.b3_rules.specs.Rules.{AreCasesOf, first_type, types_of}
use Rattle.b3_rules.specs.Valid.{ValueKeeps}
use Rattle.b3_rules.specs.declared.rule.Rule.{Rule}
use Rattle.b3_rules.specs.declared.rule.Rule.TheVariants as rule
use Rattle.b3_validate.proofs.Judging.{refutes}
use Rattle.b3_validate.proofs.RuleNumbers.{broken, ended, extended, finished, none_yet, one_more}
use Rattle.b3_validate.proofs.values.value_breach.Goals as goal

abbrev keeps_at : Kept → ℕ → ℕ → Value → Rule → Type 0
keeps_at p b j v r = ValueKeeps r p.procedure b j v

abbrev CasesAt : Kept → Value → Ty → Type 0
CasesAt p v ty = AreCasesOf ty v.body

pub returns-then-is_some-2 : goal.returns-then-is_some-2
returns-then-is_some-2 c j at there =
    let p = c.args.p.now in
    let b = c.args.block in
    let v = c.args.value.now in
    let K : Rule → Type 0 = keeps_at p b j v in
    let are = c.as_slice-types.ensures ∙ c.in_ok-children.ensures p c.requires.index in
    let place = extended K 1 1 6 7 c.place_breach-of_place.result (none_yet K 1) refl (sym c.is_some.ensures ∙ c.if-is_some.false) (c.place_breach-of_place.ensures j at there) in
    ended K 1 7 11 19 c.naming_breach-of_names.result place (omega arith) (omega arith) (sym c.is_some-2.ensures ∙ c.if-is_some-2.true) (c.naming_breach-of_names.ensures p b j c.requires.index are)

pub returns-then-not-branch : goal.returns-then-not-branch
returns-then-not-branch c j at there =
    let p = c.args.p.now in
    let b = c.args.block in
    let v = c.args.value.now in
    let K : Rule → Type 0 = keeps_at p b j v in
    let are = c.as_slice-types.ensures ∙ c.in_ok-children.ensures p c.requires.index in
    let place = extended K 1 1 6 7 c.place_breach-of_place.result (none_yet K 1) refl (sym c.is_some.ensures ∙ c.if-is_some.false) (c.place_breach-of_place.ensures j at there) in
    let names = extended K 1 7 11 12 c.naming_breach-of_names.result place refl (sym c.is_some-2.ensures ∙ c.if-is_some-2.false) (c.naming_breach-of_names.ensures p b j c.requires.index are) in
    let ty = c.first_type.ensures ∙ ap first_type are in
    broken K 1 19 rule.Cases names (omega arith) (omega arith) (λ held. refutes c.in_ok-cases_keep.field-0 c.in_ok-cases_keep.ensures c.if-not-branch.true (subst (CasesAt p v) (sym ty) held))

pub returns-then-is_some-3 : goal.returns-then-is_some-3
returns-then-is_some-3 c j at there =
    let p = c.args.p.now in
    let b = c.args.block in
    let v = c.args.value.now in
    let K : Rule → Type 0 = keeps_at p b j v in
    let are = c.as_slice-types.ensures ∙ c.in_ok-children.ensures p c.requires.index in
    let place = extended K 1 1 6 7 c.place_breach-of_place.result (none_yet K 1) refl (sym c.is_some.ensures ∙ c.if-is_some.false) (c.place_breach-of_place.ensures j at there) in
    let names = extended K 1 7 11 12 c.naming_breach-of_names.result place refl (sym c.is_some-2.ensures ∙ c.if-is_some-2.false) (c.naming_breach-of_names.ensures p b j c.requires.index are) in
    let ty = c.first_type.ensures ∙ ap first_type are in
    let cases : AreCasesOf (first_type (types_of p.procedure v)) v.body = subst (CasesAt p v) ty (c.in_ok-cases_keep.ensures.0 c.if-not-branch.false) in
    let switch = one_more K 1 rule.Cases names cases in
    ended K 1 13 14 19 c.flow_breach-of_flow.result switch (omega arith) (omega arith) (sym c.is_some-3.ensures ∙ c.if-is_some-3.true) (c.flow_breach-of_flow.ensures p j c.requires.index are)

pub returns : goal.returns
returns c j at there =
    let p = c.args.p.now in
    let b = c.args.block in
    let v = c.args.value.now in
    let K : Rule → Type 0 = keeps_at p b j v in
    let are = c.as_slice-types.ensures ∙ c.in_ok-children.ensures p c.requires.index in
    let place = extended K 1 1 6 7 c.place_breach-of_place.result (none_yet K 1) refl (sym c.is_some.ensures ∙ c.if-is_some.false) (c.place_breach-of_place.ensures j at there) in
    let names = extended K 1 7 11 12 c.naming_breach-of_names.result place refl (sym c.is_some-2.ensures ∙ c.if-is_some-2.false) (c.naming_breach-of_names.ensures p b j c.requires.index are) in
    let ty = c.first_type.ensures ∙ ap first_type are in
    let cases : AreCasesOf (first_type (types_of p.procedure v)) v.body = subst (CasesAt p v) ty (c.in_ok-cases_keep.ensures.0 c.if-not-branch.false) in
    let switch = one_more K 1 rule.Cases names cases in
    let flow = extended K 1 13 14 15 c.flow_breach-of_flow.result switch refl (sym c.is_some-3.ensures ∙ c.if-is_some-3.false) (c.flow_breach-of_flow.ensures p j c.requires.index are) in
    finished K 1 15 19 c.site_breach.result flow (omega arith) (c.site_breach.ensures p.procedure b j)
