use Rattle.std.proofs.Common.{◌≡◌, ℕ, true, List, arith, refl, sym, subst, ◌∙◌}
use Rattle.std.proofs.lemmas.Bool.{false≢true}
use Rattle.b3_ir.specs.Procedure.{Kept}
use Rattle.b3_ir.specs.Types.{allows_types}
use Rattle.b3_ir.specs.declared.opcode.Ty.{Ty}
use Rattle.b3_ir.specs.declared.value.Value.{Value}
use Rattle.b3_rules.specs.Rules.{IsTyped, SuitsPhi, types_of}
use Rattle.b3_rules.specs.Valid.{ValueKeeps}
use Rattle.b3_rules.specs.declared.rule.Rule.{Rule}
use Rattle.b3_rules.specs.declared.rule.Rule.TheVariants as rule
use Rattle.b3_validate.proofs.Judging.{refutes}
use Rattle.b3_validate.proofs.RuleNumbers.{all_kept, broken, none_yet, to_cases, to_phis, to_slots, to_successors, to_types}
use Rattle.b3_validate.proofs.values.naming_breach.Goals as goal

abbrev keeps_at : Kept → ℕ → ℕ → Value → Rule → Type 0
keeps_at p b j v r = ValueKeeps r p.procedure b j v

abbrev suits : Kept → Value → List Ty → Type 0
suits p v types = SuitsPhi p.procedure types v.body

abbrev typed : Value → List Ty → Type 0
typed v types = allows_types v.kind.opcode v.ty types ≡ true

pub returns-then-not-knows_ids : goal.returns-then-not-knows_ids
returns-then-not-knows_ids c p b j is are =
    broken (keeps_at p b j c.args.value.now) 7 11 rule.KnownIds (none_yet (keeps_at p b j c.args.value.now) 7) (omega arith) (omega arith) (refutes c.knows_ids.result (c.knows_ids.ensures p is) c.if-not-knows_ids.true)

pub returns-then-not-allows_types : goal.returns-then-not-allows_types
returns-then-not-allows_types c p b j is are =
    let v = c.args.value.now in
    broken (keeps_at p b j v) 7 11 rule.Types (to_types (keeps_at p b j v) ((c.knows_ids.ensures p is).0 c.if-not-knows_ids.false)) (omega arith) (omega arith)
    (λ held. false≢true (sym c.if-not-allows_types.true ∙ c.allows_types.ensures ∙ subst (typed v) (sym are) held))

pub returns-then-not-suits_phi : goal.returns-then-not-suits_phi
returns-then-not-suits_phi c p b j is are =
    let v = c.args.value.now in
    let types : IsTyped p.procedure v = subst (typed v) are (sym c.allows_types.ensures ∙ c.if-not-allows_types.false) in
    broken (keeps_at p b j v) 7 11 rule.Phis (to_phis (keeps_at p b j v) ((c.knows_ids.ensures p is).0 c.if-not-knows_ids.false) types) (omega arith) (omega arith)
    (λ held. refutes c.suits_phi.result (c.suits_phi.ensures p is) c.if-not-suits_phi.true (subst (suits p v) (sym are) held))

pub returns-then-not-knows_slot : goal.returns-then-not-knows_slot
returns-then-not-knows_slot c p b j is are =
    let v = c.args.value.now in
    let types : IsTyped p.procedure v = subst (typed v) are (sym c.allows_types.ensures ∙ c.if-not-allows_types.false) in
    let phis : SuitsPhi p.procedure (types_of p.procedure v) v.body = subst (suits p v) are ((c.suits_phi.ensures p is).0 c.if-not-suits_phi.false) in
    broken (keeps_at p b j v) 7 11 rule.KnownSlots (to_slots (keeps_at p b j v) ((c.knows_ids.ensures p is).0 c.if-not-knows_ids.false) types phis) (omega arith) (omega arith)
    (refutes c.knows_slot.result (c.knows_slot.ensures p is) c.if-not-knows_slot.true)

pub returns-then-not-knows_blocks : goal.returns-then-not-knows_blocks
returns-then-not-knows_blocks c p b j is are =
    let v = c.args.value.now in
    let types : IsTyped p.procedure v = subst (typed v) are (sym c.allows_types.ensures ∙ c.if-not-allows_types.false) in
    let phis : SuitsPhi p.procedure (types_of p.procedure v) v.body = subst (suits p v) are ((c.suits_phi.ensures p is).0 c.if-not-suits_phi.false) in
    broken (keeps_at p b j v) 7 11 rule.Successors
    (to_successors (keeps_at p b j v) ((c.knows_ids.ensures p is).0 c.if-not-knows_ids.false) types phis ((c.knows_slot.ensures p is).0 c.if-not-knows_slot.false)) (omega arith) (omega arith)
    (refutes c.knows_blocks.result (c.knows_blocks.ensures p is) c.if-not-knows_blocks.true)

pub returns : goal.returns
returns c p b j is are =
    let v = c.args.value.now in
    let types : IsTyped p.procedure v = subst (typed v) are (sym c.allows_types.ensures ∙ c.if-not-allows_types.false) in
    let phis : SuitsPhi p.procedure (types_of p.procedure v) v.body = subst (suits p v) are ((c.suits_phi.ensures p is).0 c.if-not-suits_phi.false) in
    all_kept (keeps_at p b j v) 7 11 12 refl
    (to_cases (keeps_at p b j v) ((c.knows_ids.ensures p is).0 c.if-not-knows_ids.false) types phis ((c.knows_slot.ensures p is).0 c.if-not-knows_slot.false) ((c.knows_blocks.ensures p is).0 c.if-not-knows_blocks.false))
