use Rattle.std.proofs.Common.{◌^◌, ◌<◌, ◌≤◌, arith, subst}
use Rattle.b3_rules.specs.Valid.{IsValid}
use Rattle.std.specs.Prelude.{All}
use Rattle.std.specs.Result.{IfOk}
use Rattle.std.proofs.lemmas.Result.{IfOk-weaker}
use Rattle.elf_obj.specs.Size.{size_bound}
use Rattle.a64_run.specs.CodeOf.{IsCodeOf}
use Rattle.b3_ir.specs.Procedure.{AllFit, Procedure, procedures}
use Rattle.a64_object.specs.Joined.{IsJoinedOf}
use Rattle.a64_object.proofs.Taken.{IsTaken, all_taken}
use Rattle.a64_object.proofs.GoodObject.{object_is_code, object_small}
use Rattle.a64_object.proofs.object.module_object.Goals as goal

-- the object that is joined, and its words
is_joined : (c : goal.After-joined_object) → IfOk c.joined_object.result (λ o. IsJoinedOf (procedures c.args.valid.now) o × All (λ word. word < 2 ^ 32) o.text)
is_joined c = grind (arith, c.joined_object.ensures.joined, c.joined_object.ensures.narrow)

-- its procedures are valid, and taken
are_valid : (c : goal.After-joined_object) → IsValid (procedures c.args.valid.now)
are_valid c = subst (λ m. IsValid (procedures m)) c.module.ensures.same c.module.ensures.valid

are_taken : (c : goal.After-joined_object) → All IsTaken (procedures c.args.valid.now)
are_taken c =
    all_taken (procedures c.args.valid.now) (are_valid c)
    (subst (λ m. All (λ (p : Procedure). AllFit p.blocks) (procedures m)) c.module.ensures.same c.all_fit.ensures) c.requires.limits

pub returns-clause-code : goal.returns-clause-code
returns-clause-code c =
    let ps = procedures c.args.valid.now in
    IfOk-weaker c.joined_object.result (λ o. IsJoinedOf ps o × All (λ word. word < 2 ^ 32) o.text) (IsCodeOf ps ps)
    (λ o h. object_is_code ps o (are_valid c) c.requires.named c.requires.limits (are_taken c) h.0 h.1) (is_joined c)

pub returns-clause-small : goal.returns-clause-small
returns-clause-small c =
    let ps = procedures c.args.valid.now in
    IfOk-weaker c.joined_object.result (λ o. IsJoinedOf ps o × All (λ word. word < 2 ^ 32) o.text) (λ o. size_bound o ≤ 134_217_728)
    (λ o h. object_small ps o c.requires.named c.requires.limits (are_taken c) h.0) (is_joined c)
