use Rattle.std.proofs.Common.{subst}
use Rattle.b3_ir.specs.Procedure.{AllFit, Procedure, procedures}
use Rattle.b3_rules.specs.Valid.{IsValid}
use Rattle.air_select.specs.Contract.{procedure_at}
use Rattle.a64_object.proofs.Joining.{its_procedure}
use Rattle.a64_object.proofs.Making.{procedure_there}
use Rattle.b3c_chain.proofs.passes.keeps_rules.Goals as goal

pub returns-clause-valid : goal.returns-clause-valid
returns-clause-valid c =
    let m = c.args.valid.now in
    let valid : IsValid (procedures m) = subst (λ ks. IsValid (procedures ks)) c.module.ensures.same c.module.ensures.valid in
    valid.each c.args.proc (procedure_at m c.args.proc) (procedure_there m c.args.proc c.requires)

pub returns-clause-fit : goal.returns-clause-fit
returns-clause-fit c =
    subst (λ (q : Procedure). AllFit q.blocks)
    (its_procedure c.module.result.now c.args.valid.now c.args.proc c.proc.result.now c.module.ensures.same c.proc.ensures) c.whole.ensures.fit
