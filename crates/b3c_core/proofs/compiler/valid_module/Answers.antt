use Rattle.std.proofs.Common.{sym, subst}
use Rattle.b3_ir.specs.Procedure.{procedures}
use Rattle.b3c_core.specs.Compiled.{IsTextOf}
use Rattle.b3c_core.proofs.compiler.valid_module.Goals as goal

pub returns-in-Ok-validate-clause-named : goal.returns-in-Ok-validate-clause-named
returns-in-Ok-validate-clause-named c =
    let m = procedures c.in-Ok-validate.valid in
    let text : IsTextOf c.args.bytes.now m = subst (λ ks. IsTextOf c.args.bytes.now (procedures ks)) (sym c.in-Ok-validate.ensures.same) c.in-Ok.ensures.text in
    record { few = c.texts_are_named.ensures.few m text.within; names = c.texts_are_named.ensures.names c.args.bytes.now m text.spells }
