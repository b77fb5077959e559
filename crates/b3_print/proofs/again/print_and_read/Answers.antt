use Rattle.std.proofs.Common.{◌≡◌, ◌∙◌, List, sym, subst, arith}
use Rattle.b3_ir.specs.Procedure.{Procedure, procedures}
use Rattle.b3_module.specs.Canonical.{lined}
use Rattle.b3_module.specs.Texts.{Spells}
use Rattle.b3_print.proofs.again.print_and_read.Goals as goal

pub unreachable-requires : goal.unreachable-requires
unreachable-requires c =
    let m : List Procedure = procedures c.args.text.now in
    let spelled = subst (λ b. Spells b (lined 1 m)) (sym (c.as_slice.ensures ∙ c.in_ok-bytes.ensures)) (c.texts_are_read_again.ensures.text m c.requires.text) in
    grind (arith, c.in-Err-Syntax.ensures.spelled (lined 1 m) spelled (c.texts_are_read_again.ensures.limits m c.requires.within))
