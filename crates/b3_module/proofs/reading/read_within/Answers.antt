use Rattle.std.proofs.Common.{sym, ◌∙◌}
use Rattle.b3_ir.specs.Procedure.{procedures}
use Rattle.b3_module.specs.Texts.{rows_of}
use Rattle.b3_module.proofs.LimitLemmas.{first_passed, none_passed}
use Rattle.b3_module.proofs.Rising.{spelled_rises}
use Rattle.b3_module.proofs.Telling.{none_told, some_told}
use Rattle.b3_module.proofs.reading.read_within.Goals as goal

pub returns-in-None-clause-within : goal.returns-in-None-clause-within
returns-in-None-clause-within c =
    let told = none_told _ (sym c.first_passed.ensures ∙ c.in-None.is) in
    none_passed (procedures c.in_ok-made.made) told.0 told.1

pub returns-in-Some-clause-limit : goal.returns-in-Some-clause-limit
returns-in-Some-clause-limit c =
    let m = procedures c.in_ok-made.made in
    let spelled = c.in_ok-made.ensures.ok in
    let told = some_told _ c.in-Some.passed (sym c.first_passed.ensures ∙ c.in-Some.is) in
    (m, spelled, first_passed m c.in-Some.passed (spelled_rises (rows_of c.args.bytes.now) m spelled) told)
