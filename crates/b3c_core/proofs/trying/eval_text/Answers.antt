use Rattle.std.proofs.Common.{◌≡◌, ◌≢◌, ◌<◌, ℕ, Err, Some, ap, sym, subst, ◌∙◌, arith, length}
use Rattle.std.specs.Prelude.{All, map, slice_get}
use Rattle.b3_base.specs.Ranged.{IsRangedAnswer}
use Rattle.std.specs.List.{Contains}
use Rattle.std.proofs.Math.ListN.{length-map}
use Rattle.std.proofs.lemmas.Option.{slice_get_within}
use Rattle.b3_base.specs.Observed.{answer_of, machine_start_of}
use Rattle.b3_ir.specs.Procedure.{Kept, Procedure, procedures}
use Rattle.b3_meaning.specs.Run.{b3_run}
use Rattle.b3_trial.specs.Shown.{shown}
use Rattle.b3_trial.specs.Trials.{trial_of}
use Rattle.elf_obj.specs.Good.{names_of}
use Rattle.a64_run.specs.Finding.{IsMisplaced, MayBegin}
use Rattle.a64_run.specs.Placement.{start_of}
use Rattle.b3c_core.specs.Tried.{IsNoTrial}
use Rattle.b3c_core.proofs.Beginning.{misplaced_begins, no_procedure_begins, no_symbol_begins, found_name, procedure_at}
use Rattle.b3c_core.proofs.Evaluating.{compiled_by, evaluated_over, known_as, misplaced_over, no_trial}
use Rattle.b3c_core.proofs.trying.eval_text.Goals as goal

pub returns-in-Err-Bad-clause-cause : goal.returns-in-Err-Bad-clause-cause
returns-in-Err-Bad-clause-cause c =
    let made = c.in_ok-made.made in
    let of = c.in_ok-valid.ensures in
    let text = known_as c.args.bytes.now made.file c.into_module-module.result c.in_ok-valid.valid made.object c.into_module-module.ensures.same of.text of.valid c.in_ok-made.ensures in (
      (made.file, compiled_by c.args.bytes.now made.file (procedures c.into_module-module.result) made.object text.text_of text.valid text.is_file),
      subst (IsNoTrial c.args.trial.now) (sym c.in-Err-Bad.line-is)
          (no_trial c.args.trial.now _ (rw c.in-Err-Bad.field-0-is at c.in-Err-Bad.ensures.bad) (rw c.in-Err-Bad.field-0-is at c.in-Err-Bad.ensures.spelled)),
    )

pub returns-in_default-clause-cause : goal.returns-in_default-clause-cause
returns-in_default-clause-cause c =
    let made = c.in_ok-made.made in
    let of = c.in_ok-valid.ensures in
    let text = known_as c.args.bytes.now made.file c.into_module-module.result c.in_ok-valid.valid made.object c.into_module-module.ensures.same of.text of.valid c.in_ok-made.ensures in
    misplaced_over c.args.bytes.now made.file c.args.trial.now (procedures c.into_module-module.result) made.object (trial_of c.in-Ok.trial) text.text_of text.valid text.is_file
    c.in-Ok.ensures.ok
    (no_procedure_begins (procedures c.into_module-module.result) text.is_file.reduced made.object (trial_of c.in-Ok.trial) text.is_file.code
    (subst (λ name. (k : ℕ) (p : Procedure) → slice_get (procedures c.into_module-module.result) k ≡ Some p → p.name ≢ name) c.as_slice.ensures c.in_default.ensures.none))

pub proc-p-requires : goal.proc-p-requires
proc-p-requires c =
    let found = c.in-Some.ensures.found in
    let within : c.in-Some.at < length (procedures c.into_module-module.result) = slice_get_within (procedures c.into_module-module.result) c.in-Some.at found.0 found.1 in
    let as_many : length (procedures c.into_module-module.result) ≡ length c.into_module-module.result = length-map c.into_module-module.result (λ (m : Kept). m.procedure) in
    omega (arith, within, as_many)

pub returns-in-Err-NoProcedure-clause-cause : goal.returns-in-Err-NoProcedure-clause-cause
returns-in-Err-NoProcedure-clause-cause c =
    let made = c.in_ok-made.made in
    let of = c.in_ok-valid.ensures in
    let text = known_as c.args.bytes.now made.file c.into_module-module.result c.in_ok-valid.valid made.object c.into_module-module.ensures.same of.text of.valid c.in_ok-made.ensures in
    misplaced_over c.args.bytes.now made.file c.args.trial.now (procedures c.into_module-module.result) made.object (trial_of c.in-Ok.trial) text.text_of text.valid text.is_file
    c.in-Ok.ensures.ok
    (no_symbol_begins made.object (trial_of c.in-Ok.trial)
    (subst (λ name. ¬ (Contains (names_of made.object.symbols) name))
    (c.name.ensures ∙ found_name c.into_module-module.result c.in-Some.at c.proc-p.result.now c.in-Some.ensures.found.0 c.in-Ok.trial.name c.proc-p.ensures c.in-Some.ensures.found.1 (c.in-Some.ensures.found.2 ∙ c.as_slice.ensures))
    (c.place.ensures.no_procedure.0 (c.in-Err-NoProcedure.is ∙ ap Err c.in-Err-NoProcedure.field-0-is))))

pub returns-in-Err-Placement-clause-cause : goal.returns-in-Err-Placement-clause-cause
returns-in-Err-Placement-clause-cause c =
    let made = c.in_ok-made.made in
    let of = c.in_ok-valid.ensures in
    let text = known_as c.args.bytes.now made.file c.into_module-module.result c.in_ok-valid.valid made.object c.into_module-module.ensures.same of.text of.valid c.in_ok-made.ensures in
    misplaced_over c.args.bytes.now made.file c.args.trial.now (procedures c.into_module-module.result) made.object (trial_of c.in-Ok.trial) text.text_of text.valid text.is_file
    c.in-Ok.ensures.ok
    (misplaced_begins made.object (trial_of c.in-Ok.trial) text.is_file.code.good
    (subst (λ name. IsMisplaced made.object name (machine_start_of c.in-Ok.trial.start))
    (c.name.ensures ∙ found_name c.into_module-module.result c.in-Some.at c.proc-p.result.now c.in-Some.ensures.found.0 c.in-Ok.trial.name c.proc-p.ensures c.in-Some.ensures.found.1 (c.in-Some.ensures.found.2 ∙ c.as_slice.ensures))
    (c.place.ensures.placement.0 (c.in-Err-Placement.is ∙ ap Err c.in-Err-Placement.field-0-is))))

pub returns-clause-evaluated : goal.returns-clause-evaluated
returns-clause-evaluated c =
    let made = c.in_ok-made.made in
    let of = c.in_ok-valid.ensures in
    let text = known_as c.args.bytes.now made.file c.into_module-module.result c.in_ok-valid.valid made.object c.into_module-module.ensures.same of.text of.valid c.in_ok-made.ensures in
    let found = c.in-Some.ensures.found in
    let placed = c.in-Ok-place.ensures.ok in
    let p = c.proc-p.result.now.procedure in
    let named = found_name c.into_module-module.result c.in-Some.at c.proc-p.result.now found.0 c.in-Ok.trial.name c.proc-p.ensures found.1 (found.2 ∙ c.as_slice.ensures) in
    evaluated_over c.args.bytes.now made.file c.args.trial.now c.in_ok-shown.shown (procedures c.into_module-module.result) made.object (trial_of c.in-Ok.trial)
    text.text_of text.valid text.is_file c.in-Ok.ensures.ok placed.0 placed.1
    (subst (λ name. MayBegin made.object name (machine_start_of c.in-Ok.trial.start) placed.0 placed.1) (c.name.ensures ∙ named) placed.2)
    c.in-Some.at p (procedure_at c.into_module-module.result c.in-Some.at c.proc-p.result.now c.proc-p.ensures) named
    (subst (λ answers. All IsRangedAnswer (map answer_of answers)) c.as_slice-answers.ensures c.ranged_answers.ensures)
    (c.in_ok-shown.ensures ∙ ap shown (c.in_ok-seen.ensures
    ∙ ap (λ start. b3_run p start (map answer_of c.as_slice-answers.result.now) c.in-Ok.trial.blocks) placed.3
    ∙ ap (λ answers. b3_run p (start_of made.object placed.1 (machine_start_of c.in-Ok.trial.start)) (map answer_of answers) c.in-Ok.trial.blocks) c.as_slice-answers.ensures))
