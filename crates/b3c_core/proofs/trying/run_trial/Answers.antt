use Rattle.std.proofs.Common.{Err, ap, subst, ◌∙◌}
use Rattle.std.specs.Prelude.{map}
use Rattle.b3_base.specs.Observed.{answer_of, machine_start_of}
use Rattle.a64_run.specs.Agrees.{entry_of}
use Rattle.a64_run.specs.Machine.{machine_run}
use Rattle.std.specs.List.{Contains}
use Rattle.elf_obj.specs.Good.{names_of}
use Rattle.b3_trial.specs.Shown.{shown}
use Rattle.b3_trial.specs.Trials.{trial_of}
use Rattle.a64_run.specs.Finding.{IsMisplaced, MayBegin}
use Rattle.b3c_core.proofs.Beginning.{misplaced_begins, no_symbol_begins}
use Rattle.b3c_core.proofs.trying.run_trial.Goals as goal

pub returns-in-Err-NoProcedure : goal.returns-in-Err-NoProcedure
returns-in-Err-NoProcedure c = record {
  run = tt;
  cause = no_symbol_begins c.args.object.now (trial_of c.args.trial.now) (subst (λ name. ¬ (Contains (names_of c.args.object.now.symbols) name))
      (c.in-Ok.ensures.cases.0 ∙ c.as_slice.ensures) (c.run.ensures.no_procedure.0 (c.in-Err-NoProcedure.is ∙ ap Err c.in-Err-NoProcedure.field-0-is)));
}

pub returns-in-Err-Placement : goal.returns-in-Err-Placement
returns-in-Err-Placement c = record {
  run = tt;
  cause = misplaced_begins c.args.object.now (trial_of c.args.trial.now) c.requires
      (subst (λ name. IsMisplaced c.args.object.now name (machine_start_of c.args.trial.now.start))
      (c.in-Ok.ensures.cases.0 ∙ c.as_slice.ensures) (c.run.ensures.placement.0 (c.in-Err-Placement.is ∙ ap Err c.in-Err-Placement.field-0-is)));
}

pub returns-in-Ok-show-clause-run : goal.returns-in-Ok-show-clause-run
returns-in-Ok-show-clause-run c =
    let ok = c.in-Ok-run.ensures.ok in
    record {
      begins = record {
        symbol = ok.0;
        frame = ok.1;
        may = subst (λ name. MayBegin c.args.object.now name (machine_start_of c.args.trial.now.start) ok.0 ok.1) (c.in-Ok.ensures.cases.0 ∙ c.as_slice.ensures) ok.2;
      };
      is = c.in-Ok-show.ensures ∙ ap shown (ok.3
          ∙ ap (λ answers. machine_run (entry_of c.args.object.now ok.0 ok.1 (machine_start_of c.args.trial.now.start)) (map answer_of answers) c.args.trial.now.steps) c.as_slice-answers.ensures);
    }
