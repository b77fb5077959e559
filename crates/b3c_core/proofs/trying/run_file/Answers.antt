use Rattle.std.proofs.Common.{subst, sym}
use Rattle.b3c_core.specs.Tried.{IsNoTrial}
use Rattle.b3c_core.proofs.Evaluating.{no_trial}
use Rattle.b3c_core.proofs.trying.run_file.Goals as goal

pub returns-in-Err-Bad-read_trial-clause-cause : goal.returns-in-Err-Bad-read_trial-clause-cause
returns-in-Err-Bad-read_trial-clause-cause c = (
  (c.in-Ok.object, c.in-Ok.ensures.found),
  subst (IsNoTrial c.args.trial.now) (sym c.in-Err-Bad-read_trial.line-is)
      (no_trial c.args.trial.now _ (rw c.in-Err-Bad-read_trial.field-0-is at c.in-Err-Bad-read_trial.ensures.bad) (rw c.in-Err-Bad-read_trial.field-0-is at c.in-Err-Bad-read_trial.ensures.spelled)),
)
