use Rattle.a64_run.proofs.Ended.{ended_runs_agree}
use Rattle.a64_run.proofs.laws.ended_runs_agree.Goals as goal

pub returns : goal.returns
returns c = ended_runs_agree
