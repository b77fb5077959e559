use Rattle.b3c_core.proofs.Agreement.{evaluated_runs_agree}
use Rattle.b3c_core.proofs.laws.evaluated_runs_agree.Goals as goal

pub returns : goal.returns
returns c = evaluated_runs_agree
