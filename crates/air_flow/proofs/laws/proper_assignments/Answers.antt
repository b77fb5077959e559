use Rattle.air_flow.proofs.Apart.{spilled, writes_apart}
use Rattle.air_flow.proofs.laws.proper_assignments.Goals as goal

pub returns-clause-spilled : goal.returns-clause-spilled
returns-clause-spilled c = spilled

pub returns-clause-apart : goal.returns-clause-apart
returns-clause-apart c = writes_apart
