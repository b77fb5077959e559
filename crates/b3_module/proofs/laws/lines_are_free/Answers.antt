use Rattle.b3_module.proofs.LinedLemmas.{limits_same, rows_same}
use Rattle.b3_module.proofs.laws.lines_are_free.Goals as goal

pub returns-clause-rows : goal.returns-clause-rows
returns-clause-rows c = rows_same

pub returns-clause-limits : goal.returns-clause-limits
returns-clause-limits c = limits_same
