use Rattle.air_flow.proofs.Kept.{keep_on, keep_uses}
use Rattle.air_flow.proofs.Names.{in_range}
use Rattle.air_flow.proofs.laws.kept_homes.Goals as goal

pub returns-clause-in_range : goal.returns-clause-in_range
returns-clause-in_range c = in_range

pub returns-clause-uses : goal.returns-clause-uses
returns-clause-uses c = keep_uses

pub returns-clause-goes_on : goal.returns-clause-goes_on
returns-clause-goes_on c = keep_on
