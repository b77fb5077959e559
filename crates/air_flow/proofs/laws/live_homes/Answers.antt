use Rattle.air_flow.proofs.Lives.{live_by_touches, live_on}
use Rattle.air_flow.proofs.laws.live_homes.Goals as goal

pub returns-clause-touches : goal.returns-clause-touches
returns-clause-touches c = live_by_touches

pub returns-clause-goes_on : goal.returns-clause-goes_on
returns-clause-goes_on c = live_on
