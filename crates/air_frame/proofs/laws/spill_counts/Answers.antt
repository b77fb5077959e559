use Rattle.air_frame.proofs.Counts.{counts_below, names_counted}
use Rattle.air_frame.proofs.laws.spill_counts.Goals as goal

pub returns-clause-below : goal.returns-clause-below
returns-clause-below c = counts_below

pub returns-clause-named : goal.returns-clause-named
returns-clause-named c = names_counted
