use Rattle.exit_table.proofs.Growth.{frames_stay, sites_stay}
use Rattle.exit_table.proofs.laws.first_fault_stays.Goals as goal

pub returns-clause-frames : goal.returns-clause-frames
returns-clause-frames c = frames_stay

pub returns-clause-sites : goal.returns-clause-sites
returns-clause-sites c = sites_stay
