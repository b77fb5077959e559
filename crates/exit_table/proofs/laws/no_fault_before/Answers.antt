use Rattle.exit_table.proofs.Growth.{frames_cut, sites_cut}
use Rattle.exit_table.proofs.laws.no_fault_before.Goals as goal

pub returns-clause-frames : goal.returns-clause-frames
returns-clause-frames c = frames_cut

pub returns-clause-sites : goal.returns-clause-sites
returns-clause-sites c = sites_cut
