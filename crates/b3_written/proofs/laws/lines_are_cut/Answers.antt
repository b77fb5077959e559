use Rattle.b3_written.proofs.CutLemmas.{line_cut}
use Rattle.b3_written.proofs.laws.lines_are_cut.Goals as goal

pub returns : goal.returns
returns c = line_cut
