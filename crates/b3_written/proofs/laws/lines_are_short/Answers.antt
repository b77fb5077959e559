use Rattle.b3_written.proofs.LengthLemmas.{row_length}
use Rattle.b3_written.proofs.laws.lines_are_short.Goals as goal

pub returns : goal.returns
returns c = row_length
