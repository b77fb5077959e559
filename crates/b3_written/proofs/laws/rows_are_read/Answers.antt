use Rattle.b3_written.proofs.AgainLemmas.{each_again}
use Rattle.b3_written.proofs.laws.rows_are_read.Goals as goal

pub returns : goal.returns
returns c = each_again
