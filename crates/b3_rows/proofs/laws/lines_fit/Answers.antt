use Rattle.b3_rows.proofs.RangeLemmas.{lines_fit}
use Rattle.b3_rows.proofs.laws.lines_fit.Goals as goal

pub returns : goal.returns
returns c = lines_fit
