use Rattle.b3_rows.proofs.RangeLemmas.{row_range}
use Rattle.b3_rows.proofs.laws.rows_are_in_range.Goals as goal

pub returns : goal.returns
returns c = row_range
