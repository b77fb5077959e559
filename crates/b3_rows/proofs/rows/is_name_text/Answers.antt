use Rattle.b3_rows.proofs.RowLemmas.{name_tested}
use Rattle.b3_rows.proofs.rows.is_name_text.Goals as goal

pub returns : goal.returns
returns c = name_tested c.args.name.now c.is_name.result c.is_name.ensures
