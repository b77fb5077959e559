use Rattle.b3_module.proofs.TextLemmas.{spelled_text, text_rowed, text_rows}
use Rattle.b3_module.proofs.laws.texts_are_listed.Goals as goal

pub returns-clause-given : goal.returns-clause-given
returns-clause-given c = spelled_text c.rows_are_in_range.ensures

pub returns-clause-rowed : goal.returns-clause-rowed
returns-clause-rowed c = text_rowed

pub returns-clause-rows : goal.returns-clause-rows
returns-clause-rows c = text_rows
