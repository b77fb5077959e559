use Rattle.b3_module.proofs.Telling.{bad_is_told, limit_is_told, spelled_is_read, text_is_read}
use Rattle.b3_module.proofs.reading.read.Goals as goal

pub returns-clause-spelled : goal.returns-clause-spelled
returns-clause-spelled c = spelled_is_read c.args.bytes.now c.read_within.result c.read_within.ensures.ok c.read_within.ensures.syntax c.read_within.ensures.limit

pub returns-clause-refused : goal.returns-clause-refused
returns-clause-refused c = bad_is_told c.args.bytes.now c.read_within.result c.read_within.ensures.ok c.read_within.ensures.syntax c.read_within.ensures.limit

pub returns-clause-limited : goal.returns-clause-limited
returns-clause-limited c = limit_is_told c.args.bytes.now c.read_within.result c.read_within.ensures.ok c.read_within.ensures.within c.read_within.ensures.syntax c.read_within.ensures.limit

pub returns-clause-text : goal.returns-clause-text
returns-clause-text c = text_is_read c.args.bytes.now c.read_within.result c.read_within.ensures.ok
