use Rattle.b3_trial.proofs.BadLines.{bad_is_told, spelled_is_read}
use Rattle.b3_trial.proofs.reading.read_trial.Goals as goal

pub returns-clause-spelled : goal.returns-clause-spelled
returns-clause-spelled c = spelled_is_read c.args.bytes.now c.read_lines.result c.read_lines.ensures.ok c.read_lines.ensures.bad

pub returns-clause-refused : goal.returns-clause-refused
returns-clause-refused c = bad_is_told c.args.bytes.now c.read_lines.result c.read_lines.ensures.ok c.read_lines.ensures.bad
