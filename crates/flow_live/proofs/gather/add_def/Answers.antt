use Rattle.flow_live.proofs.Gathering.{put_def}
use Rattle.flow_live.proofs.gather.add_def.Goals as goal

pub returns-in-Def-clause-defined : goal.returns-in-Def-clause-defined
returns-in-Def-clause-defined c = put_def c.args.rows.now c.set.new.self c.args.defined c.in-Def.name c.args.touch c.requires.defined c.set.ensures c.in-Def.is
