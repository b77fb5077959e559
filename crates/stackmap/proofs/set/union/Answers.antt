use Rattle.stackmap.proofs.Sets.{has-or}
use Rattle.stackmap.proofs.set.union.Goals as goal

pub returns : goal.returns
returns c r = has-or c.args.a c.args.b r
