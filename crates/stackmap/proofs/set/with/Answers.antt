use Rattle.stackmap.proofs.Sets.{has-with}
use Rattle.stackmap.proofs.set.with.Goals as goal

pub returns : goal.returns
returns c q = has-with c.args.set c.args.r q c.requires
