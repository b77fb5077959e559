use Rattle.std.proofs.Common.{◌∙◌}
use Rattle.stackmap.proofs.Placed.{nth_from_literal}
use Rattle.stackmap.proofs.placing.nth_allowed.Goals as goal

pub returns : goal.returns
returns c = c.nth_outside.ensures ∙ nth_from_literal _ c.args.map.now c.args.typed c.args.at c.excluded.ensures
