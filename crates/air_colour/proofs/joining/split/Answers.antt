use Rattle.std.proofs.Common.{get_or}
use Rattle.std.proofs.lemmas.List.Elements.{Contains-get_or}
use Rattle.air_colour.proofs.joining.split.Goals as goal

pub bounds-left-x : goal.bounds-left-x
bounds-left-x c = c.requires.near (get_or c.args.near.now c.loop-x.x-index 0) (Contains-get_or c.args.near.now c.loop-x.x-index 0 c.loop-x-test.true)
