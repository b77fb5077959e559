use Rattle.std.proofs.Common.{get_or, arith}
use Rattle.std.proofs.lemmas.List.Elements.{Contains-get_or}
use Rattle.air_colour.proofs.waiting.Waiting.wake_beside.Goals as goal

pub reaches-requires-clause-a : goal.reaches-requires-clause-a
reaches-requires-clause-a c =
    c.requires.below (get_or c.args.classes.now c.loop-y.y-index 0) (Contains-get_or c.args.classes.now c.loop-y.y-index 0 c.loop-y-test.true)

pub reaches-requires-then-not-reaches-clause-a : goal.reaches-requires-then-not-reaches-clause-a
reaches-requires-then-not-reaches-clause-a c =
    c.requires.below (get_or c.args.classes.now c.loop-y.y-index 0) (Contains-get_or c.args.classes.now c.loop-y.y-index 0 c.loop-y-test.true)

pub near-requires : goal.near-requires
near-requires c =
    let lt = c.requires.below (get_or c.args.classes.now c.loop-y.y-index 0) (Contains-get_or c.args.classes.now c.loop-y.y-index 0 c.loop-y-test.true) in
    omega (arith, lt, c.requires.room.names)
