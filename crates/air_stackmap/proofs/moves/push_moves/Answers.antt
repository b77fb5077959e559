use Rattle.air_stackmap.proofs.Pushing.{move_pushed, moves_done}
use Rattle.air_stackmap.proofs.moves.push_moves.Goals as goal

pub loop-at-preserved : goal.loop-at-preserved
loop-at-preserved c =
    move_pushed c.args.v.now c.loop-at.insts _ _ c.args.registers.now c.args.children.now c.loop-at.at _
    c.requires.registers c.requires.children c.loop-at-test.true c.loop-at.invariant c.in_ok-push_moved.ensures

pub returns : goal.returns
returns c = moves_done c.args.v.now c.loop-at.insts _ c.args.children.now c.loop-at.at c.loop-at-test.false c.loop-at.invariant
