use Rattle.std.proofs.Common.{sym}
use Rattle.stackmap.proofs.InOrder.{given_pushed, placed_at_most}
use Rattle.stackmap.proofs.placing.given_to.Goals as goal

pub loop-constraint-preserved : goal.loop-constraint-preserved
loop-constraint-preserved c =
    let now = c.placed_with-placed.ensures in (
      placed_at_most c.loop-constraint.placed _ _ _ c.loop-constraint.invariant.0 now,
      given_pushed c.loop-constraint.registers _ _ _ c.loop-constraint.placed _ _ c.loop-constraint.constraint-index _
          c.loop-constraint-test.true c.loop-constraint.invariant.1 (rw (sym c.given.ensures) c.in_ok-push.ensures.ok) now,
    )
