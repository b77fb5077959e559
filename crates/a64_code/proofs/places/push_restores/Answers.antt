use Rattle.a64_code.proofs.Pushing.{restores_next, restores_none}
use Rattle.a64_code.proofs.places.push_restores.Goals as goal

pub loop-row-init : goal.loop-row-init
loop-row-init c = restores_none c.args.frame.now c.args.frame.now.saved c.args.code.now

pub loop-row-preserved : goal.loop-row-preserved
loop-row-preserved c =
    restores_next c.args.frame.now c.as_slice-row-items.result.now c.args.frame.now.saved c.loop-row.row-index c.above_sp.result _ c.args.code.now c.loop-row.code c.push_load.new.code
    c.as_slice-row-items.ensures c.loop-row-test.true c.loop-row.invariant c.above_sp.ensures c.in_ok-push_load.ensures
