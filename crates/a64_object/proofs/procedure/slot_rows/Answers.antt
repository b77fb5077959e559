use Rattle.a64_object.proofs.Making.{rows_more}
use Rattle.a64_object.proofs.procedure.slot_rows.Goals as goal

pub loop-k-preserved : goal.loop-k-preserved
loop-k-preserved c =
    rows_more c.args.offsets.now c.args.sizes.now c.loop-k.k c.get.result.now c.get-in-loop-k.result.now c.loop-k.rows c.push.new.self
    c.requires c.get.ensures c.get-in-loop-k.ensures c.loop-k.invariant c.in_ok-push.ensures.ok
