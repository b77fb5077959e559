use Rattle.b3_ir.specs.declared.procedure.SlotLine.{SlotLine}
use Rattle.air_fold.proofs.Places.{map_item}
use Rattle.air_select.proofs.procedure.slot_sizes.Goals as goal

pub loop-at-preserved : goal.loop-at-preserved
loop-at-preserved c =
    map_item (λ (slot : SlotLine). slot.bytes) c.args.p.now.procedure.slots c.loop-at.at c.slot.result c.loop-at.list c.push.new.self
    c.slot.ensures c.loop-at.invariant c.in_ok-push.ensures.ok
