use Rattle.std.proofs.Common.{◌∙◌}
use Rattle.b3_print.proofs.TextLemmas.{slot_next}
use Rattle.b3_print.proofs.printing.put_slots.Goals as goal

pub loop-at-preserved : goal.loop-at-preserved
loop-at-preserved c = slot_next c.loop-at.out c.put_slot.new.out c.args.p.now.procedure.slots c.loop-at.at c.slot-slot.result c.slot-slot.ensures c.in_ok-put_slot.ensures ∙ c.loop-at.invariant
