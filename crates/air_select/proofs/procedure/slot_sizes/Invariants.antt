use Rattle.std.proofs.Common.{◌≡◌, map, take}
use Rattle.b3_ir.specs.declared.procedure.SlotLine.{SlotLine}
use Rattle.air_select.proofs.procedure.slot_sizes.Given as goal

abbrev pub invariant-loop-at : goal.invariant-loop-at
invariant-loop-at l = l.list ≡ map (λ (slot : SlotLine). slot.bytes) (take l.at l.p.procedure.slots)
