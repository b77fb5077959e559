use Rattle.std.proofs.Common.{◌≡◌, take}
use Rattle.std.specs.List.{list_any}
use Rattle.b3_base.specs.Observed.{machine_start_of}
use Rattle.a64_run.specs.Placement.{is_within, slot_address}
use Rattle.a64_run.proofs.leaving.is_in_slot.Given as goal

abbrev pub invariant-loop-slot : goal.invariant-loop-slot
invariant-loop-slot l = l.found
    ≡ list_any (λ slot. is_within (slot_address (machine_start_of l.start) slot) slot.size l.address) (take l.slot-index l.frame.slots)
