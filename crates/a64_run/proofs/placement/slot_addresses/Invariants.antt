use Rattle.std.proofs.Common.{◌≡◌, map, take}
use Rattle.b3_base.specs.Observed.{machine_start_of}
use Rattle.a64_run.specs.Placement.{slot_address}
use Rattle.a64_run.proofs.placement.slot_addresses.Given as goal

abbrev pub invariant-loop-slot : goal.invariant-loop-slot
invariant-loop-slot l = l.addresses ≡ map (slot_address (machine_start_of l.start)) (take l.slot-index l.frame.slots)
