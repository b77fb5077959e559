use Rattle.std.proofs.Common.{◌≡◌, ℕ, None, take}
use Rattle.std.specs.Prelude.{◌||◌, is_some, if◌then◌else◌}
use Rattle.std.specs.List.{list_any}
use Rattle.std.specs.FinMap as map
use Rattle.b3_base.specs.Observed.{machine_start_of}
use Rattle.a64_run.specs.Placement.{is_within, slot_address}
use Rattle.a64_run.proofs.memories.visible.Given as goal

abbrev pub invariant-loop-slot : goal.invariant-loop-slot
invariant-loop-slot l = (q : ℕ) → map.get l.seen q ≡
    (if is_some (map.get l.start.memory q) || list_any (λ slot. is_within (slot_address (machine_start_of l.start) slot) slot.size q) (take l.slot-index l.frame.slots)
    then map.get l.memory q else None)
