use Rattle.std.proofs.Common.{◌≡◌, ◌+◌, take}
use Rattle.air_frame.specs.Frames.{slot_bytes}
use Rattle.air_frame.specs.Placing.{slot_offsets}
use Rattle.air_frame.proofs.placing.place_slots.Given as goal

abbrev pub invariant-loop-size : goal.invariant-loop-size
invariant-loop-size l =
    (l.offset ≡ l.low + slot_bytes (take l.size-index l.sizes)) × (l.slots ≡ slot_offsets l.low (take l.size-index l.sizes))
