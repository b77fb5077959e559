use Rattle.std.proofs.Common.{◌≡◌, take}
use Rattle.air_frame.specs.Frames.{slot_bytes}
use Rattle.air_frame.proofs.placing.slot_bytes.Given as goal

abbrev pub invariant-loop-size : goal.invariant-loop-size
invariant-loop-size l = l.bytes ≡ slot_bytes (take l.size-index l.sizes)
