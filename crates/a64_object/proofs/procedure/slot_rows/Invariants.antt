use Rattle.std.proofs.Common.{◌≡◌, take}
use Rattle.air_frame.specs.Frames.{slot_rows}
use Rattle.a64_object.proofs.procedure.slot_rows.Given as goal

abbrev pub invariant-loop-k : goal.invariant-loop-k
invariant-loop-k l = l.rows ≡ slot_rows (take l.k l.offsets) (take l.k l.sizes)
