use Rattle.std.proofs.Common.{◌≡◌, ◌++◌, take}
use Rattle.std.specs.List.{flat_map}
use Rattle.exit_table.specs.Spelling.{slot_spelling}
use Rattle.exit_table.proofs.frames.put_slots.Given as goal

abbrev pub invariant-loop-slot : goal.invariant-loop-slot
invariant-loop-slot l = l.out ≡ l.initial.out ++ flat_map slot_spelling (take l.slot-index l.slot-items)
