use Rattle.std.proofs.Common.{◌≡◌, [], ◌-◌, map}
use Rattle.b3_base.specs.Fields.{fields}
use Rattle.exit_table.specs.Good.{slot_span}
use Rattle.exit_table.specs.Reading.{rows}
use Rattle.exit_table.specs.FrameReading.{is_clear, slot_at, after_slot}
use Rattle.exit_table.specs.Taken.{left_by, AreStacked}
use Rattle.exit_table.proofs.Loop.{rows_from}
use Rattle.exit_table.proofs.frame_reader.slots.Given as goal

abbrev pub invariant-loop : goal.invariant-loop
invariant-loop l =
    (rows_from (slot_at l.header.bytes) after_slot l.slots (left_by l.taken.entries) (l.header.slots - l.counter) (fields l.left) ≡ rows (slot_at l.header.bytes) after_slot (is_clear []) l.header.slots (fields l.section))
    × AreStacked 0 l.taken.entries
    × (left_by l.taken.entries ≡ is_clear (map slot_span l.slots))
