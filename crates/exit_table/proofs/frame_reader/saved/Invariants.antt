use Rattle.std.proofs.Common.{◌≡◌, ◌-◌, map}
use Rattle.b3_base.specs.Fields.{fields}
use Rattle.exit_table.specs.Good.{saved_span}
use Rattle.exit_table.specs.Reading.{rows}
use Rattle.exit_table.specs.FrameReading.{saved_at, after_saved}
use Rattle.exit_table.specs.Taken.{left_by, leaves, AreStacked}
use Rattle.exit_table.proofs.Loop.{rows_from}
use Rattle.exit_table.proofs.frame_reader.saved.Given as goal

abbrev pub invariant-loop : goal.invariant-loop
invariant-loop l =
    (rows_from (saved_at l.header.bytes) after_saved l.saved (record { clear = left_by l.taken.entries; least = l.least }) (l.header.saved - l.counter) (fields l.left)
    ≡ rows (saved_at l.header.bytes) after_saved (record { clear = left_by l.initial.taken.entries; least = 0 }) l.header.saved (fields l.section))
    × AreStacked 0 l.taken.entries
    × (left_by l.taken.entries ≡ leaves (left_by l.initial.taken.entries) (map saved_span l.saved))
