use Rattle.std.proofs.Common.{◌≡◌, ◌-◌, length, map, take}
use Rattle.std.specs.Prelude.{All}
use Rattle.b3_base.specs.Fields.{fields}
use Rattle.exit_table.specs.Reading.{rows}
use Rattle.exit_table.specs.FrameReading.{each_frame, after_frame}
use Rattle.exit_table.specs.Rooms.{rooms_of}
use Rattle.exit_table.specs.Homes.{room_of, IsStacked}
use Rattle.exit_table.proofs.Loop.{rows_from}
use Rattle.exit_table.proofs.frame_reader.frame_rows.Given as goal

abbrev pub invariant-loop-extent : goal.invariant-loop-extent
invariant-loop-extent l =
    (rows_from each_frame after_frame l.frames tt (length l.extents - l.extent-index) (fields l.left) ≡ rows each_frame after_frame tt (length l.extents) (fields l.section))
    × (length l.frames ≡ l.extent-index)
    × (map room_of l.homes ≡ rooms_of (take l.extent-index l.extents) l.frames)
    × All IsStacked l.homes
