use Rattle.std.proofs.Common.{◌≡◌, ◌-◌}
use Rattle.b3_base.specs.Fields.{fields}
use Rattle.exit_table.specs.Reading.{rows}
use Rattle.exit_table.specs.ExitReading.{place_at, after_place}
use Rattle.exit_table.specs.Homes.{room_of}
use Rattle.exit_table.proofs.Loop.{rows_from}
use Rattle.exit_table.proofs.exit_reader.places.Given as goal

abbrev pub invariant-loop-i : goal.invariant-loop-i
invariant-loop-i l = rows_from (place_at l.kind (room_of l.home)) after_place l.places l.i (l.count - l.i) (fields l.left) ≡ rows (place_at l.kind (room_of l.home)) after_place 0 l.count (fields l.section)
