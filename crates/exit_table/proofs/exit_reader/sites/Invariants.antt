use Rattle.std.proofs.Common.{◌≡◌, ℕ, ◌≤◌, ◌-◌, map}
use Rattle.std.specs.Prelude.{All}
use Rattle.b3_base.specs.Fields.{fields}
use Rattle.exit_table.specs.Reading.{rows}
use Rattle.exit_table.specs.ExitReading.{site_at, after_site}
use Rattle.exit_table.specs.Rooms.{room_at}
use Rattle.exit_table.specs.Homes.{room_of, IsStacked}
use Rattle.exit_table.proofs.Loop.{rows_from}
use Rattle.exit_table.proofs.exit_reader.sites.Given as goal

abbrev pub invariant-loop : goal.invariant-loop
invariant-loop l =
    (rows_from (site_at (map room_of l.homes)) after_site l.sites l.end (l.count - l.counter) (fields l.left) ≡ rows (site_at (map room_of l.homes)) after_site 0 l.count (fields l.section))
    × ((pc : ℕ) → l.end ≤ pc → room_at (map room_of l.homes) pc ≡ room_at (map room_of l.later) pc)
    × All IsStacked l.later
