use Rattle.std.proofs.Common.{◌≡◌, ℕ, ◌≤◌, map, drop}
use Rattle.exit_table.specs.Rooms.{room_at}
use Rattle.exit_table.specs.Homes.{room_of}
use Rattle.exit_table.proofs.exit_reader.skip.Given as goal

abbrev pub invariant-loop-i : goal.invariant-loop-i
invariant-loop-i l = (later : ℕ) → l.pc ≤ later → room_at (map room_of l.homes) later ≡ room_at (map room_of (drop l.i l.homes)) later
