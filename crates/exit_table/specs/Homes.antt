-- No public clause cites this module.
-- What the code keeps of a procedure for its sites.
use Rattle.std.specs.Prelude.{List, [], ◌∷◌}
use Rattle.exit_table.specs.declared.frame_reader.Home.{Home}
use Rattle.exit_table.specs.Rooms.{Room, nowhere}
use Rattle.exit_table.specs.Taken.{left_by, AreStacked}

abbrev pub room_of : Home → Room
room_of home = record { end = home.end; bytes = home.bytes; clear = left_by home.taken.entries }

-- the first of the procedures that are left
abbrev pub first_room : List Home → Room
first_room [] = nowhere
first_room (home ∷ homes) = room_of home

abbrev pub IsStacked : Home → Type 0
IsStacked home = AreStacked 0 home.taken.entries
