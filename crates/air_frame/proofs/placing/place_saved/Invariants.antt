use Rattle.std.proofs.Common.{◌≡◌, ◌*◌, ◌≤◌, length, take}
use Rattle.std.specs.List.{filter}
use Rattle.stackmap.specs.Registers.{has}
use Rattle.air_frame.specs.Placing.{saved_rows}
use Rattle.air_frame.proofs.placing.place_saved.Given as goal

abbrev pub invariant-loop-r : goal.invariant-loop-r
invariant-loop-r l =
    (l.offset ≤ 8 * l.r-index) × (l.offset ≡ 8 * length (filter (has l.set) (take l.r-index l.registers)))
    × (l.saved ≡ saved_rows 0 (filter (has l.set) (take l.r-index l.registers)))
