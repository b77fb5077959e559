use Rattle.std.proofs.Common.{◌≡◌, ◌++◌, take}
use Rattle.std.specs.List.{flat_map}
use Rattle.exit_table.specs.Spelling.{frame_spelling}
use Rattle.exit_table.proofs.frames.put_frames.Given as goal

abbrev pub invariant-loop-row : goal.invariant-loop-row
invariant-loop-row l = l.out ≡ l.initial.out ++ flat_map frame_spelling (take l.row-index l.row-items)
