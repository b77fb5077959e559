use Rattle.std.proofs.Common.{◌≡◌, ◌++◌, take}
use Rattle.std.specs.List.{flat_map}
use Rattle.exit_table.specs.Spelling.{place_spelling}
use Rattle.exit_table.proofs.exits.put_places.Given as goal

abbrev pub invariant-loop-place : goal.invariant-loop-place
invariant-loop-place l = l.out ≡ l.initial.out ++ flat_map place_spelling (take l.place-index l.place-items)
