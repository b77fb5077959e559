use Rattle.std.proofs.Common.{◌≡◌, ◌++◌, take}
use Rattle.a64_code.specs.Places.{plains, saves}
use Rattle.a64_code.proofs.places.push_saves.Given as goal

abbrev pub invariant-loop-row : goal.invariant-loop-row
invariant-loop-row l = l.code ≡ l.initial.code ++ plains (saves l.frame (take l.row-index l.frame.saved))
