use Rattle.std.proofs.Common.{◌≡◌, ◌++◌, take}
use Rattle.a64_code.specs.Places.{plains, restores}
use Rattle.a64_code.proofs.places.push_restores.Given as goal

abbrev pub invariant-loop-row : goal.invariant-loop-row
invariant-loop-row l = l.code ≡ l.initial.code ++ plains (restores l.frame (take l.row-index l.frame.saved))
