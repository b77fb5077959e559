use Rattle.std.proofs.Common.{◌≡◌, ◌++◌, drop}
use Rattle.a64_code.specs.Places.{plains}
use Rattle.a64_emit.specs.Code.{copies_code}
use Rattle.a64_emit.proofs.shuffles.push_copies.Given as goal

-- what is still to be put is the code of the moves that are left
abbrev pub invariant-loop-k : goal.invariant-loop-k
invariant-loop-k l = l.code ++ plains (copies_code l.frame (drop l.k l.moves)) ≡ l.initial.code ++ plains (copies_code l.frame l.moves)
