use Rattle.std.proofs.Common.{◌≡◌, ◌++◌, drop}
use Rattle.a64_emit.specs.Made.{places_read}
use Rattle.a64_emit.proofs.sites.places_read.Given as goal

-- what is still to be put is the places of the operands that are left
abbrev pub invariant-loop-k : goal.invariant-loop-k
invariant-loop-k l = l.places ++ places_read l.frame (drop l.k l.operands) ≡ places_read l.frame (drop l.from l.operands)
