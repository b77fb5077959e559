use Rattle.std.proofs.Common.{◌≡◌, ◌++◌, ◌*◌, drop}
use Rattle.a64_emit.specs.Code.{moves_of}
use Rattle.a64_emit.proofs.shuffles.moves_of.Given as goal

-- the moves so far and those of the operands that are left are all
abbrev pub invariant-loop-k : goal.invariant-loop-k
invariant-loop-k l = l.moves ++ moves_of (drop (2 * l.k) l.operands) ≡ moves_of l.operands
