use Rattle.std.proofs.Common.{◌≡◌, ◌++◌, ◌*◌, drop}
use Rattle.air_spill.specs.Rewritten.{home_by, kept_operands}
use Rattle.air_spill.proofs.operands.kept_operands.Given as goal

abbrev pub invariant-loop-k : goal.invariant-loop-k
invariant-loop-k l =
    l.list ++ kept_operands (home_by l.assignment) (drop (2 * l.k) l.operands) ≡ kept_operands (home_by l.assignment) l.operands
