use Rattle.std.proofs.Common.{◌≡◌, ◌≤◌, ◌++◌, drop}
use Rattle.stackmap.specs.Standing.{given_from}
use Rattle.stackmap.proofs.placing.given_to.Given as goal

abbrev pub invariant-loop-constraint : goal.invariant-loop-constraint
invariant-loop-constraint l =
    (l.placed ≤ l.constraint-index)
    × (l.registers ++ given_from l.allowed l.placed (drop l.constraint-index l.constraints) ≡ given_from l.allowed 0 l.constraints)
