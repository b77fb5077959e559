use Rattle.std.proofs.Common.{◌≡◌, ◌≤◌, take}
use Rattle.stackmap.specs.Placing.{placed_count}
use Rattle.stackmap.proofs.placing.placed_before.Given as goal

abbrev pub invariant-loop-constraint : goal.invariant-loop-constraint
invariant-loop-constraint l = (l.count ≤ l.constraint-index) × (l.count ≡ placed_count (take l.constraint-index l.before))
