use Rattle.std.proofs.Common.{◌≡◌, ℕ, take}
use Rattle.std.specs.List.{list_any}
use Rattle.stackmap.specs.Registers.{fixes, has}
use Rattle.stackmap.proofs.placing.fixed_for.Given as goal

abbrev pub invariant-loop-constraint : goal.invariant-loop-constraint
invariant-loop-constraint l = (r : ℕ) → has l.fixed r ≡ list_any (fixes r) (take l.constraint-index l.constraints)
