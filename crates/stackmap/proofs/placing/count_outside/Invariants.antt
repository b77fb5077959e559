use Rattle.std.proofs.Common.{◌≡◌, ◌≤◌, length, not, take}
use Rattle.std.specs.List.{filter}
use Rattle.stackmap.specs.Registers.{has}
use Rattle.stackmap.proofs.placing.count_outside.Given as goal

abbrev pub invariant-loop-r : goal.invariant-loop-r
invariant-loop-r l =
    (l.count ≤ l.r-index) × (l.count ≡ length (filter (λ r. not (has l.excluded r)) (take l.r-index l.registers)))
