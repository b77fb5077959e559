use Rattle.std.proofs.Common.{◌≡◌, not, take}
use Rattle.std.specs.List.{filter}
use Rattle.stackmap.specs.Registers.{has}
use Rattle.stackmap.proofs.placing.all_outside.Given as goal

abbrev pub invariant-loop-r : goal.invariant-loop-r
invariant-loop-r l = l.outside ≡ filter (λ r. not (has l.excluded r)) (take l.r-index l.registers)
