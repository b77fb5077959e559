use Rattle.std.proofs.Common.{◌≡◌, ◌++◌}
use Rattle.stackmap.specs.Registers.{has}
use Rattle.air_stackmap.specs.SiteCode.{in_each}
use Rattle.air_stackmap.proofs.operands.push_each.Given as goal

abbrev pub invariant-loop-r : goal.invariant-loop-r
invariant-loop-r l = l.operands ≡ l.initial.operands ++ in_each l.role (has l.registers) l.r
