use Rattle.std.proofs.Common.{◌≡◌, ◌↔◌, true}
use Rattle.b3_ir.specs.declared.value.Reg.{Reg}
use Rattle.stackmap.specs.Registers.{has}
use Rattle.stackmap.specs.Standing.{StandsBelow}
use Rattle.stackmap.proofs.obeying.registers_of.Given as goal

abbrev pub invariant-loop-k : goal.invariant-loop-k
invariant-loop-k l = (reg : Reg) → (has l.set reg.0 ≡ true) ↔ StandsBelow l.group l.map l.site l.k reg
