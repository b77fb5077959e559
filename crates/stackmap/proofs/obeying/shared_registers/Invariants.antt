use Rattle.std.proofs.Common.{◌≡◌, ◌↔◌, true}
use Rattle.b3_ir.specs.declared.value.Reg.{Reg}
use Rattle.stackmap.specs.Registers.{has}
use Rattle.stackmap.specs.Standing.{StandsBelow, TwiceBelow}
use Rattle.stackmap.specs.declared.obeying.Group.TheVariants.{Every}
use Rattle.stackmap.proofs.obeying.shared_registers.Given as goal

abbrev pub invariant-loop-k : goal.invariant-loop-k
invariant-loop-k l = record {
  once : (reg : Reg) → (has l.once reg.0 ≡ true) ↔ StandsBelow Every l.map l.site l.k reg;
  twice : (reg : Reg) → (has l.twice reg.0 ≡ true) ↔ TwiceBelow l.map l.site l.k reg;
}
