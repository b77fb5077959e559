use Rattle.std.proofs.Common.{◌≡◌, ◌<◌, ℕ, take}
use Rattle.std.specs.List.{list_any}
use Rattle.stackmap.specs.Registers.{has}
use Rattle.air_frame.specs.Targets.{operand_writes}
use Rattle.air_frame.proofs.registers.written_by_inst.Given as goal

abbrev pub invariant-loop-operand : goal.invariant-loop-operand
invariant-loop-operand l = (r : ℕ) → r < 32 → has l.written r ≡ list_any (operand_writes r) (take l.operand-index l.operand-items)
