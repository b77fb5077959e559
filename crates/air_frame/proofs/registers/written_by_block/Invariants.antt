use Rattle.std.proofs.Common.{◌≡◌, ◌<◌, ℕ, take}
use Rattle.std.specs.List.{list_any}
use Rattle.stackmap.specs.Registers.{has}
use Rattle.air_frame.specs.Needs.{inst_writes}
use Rattle.air_frame.proofs.registers.written_by_block.Given as goal

abbrev pub invariant-loop-inst : goal.invariant-loop-inst
invariant-loop-inst l = (r : ℕ) → r < 32 → has l.written r ≡ list_any (inst_writes r) (take l.inst-index l.inst-items)
