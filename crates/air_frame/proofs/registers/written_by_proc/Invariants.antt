use Rattle.std.proofs.Common.{◌≡◌, ◌<◌, ℕ, take}
use Rattle.std.specs.List.{list_any}
use Rattle.stackmap.specs.Registers.{has}
use Rattle.air_frame.specs.Needs.{block_writes}
use Rattle.air_frame.proofs.registers.written_by_proc.Given as goal

abbrev pub invariant-loop-block : goal.invariant-loop-block
invariant-loop-block l = (r : ℕ) → r < 32 → has l.written r ≡ list_any (block_writes r) (take l.block-index l.block-items)
