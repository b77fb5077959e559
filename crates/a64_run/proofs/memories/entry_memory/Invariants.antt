use Rattle.std.proofs.Common.{◌≡◌, ℕ}
use Rattle.std.specs.Prelude.{if◌then◌else◌}
use Rattle.std.specs.FinMap as map
use Rattle.b3_base.specs.Observed.{machine_start_of}
use Rattle.a64_run.specs.Placement.{is_within, stack_byte}
use Rattle.a64_run.proofs.memories.entry_memory.Given as goal

abbrev pub invariant-loop-i : goal.invariant-loop-i
invariant-loop-i l = (q : ℕ) → map.get l.memory q ≡ (if is_within l.first l.i q then stack_byte (machine_start_of l.start) q else map.get l.start.memory q)
