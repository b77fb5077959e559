use Rattle.std.proofs.Common.{◌≡◌}
use Rattle.a64_inst.specs.Registers.{registers_of}
use Rattle.a64_run.specs.Kept.{entry_of}
use Rattle.a64_run.specs.Machine.{keeps_registers}
use Rattle.a64_run.proofs.saved.keeps_registers.Given as goal

abbrev pub invariant-loop-i : goal.invariant-loop-i
invariant-loop-i l = l.kept ≡ keeps_registers (entry_of l.e) (registers_of l.registers) l.i
