use Rattle.std.proofs.Common.{◌≡◌}
use Rattle.a64_run.specs.Kept.{entry_of, state_of}
use Rattle.a64_run.specs.Machine.{keeps_first}
use Rattle.a64_run.proofs.saved.keeps_saved.Given as goal

abbrev pub invariant-loop-i : goal.invariant-loop-i
invariant-loop-i l = l.kept ≡ keeps_first (entry_of l.e) (state_of l.st) l.i
