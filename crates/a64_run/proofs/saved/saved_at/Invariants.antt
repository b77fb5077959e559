use Rattle.std.proofs.Common.{◌≡◌, drop}
use Rattle.a64_run.specs.Machine.{saved_at}
use Rattle.a64_run.proofs.saved.saved_at.Given as goal

abbrev pub invariant-loop-row : goal.invariant-loop-row
invariant-loop-row l = saved_at l.saved l.r ≡ saved_at (drop l.row-index l.saved) l.r
