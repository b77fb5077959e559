use Rattle.std.proofs.Common.{◌≡◌, map}
use Rattle.b3_base.specs.Observed.{answer_of}
use Rattle.b3_base.specs.Run.{iterate}
use Rattle.a64_run.specs.Kept.{entry_of, state_of}
use Rattle.a64_run.specs.Machine.{Runs, machine_step, run_of}
use Rattle.a64_run.proofs.running.run_from.Given as goal

abbrev pub invariant-loop-left : goal.invariant-loop-left
invariant-loop-left l = run_of (entry_of l.e) (map answer_of l.answers) l.k ≡ iterate (machine_step (entry_of l.e)) l.left (Runs (state_of l.st))

abbrev pub decreases-loop-left : goal.decreases-loop-left
decreases-loop-left l = l.left
