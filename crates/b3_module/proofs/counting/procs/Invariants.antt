use Rattle.std.proofs.Common.{◌≡◌, Ok}
use Rattle.std.specs.Prelude.{drop}
use Rattle.b3_ir.specs.Procedure.{procedures}
use Rattle.b3_module.specs.Counting.{counted_all, no_counts}
use Rattle.b3_module.proofs.counting.procs.Given as goal

abbrev pub invariant-loop-at : goal.invariant-loop-at
invariant-loop-at l = counted_all (Ok l.counts) (procedures (drop l.at l.made)) ≡ counted_all (Ok no_counts) (procedures l.made)
