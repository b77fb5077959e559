use Rattle.std.proofs.Common.{◌≡◌, ◌++◌, ◌-◌}
use Rattle.b3_trial.specs.Generated.{arguments, text_of}
use Rattle.b3_trial.proofs.generating.put_arguments.Given as goal

abbrev pub invariant-loop-r : goal.invariant-loop-r
invariant-loop-r l = l.out ++ text_of (arguments (8 - l.r) l.r) ≡ l.fn.out ++ text_of (arguments 8 0)
