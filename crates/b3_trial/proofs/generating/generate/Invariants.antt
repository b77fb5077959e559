use Rattle.std.proofs.Common.{◌≡◌, ◌++◌, ◌-◌}
use Rattle.b3_trial.specs.Generated.{procedures_from, text_of}
use Rattle.b3_trial.proofs.generating.generate.Given as goal

abbrev pub invariant-loop-p : goal.invariant-loop-p
invariant-loop-p l = l.out ++ text_of (procedures_from (16 - l.p) l.state l.p) ≡ text_of (procedures_from 16 l.fn.n 0)
