use Rattle.std.proofs.Common.{All, ◌≢◌, take}
use Rattle.b3_ir.specs.declared.value.Constraint.TheVariants.{SomeEarlyRegister}
use Rattle.b3_rules.proofs.sites.none_early.Given as goal

abbrev pub invariant-loop-constraint : goal.invariant-loop-constraint
invariant-loop-constraint l = All (λ c. c ≢ SomeEarlyRegister) (take l.constraint-index l.constraints)
