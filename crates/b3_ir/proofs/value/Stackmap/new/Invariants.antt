use Rattle.std.proofs.Common.{◌≡◌}
use Rattle.std.specs.Prelude.{replicate}
use Rattle.b3_ir.specs.declared.value.Constraint.TheVariants.{WarmAny}
use Rattle.b3_ir.proofs.value.Stackmap.new.Given as goal

abbrev pub invariant-loop : goal.invariant-loop
invariant-loop l = l.constraints ≡ replicate l.counter WarmAny
