use Rattle.b3_ir.specs.Procedure.{procedures}
use Rattle.b3_validate.specs.Firsts.{IsFirstBelow, IsUses}
use Rattle.b3_validate.proofs.found.use_breach.Given as goal

abbrev pub invariant-loop-at : goal.invariant-loop-at
invariant-loop-at l = IsFirstBelow IsUses (procedures l.module_) l.at l.found
