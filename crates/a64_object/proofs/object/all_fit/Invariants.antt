use Rattle.std.proofs.Common.{take}
use Rattle.std.specs.Prelude.{All}
use Rattle.b3_ir.specs.Procedure.{AllFit, Procedure, procedures}
use Rattle.a64_object.proofs.object.all_fit.Given as goal

abbrev pub invariant-loop-at : goal.invariant-loop-at
invariant-loop-at l = All (λ (p : Procedure). AllFit p.blocks) (take l.at (procedures l.module_))
