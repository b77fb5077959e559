use Rattle.std.proofs.Common.{length}
use Rattle.b3_ir.specs.Procedure.{values_from}
use Rattle.b3_validate.specs.Spots.{IsInBlock, IsLeastIn}
use Rattle.b3_validate.proofs.Walking.{IsReached}
use Rattle.b3_validate.proofs.procedure.values_breach.Given as goal

abbrev pub invariant-loop-at : goal.invariant-loop-at
invariant-loop-at l = IsReached l.p l.block (λ n. IsLeastIn l.p.procedure (IsInBlock l.block n) l.least) l.at

abbrev pub decreases-loop-at : goal.decreases-loop-at
decreases-loop-at l = length (values_from l.p l.block l.at)
