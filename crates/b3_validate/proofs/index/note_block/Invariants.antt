use Rattle.std.proofs.Common.{length}
use Rattle.b3_ir.specs.Procedure.{values_from}
use Rattle.b3_validate.specs.Index.{AreNamedBefore}
use Rattle.b3_validate.proofs.Walking.{IsReached}
use Rattle.b3_validate.proofs.index.note_block.Given as goal

abbrev pub invariant-loop-at : goal.invariant-loop-at
invariant-loop-at l = IsReached l.p l.block (λ n. AreNamedBefore l.p l.block n l.ids) l.at

abbrev pub decreases-loop-at : goal.decreases-loop-at
decreases-loop-at l = length (values_from l.p l.block l.at)
