use Rattle.std.proofs.Common.{[], length}
use Rattle.b3_ir.specs.Procedure.{values_from, values_of}
use Rattle.air_select.proofs.Coded.{with_code}
use Rattle.air_fold.proofs.Walks.{IsWalked}
use Rattle.air_select.proofs.procedure.block_of.Given as goal

abbrev pub invariant-loop-at : goal.invariant-loop-at
invariant-loop-at l = IsWalked l.p l.block (with_code l.t l.insts l.targets) (with_code l.t [] [] (values_of l.p.procedure l.block)) l.at

abbrev pub decreases-loop-at : goal.decreases-loop-at
decreases-loop-at l = length (values_from l.p l.block l.at)
