use Rattle.std.proofs.Common.{length}
use Rattle.b3_ir.specs.Procedure.{values_from, values_of}
use Rattle.b3_rules.specs.Rules.{first_return}
use Rattle.air_fold.proofs.Walks.{IsWalked}
use Rattle.air_select.proofs.entry.return_in.Given as goal

abbrev pub invariant-loop-at : goal.invariant-loop-at
invariant-loop-at l = IsWalked l.p l.block first_return (first_return (values_of l.p.procedure l.block)) l.at

abbrev pub decreases-loop-at : goal.decreases-loop-at
decreases-loop-at l = length (values_from l.p l.block l.at)
