use Rattle.std.proofs.Common.{length}
use Rattle.b3_ir.specs.Procedure.{values_of}
use Rattle.b3_ir.proofs.Emptying.{IsEmptied}
use Rattle.b3_ir.proofs.procedure.Proc.clear.Given as goal

abbrev pub invariant-loop-node : goal.invariant-loop-node
invariant-loop-node l = IsEmptied l.initial.self l.self l.block

abbrev pub decreases-loop-node : goal.decreases-loop-node
decreases-loop-node l = length (values_of l.self.procedure l.block)
