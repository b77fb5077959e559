use Rattle.b3_ir.proofs.Keeping.{IsPacked}
use Rattle.b3_ir.proofs.procedure.Proc.keep_blocks.Given as goal

abbrev pub invariant-loop-from : goal.invariant-loop-from
invariant-loop-from l = IsPacked l.initial.self l.self l.keep l.from l.live
