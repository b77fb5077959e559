use Rattle.std.proofs.Common.{◌≡◌, length, IfSome}
use Rattle.b3_base.specs.Observed.{start_of}
use Rattle.b3_ir.specs.Procedure.{IsIn, values_from, values_of}
use Rattle.b3_meaning.specs.Run.{run_values}
use Rattle.b3_eval.specs.Lookup.{type_in}
use Rattle.b3_eval.specs.Stands.{answers_from, state_of}
use Rattle.b3_eval.proofs.run.block_step.Given as goal

abbrev pub invariant-loop-at : goal.invariant-loop-at
invariant-loop-at l = record {
  there : IfSome l.at (λ node. IsIn l.p node l.block);
  same : run_values (type_in l.types) (start_of l.start) (values_of l.p.procedure l.block) (state_of (answers_from l.answers l.fn.taken) l.fn.st)
      ≡ run_values (type_in l.types) (start_of l.start) (values_from l.p l.block l.at) (state_of (answers_from l.answers l.taken) l.st);
}

abbrev pub decreases-loop-at : goal.decreases-loop-at
decreases-loop-at l = length (values_from l.p l.block l.at)
