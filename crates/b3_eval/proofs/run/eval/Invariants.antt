use Rattle.std.proofs.Common.{◌≡◌, map}
use Rattle.b3_base.specs.Observed.{answer_of, start_of}
use Rattle.b3_base.specs.Run.{iterate}
use Rattle.b3_ir.specs.Naming.{type_of}
use Rattle.b3_meaning.specs.Run.{At, block_step, run_of}
use Rattle.b3_eval.specs.Lookup.{type_in}
use Rattle.b3_eval.specs.Stands.{answers_from, state_of}
use Rattle.b3_eval.proofs.run.eval.Given as goal

abbrev pub invariant-loop-left : goal.invariant-loop-left
invariant-loop-left l = record {
  types : type_in l.types ≡ type_of l.p.procedure;
  same : run_of l.p.procedure (start_of l.start) (map answer_of l.answers) l.n
      ≡ iterate (block_step l.p.procedure (start_of l.start)) l.left (At l.block (state_of (answers_from l.answers l.taken) l.st));
}

abbrev pub decreases-loop-left : goal.decreases-loop-left
decreases-loop-left l = l.left
