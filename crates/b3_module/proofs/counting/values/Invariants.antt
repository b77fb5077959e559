use Rattle.std.proofs.Common.{◌≡◌, Ok, length}
use Rattle.std.specs.Prelude.{IfSome}
use Rattle.b3_ir.specs.Procedure.{IsIn, values_from, values_of}
use Rattle.b3_module.specs.Limits.{parts_of_values}
use Rattle.b3_module.specs.Counting.{counted_on}
use Rattle.b3_module.proofs.counting.values.Given as goal

abbrev pub invariant-loop-node : goal.invariant-loop-node
invariant-loop-node l = record {
  there : IfSome l.node (λ at. IsIn l.p at l.block);
  same : counted_on (Ok l.counts) (parts_of_values (values_from l.p l.block l.node)) ≡ counted_on (Ok l.fn.counts) (parts_of_values (values_of l.p.procedure l.block));
}

abbrev pub decreases-loop-node : goal.decreases-loop-node
decreases-loop-node l = length (values_from l.p l.block l.node)
