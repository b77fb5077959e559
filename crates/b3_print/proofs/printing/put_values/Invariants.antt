use Rattle.std.proofs.Common.{◌≡◌, ◌++◌, length}
use Rattle.std.specs.Prelude.{IfSome}
use Rattle.std.specs.List.{flat_map}
use Rattle.b3_ir.specs.Procedure.{IsIn, values_from, values_of}
use Rattle.b3_module.specs.Canonical.{rows_of_value}
use Rattle.b3_print.specs.Printed.{text_of}
use Rattle.b3_print.proofs.printing.put_values.Given as goal

abbrev pub invariant-loop-node : goal.invariant-loop-node
invariant-loop-node l = record {
  there : IfSome l.node (λ at. IsIn l.p at l.block);
  same : l.out ++ text_of (flat_map rows_of_value (values_from l.p l.block l.node)) ≡ l.fn.out ++ text_of (flat_map rows_of_value (values_of l.p.procedure l.block));
}

abbrev pub decreases-loop-node : goal.decreases-loop-node
decreases-loop-node l = length (values_from l.p l.block l.node)
