use Rattle.std.proofs.Common.{◌≡◌, length, IfSome}
use Rattle.std.specs.BTreeMap as tree
use Rattle.std.specs.Ordering.{nat_cmp}
use Rattle.b3_ir.specs.Procedure.{IsIn, values_from, values_of}
use Rattle.b3_eval.specs.Lookup.{with_types}
use Rattle.b3_eval.proofs.types.add_block.Given as goal

abbrev pub invariant-loop-at : goal.invariant-loop-at
invariant-loop-at l = record {
  there : IfSome l.at (λ node. IsIn l.p node l.block);
  same : with_types (tree.get nat_cmp l.types) (values_from l.p l.block l.at) ≡ with_types (tree.get nat_cmp l.fn.types) (values_of l.p.procedure l.block);
}

abbrev pub decreases-loop-at : goal.decreases-loop-at
decreases-loop-at l = length (values_from l.p l.block l.at)
