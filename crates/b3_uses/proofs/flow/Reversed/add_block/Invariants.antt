use Rattle.std.proofs.Common.{◌≡◌, List, length}
use Rattle.std.specs.BTreeMap as tree
use Rattle.std.specs.Ordering.{nat_cmp}
use Rattle.b3_ir.specs.Procedure.{values_from}
use Rattle.b3_ir.specs.declared.value.Value.{Value}
use Rattle.b3_uses.specs.Lists.{AddsTo}
use Rattle.b3_uses.specs.Reversed.{DefinesAt}
use Rattle.b3_uses.specs.Walked.{Walked}
use Rattle.b3_uses.proofs.flow.Reversed.add_block.Given as goal

abbrev pub invariant-loop-at : goal.invariant-loop-at
invariant-loop-at l =
    (before : List Value) × Walked l.p l.block before l.at × (l.self.names ≡ l.fn.self.names)
    × (l.self.sources ≡ l.fn.self.sources)
    × AddsTo l.fn.self.defined l.self.defined (DefinesAt (length l.p.procedure.blocks) l.block (tree.get nat_cmp l.names.numbers) before)

abbrev pub decreases-loop-at : goal.decreases-loop-at
decreases-loop-at l = length (values_from l.p l.block l.at)
