use Rattle.std.proofs.Common.{List, length}
use Rattle.b3_ir.specs.Procedure.{values_from}
use Rattle.b3_ir.specs.declared.value.Value.{Value}
use Rattle.b3_uses.specs.Lists.{AddsTo}
use Rattle.b3_uses.specs.Origins.{AreHomes}
use Rattle.b3_uses.specs.Reversed.{LeadsToAny}
use Rattle.b3_uses.specs.Walked.{Walked}
use Rattle.b3_uses.proofs.origins.Origins.add_block.Given as goal

abbrev pub invariant-loop-at : goal.invariant-loop-at
invariant-loop-at l =
    (before : List Value) × Walked l.p l.block before l.at
    × AddsTo l.fn.self.sources l.self.sources (LeadsToAny (length l.p.procedure.blocks) l.block before)
    × AreHomes l.p.procedure l.self.homes

abbrev pub decreases-loop-at : goal.decreases-loop-at
decreases-loop-at l = length (values_from l.p l.block l.at)
