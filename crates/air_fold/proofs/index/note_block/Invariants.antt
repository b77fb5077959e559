use Rattle.std.proofs.Common.{length}
use Rattle.b3_ir.specs.Procedure.{values_from}
use Rattle.air_fold.proofs.Listed.{AreListed}
use Rattle.air_fold.proofs.index.note_block.Given as goal

abbrev pub invariant-loop-at : goal.invariant-loop-at
invariant-loop-at l = AreListed l.p l.block l.ids.keys l.known l.initial.known l.at

abbrev pub decreases-loop-at : goal.decreases-loop-at
decreases-loop-at l = length (values_from l.p l.block l.at)
