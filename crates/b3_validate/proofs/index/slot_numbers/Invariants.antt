use Rattle.b3_validate.specs.Index.{AreSlotsBelow}
use Rattle.b3_validate.proofs.index.slot_numbers.Given as goal

abbrev pub invariant-loop-place : goal.invariant-loop-place
invariant-loop-place l = AreSlotsBelow l.p.procedure l.place l.numbers
