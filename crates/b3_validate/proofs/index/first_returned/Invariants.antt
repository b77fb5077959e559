use Rattle.b3_validate.specs.Index.{NoneBefore, returns}
use Rattle.b3_validate.proofs.index.first_returned.Given as goal

abbrev pub invariant-loop-block : goal.invariant-loop-block
invariant-loop-block l = NoneBefore l.p.procedure returns l.block 0
