use Rattle.b3_uses.specs.Open.{ListsBelow}
use Rattle.b3_uses.proofs.gather.open_uses.Given as goal

abbrev pub invariant-loop-block : goal.invariant-loop-block
invariant-loop-block l = ListsBelow l.p.procedure l.block l.found
