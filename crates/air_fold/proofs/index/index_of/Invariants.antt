use Rattle.air_fold.proofs.Listed.{AreKnown}
use Rattle.air_fold.proofs.index.index_of.Given as goal

abbrev pub invariant-loop-block : goal.invariant-loop-block
invariant-loop-block l = AreKnown l.p.procedure l.ids.keys l.known l.block
