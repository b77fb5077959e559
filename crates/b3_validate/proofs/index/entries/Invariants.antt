use Rattle.b3_validate.specs.Index.{AreNamedBefore}
use Rattle.b3_validate.proofs.index.entries.Given as goal

abbrev pub invariant-loop-block : goal.invariant-loop-block
invariant-loop-block l = AreNamedBefore l.p l.block 0 l.ids
