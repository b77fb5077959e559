use Rattle.b3_validate.specs.Index.{AreBlocksBelow}
use Rattle.b3_validate.proofs.index.block_numbers.Given as goal

abbrev pub invariant-loop-block : goal.invariant-loop-block
invariant-loop-block l = AreBlocksBelow l.p.procedure l.block l.numbers
