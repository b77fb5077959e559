use Rattle.b3_validate.specs.Spots.{IsLeastIn, IsOfBlocksBelow}
use Rattle.b3_validate.proofs.procedure.blocks_breach.Given as goal

abbrev pub invariant-loop-block : goal.invariant-loop-block
invariant-loop-block l = IsLeastIn l.p.procedure (IsOfBlocksBelow l.block) l.least
