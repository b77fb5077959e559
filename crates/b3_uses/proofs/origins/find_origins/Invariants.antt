use Rattle.b3_uses.specs.Origins.{AreOriginsBelow}
use Rattle.b3_uses.proofs.origins.find_origins.Given as goal

abbrev pub invariant-loop-block : goal.invariant-loop-block
invariant-loop-block l = AreOriginsBelow l.p.procedure l.block l.origins
