use Rattle.std.proofs.Common.{take}
use Rattle.b3_uses.specs.Leasts.{IsLeastMissed}
use Rattle.flow_live.specs.Graph.{Graph}
use Rattle.flow_live.specs.Liveness.{IsLivenessOf}
use Rattle.b3_uses.proofs.uncovered.least_missed.Given as goal

abbrev pub invariant-loop-used : goal.invariant-loop-used
invariant-loop-used l = (g : Graph) → IsLivenessOf g l.sets → IsLeastMissed g (take l.used-index l.uses) l.least
