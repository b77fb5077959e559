use Rattle.std.proofs.Common.{ℕ, ◌<◌}
use Rattle.flow_live.specs.Graph.{IsDefOf}
use Rattle.flow_live.proofs.scan.defines.Given as goal

abbrev pub invariant-loop-k : goal.invariant-loop-k
invariant-loop-k g l = (j : ℕ) → j < l.k → IsDefOf ((g.F.Flow.shape l.flow).touch l.block l.place j) l.name → ⊥
