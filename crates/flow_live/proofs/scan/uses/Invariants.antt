use Rattle.std.proofs.Common.{ℕ, ◌<◌}
use Rattle.flow_live.specs.Graph.{IsUseOf}
use Rattle.flow_live.proofs.scan.uses.Given as goal

abbrev pub invariant-loop-k : goal.invariant-loop-k
invariant-loop-k g l = (j : ℕ) → j < l.k → IsUseOf ((g.F.Flow.shape l.flow).touch l.block l.place j) l.name → ⊥
