use Rattle.std.proofs.Common.{ℕ, ◌⊎◌, ◌↔◌, take}
use Rattle.std.specs.Prelude.{Contains}
use Rattle.air_graph.proofs.live.add_missing.Given as goal

abbrev pub invariant-loop-y : goal.invariant-loop-y
invariant-loop-y l = (x : ℕ) → Contains l.list x ↔ (Contains l.initial.list x ⊎ Contains (take l.y-index l.more) x)
