use Rattle.std.proofs.Common.{◌≡◌, ◌⊎◌, take}
use Rattle.std.specs.Prelude.{Contains}
use Rattle.air_graph.specs.Walk.{Adds}
use Rattle.air_graph.proofs.met.add_all.Given as goal

abbrev pub invariant-loop-y : goal.invariant-loop-y
invariant-loop-y l = record {
  names : l.edges.names ≡ l.initial.edges.names;
  edges : Adds l.initial.edges.names l.initial.edges l.edges
      (λ a b. ((a ≡ l.x) × Contains (take l.y-index l.met) b) ⊎ ((b ≡ l.x) × Contains (take l.y-index l.met) a));
}
