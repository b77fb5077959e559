use Rattle.std.proofs.Common.{◌≡◌, ◌⊎◌, ◌+◌, ◌≤◌, ◌<◌}
use Rattle.air_graph.specs.Walk.{Adds}
use Rattle.air_graph.proofs.walk.add_register.Given as goal

abbrev pub invariant-loop-s : goal.invariant-loop-s
invariant-loop-s l = record {
  names : l.edges.names ≡ l.initial.edges.names;
  edges : Adds l.initial.edges.names l.initial.edges l.edges (λ x y. ((x ≡ l.tmps + l.r) × ((l.tmps ≤ y) × (y < l.tmps + l.s)))
      ⊎ ((y ≡ l.tmps + l.r) × ((l.tmps ≤ x) × (x < l.tmps + l.s))));
}
