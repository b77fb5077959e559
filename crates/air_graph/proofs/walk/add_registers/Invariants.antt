use Rattle.std.proofs.Common.{◌≡◌, ◌+◌, ◌≤◌, ◌<◌}
use Rattle.air_graph.specs.Walk.{Adds}
use Rattle.air_graph.proofs.walk.add_registers.Given as goal

abbrev pub invariant-loop-r : goal.invariant-loop-r
invariant-loop-r l = record {
  names : l.edges.names ≡ l.initial.edges.names;
  edges : Adds l.initial.edges.names l.initial.edges l.edges
      (λ x y. ((l.tmps ≤ x) × (x < l.tmps + l.r)) × ((l.tmps ≤ y) × (y < l.tmps + l.r)));
}
