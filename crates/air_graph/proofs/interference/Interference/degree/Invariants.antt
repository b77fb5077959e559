use Rattle.std.proofs.Common.{◌≡◌, ◌≤◌}
use Rattle.air_graph.specs.Edges.{count, has_edge}
use Rattle.air_graph.proofs.interference.Interference.degree.Given as goal

abbrev pub invariant-loop-x : goal.invariant-loop-x
invariant-loop-x l = record {
  counted : l.neighbours ≡ count (has_edge l.self.edges l.n) l.x;
  few : l.neighbours ≤ l.x;
}
