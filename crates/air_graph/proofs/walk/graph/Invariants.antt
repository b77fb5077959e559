use Rattle.std.proofs.Common.{◌≡◌}
use Rattle.air_graph.specs.Walk.{Adds}
use Rattle.air_graph.proofs.Walking.{MeetBelow}
use Rattle.air_graph.proofs.walk.graph.Given as goal

abbrev pub invariant-loop-block : goal.invariant-loop-block
invariant-loop-block l = record {
  names : l.edges.names ≡ l.initial.edges.names;
  edges : Adds l.initial.edges.names l.initial.edges l.edges (MeetBelow l.p l.block);
}
