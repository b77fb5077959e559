use Rattle.std.proofs.Common.{◌≡◌, ◌≤◌, ℕ}
use Rattle.air_graph.specs.Walk.{Adds, LiveNow, MeetAt}
use Rattle.air_graph.proofs.walk.add_block.Given as goal

abbrev pub invariant-loop-place : goal.invariant-loop-place
invariant-loop-place l = record {
  names : l.edges.names ≡ l.initial.edges.names;
  live : LiveNow l.flow.proc.now l.block l.place l.now;
  edges : Adds l.initial.edges.names l.initial.edges l.edges
      (λ x y. (at : ℕ) × (l.place ≤ at) × MeetAt l.flow.proc.now l.block at x y);
}
