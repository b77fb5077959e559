use Rattle.std.proofs.Common.{◌≡◌, ℕ, take}
use Rattle.air_colour.specs.Kept.{JoinedTo}
use Rattle.air_colour.proofs.joining.add_edges.Given as goal

abbrev pub invariant-loop-x : goal.invariant-loop-x
invariant-loop-x l = record {
  names : l.edges.names ≡ l.initial.edges.names;
  meets : (y z : ℕ) → JoinedTo l.initial.edges l.edges l.a (take l.x-index l.near) y z;
}
