use Rattle.std.proofs.Common.{◌≡◌, ◌⊎◌, ◌+◌, take}
use Rattle.std.specs.Prelude.{Contains}
use Rattle.air_graph.specs.Walk.{Adds, IsMet}
use Rattle.air_graph.proofs.met.add_defined.Given as goal

abbrev pub invariant-loop-x : goal.invariant-loop-x
invariant-loop-x l = record {
  names : l.edges.names ≡ l.initial.edges.names;
  edges : Adds (l.tmps + 25) l.initial.edges l.edges (λ a b. (Contains (take l.x-index l.defined) a × IsMet l.tmps l.t l.live a b)
      ⊎ (Contains (take l.x-index l.defined) b × IsMet l.tmps l.t l.live b a));
}
