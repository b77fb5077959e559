use Rattle.std.proofs.Common.{◌≡◌, take, not}
use Rattle.std.specs.Prelude.{filter}
use Rattle.air_graph.specs.Walk.{in_list}
use Rattle.air_graph.proofs.live.undefined.Given as goal

abbrev pub invariant-loop-y : goal.invariant-loop-y
invariant-loop-y l = l.list ≡ filter (λ y. not (in_list l.defined y)) (take l.y-index l.live)
