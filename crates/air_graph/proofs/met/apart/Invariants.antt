use Rattle.std.proofs.Common.{◌≡◌, take, not}
use Rattle.std.specs.Prelude.{filter}
use Rattle.air_graph.specs.Homes.{home_at}
use Rattle.air_graph.specs.Walk.{is_move}
use Rattle.air_graph.proofs.met.apart.Given as goal

abbrev pub invariant-loop-y : goal.invariant-loop-y
invariant-loop-y l = l.list ≡ filter (λ y. not (is_move l.moves (home_at l.tmps y) (home_at l.tmps l.x))) (take l.y-index l.live)
