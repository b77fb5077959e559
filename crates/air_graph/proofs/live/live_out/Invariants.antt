use Rattle.std.proofs.Common.{◌≡◌, take}
use Rattle.std.specs.Prelude.{filter_map}
use Rattle.air_graph.specs.Walk.{number_named}
use Rattle.air_graph.proofs.live.live_out.Given as goal

abbrev pub invariant-loop-name : goal.invariant-loop-name
invariant-loop-name l = l.list ≡ filter_map (number_named l.tmps) (take l.name-index l.name-items)
