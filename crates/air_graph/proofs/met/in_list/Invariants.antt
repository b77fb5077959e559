use Rattle.std.proofs.Common.{◌≡◌, take, false}
use Rattle.air_graph.specs.Walk.{in_list}
use Rattle.air_graph.proofs.met.in_list.Given as goal

abbrev pub invariant-loop-x : goal.invariant-loop-x
invariant-loop-x l = in_list (take l.x-index l.list) l.n ≡ false
