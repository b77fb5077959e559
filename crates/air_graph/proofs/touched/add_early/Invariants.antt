use Rattle.std.proofs.Common.{◌≡◌, ◌++◌, take}
use Rattle.std.specs.Prelude.{filter_map}
use Rattle.air_graph.specs.Walk.{early_of}
use Rattle.air_graph.proofs.touched.add_early.Given as goal

abbrev pub invariant-loop-operand : goal.invariant-loop-operand
invariant-loop-operand l = l.early ≡ l.initial.early ++ filter_map (early_of l.tmps) (take l.operand-index l.operands)
