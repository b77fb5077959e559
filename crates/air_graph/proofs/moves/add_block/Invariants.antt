use Rattle.std.proofs.Common.{◌≡◌, ◌++◌, take}
use Rattle.std.specs.List.{flat_map}
use Rattle.air_graph.specs.Moves.{inst_moves}
use Rattle.air_graph.proofs.moves.add_block.Given as goal

abbrev pub invariant-loop-inst : goal.invariant-loop-inst
invariant-loop-inst l = l.moves ≡ l.initial.moves ++ flat_map inst_moves (take l.inst-index l.block.insts)
