use Rattle.std.proofs.Common.{◌≡◌, take}
use Rattle.std.specs.List.{flat_map}
use Rattle.air_graph.specs.Moves.{block_moves}
use Rattle.air_graph.proofs.moves.moves_of.Given as goal

abbrev pub invariant-loop-block : goal.invariant-loop-block
invariant-loop-block l = l.moves ≡ flat_map block_moves (take l.block-index l.p.blocks)
