use Rattle.std.proofs.Common.{◌≡◌, map, take}
use Rattle.air_flow.specs.Flow.{block_touches}
use Rattle.air_flow.proofs.flow.AirFlow.new.Given as goal

abbrev pub invariant-loop-block : goal.invariant-loop-block
invariant-loop-block l = l.touches ≡ map (block_touches l.proc.tmps) (take l.block-index l.proc.blocks)
