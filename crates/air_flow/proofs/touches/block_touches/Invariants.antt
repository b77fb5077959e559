use Rattle.std.proofs.Common.{◌≡◌, map, take}
use Rattle.air_flow.specs.Flow.{inst_touches}
use Rattle.air_flow.proofs.touches.block_touches.Given as goal

abbrev pub invariant-loop-inst : goal.invariant-loop-inst
invariant-loop-inst l = l.touches ≡ map (inst_touches l.tmps) (take l.inst-index l.block.insts)
