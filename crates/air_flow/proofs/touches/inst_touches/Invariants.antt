use Rattle.std.proofs.Common.{◌≡◌, take}
use Rattle.std.specs.List.{flat_map}
use Rattle.air_flow.specs.Flow.{operand_touches}
use Rattle.air_flow.proofs.touches.inst_touches.Given as goal

abbrev pub invariant-loop-operand : goal.invariant-loop-operand
invariant-loop-operand l = l.touches ≡ flat_map (operand_touches l.tmps) (take l.operand-index l.inst.operands)
