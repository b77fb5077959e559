use Rattle.std.proofs.Common.{◌≡◌, map, take}
use Rattle.air_ir.specs.Renaming.{rename}
use Rattle.air_spill.specs.Rewritten.{home_by}
use Rattle.air_spill.proofs.operands.renamed_operands.Given as goal

abbrev pub invariant-loop-operand : goal.invariant-loop-operand
invariant-loop-operand l = l.list ≡ map (rename (home_by l.assignment)) (take l.operand-index l.operands)
