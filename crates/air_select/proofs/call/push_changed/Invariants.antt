use Rattle.std.proofs.Common.{◌≡◌, ◌++◌, map, take}
use Rattle.b3_base.specs.declared.word.Width.TheVariants.{W64}
use Rattle.air_ir.specs.Forms.{operand_in}
use Rattle.air_ir.specs.declared.operand.Role.TheVariants.{Clobber}
use Rattle.air_select.proofs.call.push_changed.Given as goal

abbrev pub invariant-loop-r : goal.invariant-loop-r
invariant-loop-r l = l.operands ≡ l.initial.operands ++ map (operand_in Clobber W64) (take l.r-index l.registers)
