-- No public clause cites this module. The procedure that the tests emit.
use Rattle.std.specs.Prelude.{pos, false, true, List, [], ◌∷◌}
use Rattle.b3_base.specs.declared.word.Width.TheVariants.{W64}
use Rattle.stackmap.specs.declared.site.Returns.TheVariants as returns
use Rattle.air_ir.specs.declared.op.AirOp.{AirOp}
use Rattle.air_ir.specs.declared.op.AirOp.TheVariants as op
use Rattle.air_ir.specs.declared.operand.Arg.{Arg}
use Rattle.air_ir.specs.declared.operand.Arg.TheVariants.{At, Imm, Addr, FrameSlot}
use Rattle.air_ir.specs.declared.operand.Home.TheVariants.{Reg, Spill}
use Rattle.air_ir.specs.declared.operand.Operand.{Operand}
use Rattle.air_ir.specs.declared.operand.Role.TheVariants.{Use, Def}
use Rattle.air_ir.specs.declared.procedure.AirBlock.{AirBlock}
use Rattle.air_ir.specs.declared.procedure.AirInst.{AirInst}
use Rattle.air_ir.specs.declared.procedure.AirProc.{AirProc}

abbrev pub used : Arg → Operand
used arg = record { role = Use; width = W64; arg = arg }

abbrev pub made : Arg → Operand
made arg = record { role = Def; width = W64; arg = arg }

abbrev pub x0 : Arg
x0 = At (Reg (record { 0 = 0 }))

abbrev pub inst : AirOp → List Operand → AirInst
inst op operands = record { op = op; operands = operands; value = 0; traps = false }

abbrev pub moves : Arg → Arg → AirInst
moves from to = inst op.Move (used from ∷ made to ∷ [])

abbrev pub x1 : Arg
x1 = At (Reg (record { 0 = 1 }))

-- 8 bytes above x1
abbrev pub above_x1 : Arg
above_x1 = Addr (Reg (record { 0 = 1 })) (pos 8)

abbrev pub fills : AirInst
fills = moves (Imm 7) (At (Spill 0))

abbrev pub points : AirInst
points = inst op.SlotAddress (used (FrameSlot 0) ∷ made x1 ∷ [])

abbrev pub stores : AirInst
stores = inst op.Store (used (At (Spill 0)) ∷ used above_x1 ∷ [])

abbrev pub loads : AirInst
loads = record { op = op.Load; operands = used above_x1 ∷ made x0 ∷ []; value = 7; traps = true }

-- 7 is put in a spill place and from there in a slot, and the second block loads it, where it may trap, and returns it
abbrev pub entry : AirBlock
entry = record { insts = fills ∷ points ∷ stores ∷ inst op.Jump [] ∷ []; targets = 1 ∷ [] }

abbrev pub last : AirBlock
last = record { insts = loads ∷ inst op.Return (used x0 ∷ []) ∷ []; targets = [] }

abbrev pub procedure : AirProc
procedure = record { blocks = entry ∷ last ∷ []; tmps = 0; slots = 16 ∷ []; returns = returns.W64 }

-- x0 and x1 are exchanged, and a spill place is copied to another one
abbrev pub exchanged : List Operand
exchanged = used x0 ∷ made x1 ∷ used x1 ∷ made x0 ∷ used (At (Spill 0)) ∷ made (At (Spill 1)) ∷ []
