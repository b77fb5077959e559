-- Which constants the sources of ops may be.
use Rattle.std.specs.Prelude.{◌≡◌, true, ◌+◌, ◌^◌, ◌<◌, List, All, length, sum_by}
use Rattle.b3_base.specs.Word.{bits}
use Rattle.b3_base.specs.declared.word.Width.{Width}
use Rattle.a64_inst.specs.StepMemory.{access_bytes}
use Rattle.a64_inst.specs.declared.inst.AccessKind.{AccessKind}
use Rattle.air_ir.specs.Forms.{Immediates, OfLogic, OfSum, IsImmediate, is_offset}
use Rattle.air_ir.specs.declared.op.AirOp.{AirOp}
use Rattle.air_ir.specs.declared.op.AirOp.TheVariants as op
use Rattle.air_ir.specs.declared.op.Test.{Test}
use Rattle.air_ir.specs.declared.op.Test.TheVariants.{Compare, NonZero, Bit}
use Rattle.air_ir.specs.declared.operand.Arg.{Arg}
use Rattle.air_ir.specs.declared.operand.Arg.TheVariants.{Addr}
use Rattle.air_ir.specs.declared.operand.Operand.{Operand}
use Rattle.air_ir.specs.declared.procedure.AirBlock.{AirBlock}
use Rattle.air_ir.specs.declared.procedure.AirInst.{AirInst}
use Rattle.air_ir.specs.declared.procedure.AirProc.{AirProc}
use Rattle.a64_code.specs.Accesses.{access_kind}
use Rattle.a64_code.specs.declared.source.Source.{Source}
use Rattle.a64_code.specs.declared.source.Source.TheVariants.{InReg, Constant}

-- a constant of a width, of these immediates
abbrev pub FitsSource : Immediates → Width → Source → Type 0
FitsSource immediates width (InReg reg) = Unit {0}
FitsSource immediates width (Constant word) = (word < 2 ^ bits width) × IsImmediate immediates width word

abbrev pub IsSummed : Width → Source → Type 0
IsSummed width by = FitsSource OfSum width by

abbrev pub IsMasked : Width → Source → Type 0
IsMasked width by = FitsSource OfLogic width by

-- what the second source of an op may be, where it is a sum or a logical operation
abbrev pub IsComputed : AirOp → Width → Source → Type 0
IsComputed op.Add width b = IsSummed width b
IsComputed op.And width b = IsMasked width b
IsComputed op.Or width b = IsMasked width b
IsComputed op.Xor width b = IsMasked width b
IsComputed _ width b = Unit {0}

-- what a test may take: a bit is one of the width
abbrev pub IsTested : Test → Width → Source → Type 0
IsTested (Compare cond) width b = IsSummed width b
IsTested NonZero width b = Unit {0}
IsTested (Bit bit) width b = bit < bits width
