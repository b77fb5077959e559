-- What the operands of accesses may be, and what an instruction and a procedure may have. No public clause cites this module.
use Rattle.std.specs.Prelude.{◌≡◌, ◌≢◌, true, ◌+◌, ◌^◌, ◌<◌, List, All, AllPairs, length, sum_by}
use Rattle.b3_base.specs.Word.{bits}
use Rattle.b3_base.specs.declared.word.Width.{Width}
use Rattle.a64_inst.specs.StepMemory.{access_bytes}
use Rattle.a64_inst.specs.declared.inst.AccessKind.{AccessKind}
use Rattle.air_ir.specs.Forms.{Immediates, OfLogic, OfSum, IsImmediate, is_offset}
use Rattle.air_ir.specs.declared.op.AirOp.{AirOp}
use Rattle.air_ir.specs.declared.op.AirOp.TheVariants as op
use Rattle.air_ir.specs.declared.op.Test.{Test}
use Rattle.air_ir.specs.declared.op.Test.TheVariants.{Compare, NonZero, Bit}
use Rattle.air_ir.specs.declared.operand.Arg.{Arg}
use Rattle.air_ir.specs.declared.operand.Arg.TheVariants.{Addr}
use Rattle.air_ir.specs.declared.operand.Home.TheVariants.{Reg}
use Rattle.air_ir.specs.declared.operand.Operand.{Operand}
use Rattle.air_ir.specs.declared.procedure.AirBlock.{AirBlock}
use Rattle.air_ir.specs.declared.procedure.AirInst.{AirInst}
use Rattle.air_ir.specs.declared.procedure.AirProc.{AirProc}
use Rattle.air_shuffle.specs.Moves.{IsSource}
use Rattle.air_shuffle.specs.declared.moves.Move.{Move}
use Rattle.a64_code.specs.Accesses.{access_kind}
use Rattle.a64_emit.specs.Code.{arg_at, block_exits, block_labels, inner_marks, kept_register, source_at, width_at, moves_of}
use Rattle.a64_emit.specs.Switched.{AreDifferent}
use Rattle.a64_code.specs.declared.source.Source.{Source}
use Rattle.a64_code.specs.declared.source.Source.TheVariants.{InReg, Constant}
use Rattle.a64_code.specs.Fitting.{IsComputed, IsTested}

-- what the address of an access may be, where it has an offset
abbrev pub IsReached : AccessKind → Arg → Type 0
IsReached kind (Addr base offset) = is_offset (access_bytes kind) offset ≡ true
IsReached kind _ = Unit {0}

-- the operands of a load, and of a store
abbrev pub IsLoaded : AirOp → List Operand → Type 0
IsLoaded op os = IsReached (access_kind op (width_at os 0)) (arg_at os 0)

abbrev pub IsStored : AirOp → List Operand → Type 0
IsStored op os = IsReached (access_kind op (width_at os 0)) (arg_at os 1)

-- moves that may be put in order: from homes and immediates, to homes that differ, none of which is the register that
-- keeps a word
pub record AreOrderable (ms : List Move) : Type 0 where
  pub sources : All (λ (m : Move). IsSource m.from) ms
  pub differ : AllPairs (λ (m n : Move). m.to ≢ n.to) ms
  pub apart : All (λ (m : Move). m.to ≢ Reg kept_register) ms

-- what an instruction may take
abbrev pub IsFitting : AirOp → List Operand → Type 0
IsFitting op.Shuffle os = AreOrderable (moves_of os)
IsFitting (op.SetIf test) os = IsTested test (width_at os 0) (source_at os 1 16)
IsFitting (op.SelectIf test) os = IsTested test (width_at os 0) (source_at os 1 16)
IsFitting (op.CheckIf test) os = IsTested test (width_at os 0) (source_at os 1 16)
IsFitting (op.BranchIf test) os = IsTested test (width_at os 0) (source_at os 1 16)
IsFitting op.Load8Z os = IsLoaded op.Load8Z os
IsFitting op.Load8S os = IsLoaded op.Load8S os
IsFitting op.Load16Z os = IsLoaded op.Load16Z os
IsFitting op.Load16S os = IsLoaded op.Load16S os
IsFitting op.Load os = IsLoaded op.Load os
IsFitting op.Store8 os = IsStored op.Store8 os
IsFitting op.Store16 os = IsStored op.Store16 os
IsFitting op.Store os = IsStored op.Store os
IsFitting (op.Switch cases) os = AreDifferent (width_at os 0) cases
IsFitting op os = IsComputed op (width_at os 0) (source_at os 1 16)

abbrev pub IsFittingBlock : AirBlock → Type 0
IsFittingBlock b = All (λ (i : AirInst). IsFitting i.op i.operands) b.insts

-- the labels and the marks are numbers of 32 bits
pub record AreFitting (p : AirProc) : Type 0 where
  pub labels : length p.blocks + sum_by block_labels p.blocks < 2 ^ 32
  pub marks : inner_marks p.blocks + sum_by block_exits p.blocks < 2 ^ 32
