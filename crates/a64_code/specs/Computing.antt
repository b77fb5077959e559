-- The instruction of an op on registers and immediates, and that of a test.
use Rattle.std.specs.Prelude.{ℕ, ◌-◌, ◌/◌, ◌%◌, ◌^◌, Bool, true, false, nat_le, if◌then◌else◌, ◌+◌, ◌<◌, ◌||◌, nat_eq, List, [], ◌∷◌, ◌++◌, length, get_or, map, All, AllPairs}
use Rattle.b3_base.specs.MaskFields.{fields_of_mask}
use Rattle.b3_base.specs.Word.{bits}
use Rattle.b3_base.specs.declared.word.Width.{Width}
use Rattle.b3_base.specs.declared.word.Width.TheVariants.{W32, W64}
use Rattle.a64_inst.specs.declared.inst.Cond.{Cond}
use Rattle.a64_inst.specs.declared.inst.Cond.TheVariants.{Mi, Ne, Eq, Hi}
use Rattle.a64_inst.specs.declared.inst.Inst.{Inst}
use Rattle.a64_inst.specs.declared.inst.Inst.TheVariants.{AddSubImm, AddSubReg, BitField, CountZeros, Divide, LogicImm, LogicReg, MulAdd, MulHigh, Nop, ShiftReg}
use Rattle.a64_inst.specs.declared.inst.LogicOp.{LogicOp}
use Rattle.a64_inst.specs.declared.inst.LogicOp.TheVariants as logic
use Rattle.a64_inst.specs.declared.inst.ShiftKind.{ShiftKind}
use Rattle.a64_inst.specs.declared.inst.ShiftKind.TheVariants.{Lslv, Lsrv, Asrv, Rorv}
use Rattle.a64_inst.specs.StepData.{shift_of}
use Rattle.air_ir.specs.Forms.{is_short, DifferIn}
use Rattle.air_ir.specs.declared.op.AirOp.{AirOp}
use Rattle.air_ir.specs.declared.op.AirOp.TheVariants as op
use Rattle.air_ir.specs.declared.op.Test.{Test}
use Rattle.air_ir.specs.declared.op.Test.TheVariants.{Compare, NonZero, Bit}
use Rattle.a64_code.specs.declared.source.Source.{Source}
use Rattle.a64_code.specs.declared.source.Source.TheVariants.{InReg, Constant}

-- the register of a source; ZR for a constant
abbrev pub reg_of : Source → ℕ
reg_of (InReg reg) = reg
reg_of (Constant word) = 31

-- a sum or difference with 12 bits, or with 12 bits shifted left by 12
abbrev pub short_sum : Width → Bool → Bool → ℕ → ℕ → ℕ → Inst
short_sum width sub flags rd rn short =
    if nat_le short 4095 then AddSubImm width sub flags rd rn short false else
    AddSubImm width sub flags rd rn (short / 4096) true

-- a sum, or where `sub` a difference, with a word, by the other one where the word isn't short
abbrev pub sum_with : Width → Bool → Bool → ℕ → ℕ → ℕ → Inst
sum_with width false flags rd rn word =
    if is_short word then short_sum width false flags rd rn word else short_sum width true flags rd rn (2 ^ bits width - word)
sum_with width true flags rd rn word =
    if is_short word then short_sum width true flags rd rn word else short_sum width false flags rd rn (2 ^ bits width - word)

abbrev pub sum_by : Width → Bool → Bool → ℕ → ℕ → Source → Inst
sum_by width sub flags rd rn (InReg rm) = AddSubReg width sub flags rd rn rm 0 0
sum_by width sub flags rd rn (Constant word) = sum_with width sub flags rd rn word

abbrev pub logic_with : Width → LogicOp → ℕ → ℕ → ℕ × ℕ × ℕ → Inst
logic_with width op rd rn fields = LogicImm width op rd rn fields.0 fields.1 fields.2

abbrev pub logic_by : Width → LogicOp → ℕ → ℕ → Source → Inst
logic_by width op rd rn (InReg rm) = LogicReg width op false rd rn rm 0 0
logic_by width op rd rn (Constant word) = logic_with width op rd rn (fields_of_mask width word)

-- a register moved, shifted by a number of bits
abbrev pub move_shifted : Width → ℕ → ℕ → ℕ → ℕ → Inst
move_shifted width rd rm shift amount = LogicReg width logic.Orr false rd 31 rm shift amount

abbrev pub move_reg : Width → ℕ → ℕ → Inst
move_reg width rd rm = move_shifted width rd rm 0 0

abbrev pub shift_by : Width → ShiftKind → ℕ → ℕ → Source → Inst
shift_by width kind rd rn (InReg rm) = ShiftReg width kind rd rn rm
shift_by width kind rd rn (Constant word) = move_shifted width rd rn (shift_of kind) (word % bits width)

-- what an op computes at a width into rd
unfoldable pub computing : AirOp → Width → ℕ → Source → Source → Source → Inst
computing op.Add width rd a b c = sum_by width false false rd (reg_of a) b
computing op.Sub width rd a b c = AddSubReg width true false rd (reg_of a) (reg_of b) 0 0
computing op.Neg width rd a b c = AddSubReg width true false rd 31 (reg_of a) 0 0
computing op.Mul width rd a b c = MulAdd width false rd (reg_of a) (reg_of b) 31
computing op.MulSub width rd a b c = MulAdd width true rd (reg_of a) (reg_of b) (reg_of c)
computing op.Div width rd a b c = Divide width true rd (reg_of a) (reg_of b)
computing op.UDiv width rd a b c = Divide width false rd (reg_of a) (reg_of b)
computing op.And width rd a b c = logic_by width logic.And rd (reg_of a) b
computing op.Or width rd a b c = logic_by width logic.Orr rd (reg_of a) b
computing op.Xor width rd a b c = logic_by width logic.Eor rd (reg_of a) b
computing op.Lsl width rd a b c = shift_by width Lslv rd (reg_of a) b
computing op.Lsr width rd a b c = shift_by width Lsrv rd (reg_of a) b
computing op.Asr width rd a b c = shift_by width Asrv rd (reg_of a) b
computing op.Ror width rd a b c = shift_by width Rorv rd (reg_of a) b
computing op.Clz width rd a b c = CountZeros width rd (reg_of a)
computing op.SExt8 width rd a b c = BitField W32 true rd (reg_of a) 0 7
computing op.SExt16 width rd a b c = BitField W32 true rd (reg_of a) 0 15
computing op.SExt32 width rd a b c = BitField W64 true rd (reg_of a) 0 31
computing op.ZExt32 width rd a b c = move_reg W32 rd (reg_of a)
computing op.MulHigh width rd a b c = MulHigh true rd (reg_of a) (reg_of b)
computing op.UMulHigh width rd a b c = MulHigh false rd (reg_of a) (reg_of b)
computing _ width rd a b c = Nop

-- ---- tests

-- whether a test takes two words
abbrev pub takes_two : Test → Bool
takes_two (Compare cond) = true
takes_two NonZero = false
takes_two (Bit bit) = false

-- the flags of a test: those of a difference; or the bit is the sign of what is left of the word shifted up to it
unfoldable pub testing : Test → Width → Source → Source → Inst
testing (Compare cond) width a b = sum_by width true true 31 (reg_of a) b
testing NonZero width a b = AddSubImm width true true 31 (reg_of a) 0 false
testing (Bit bit) width a b = AddSubReg width false true 31 31 (reg_of a) 0 (bits width - 1 - bit)

-- the condition of these flags that holds where the test passes
abbrev pub condition : Test → Cond
condition (Compare cond) = cond
condition NonZero = Ne
condition (Bit bit) = Mi

-- ---- immediates

-- a word is an immediate of a difference, or of a sum
abbrev pub is_sum_word : Width → ℕ → Bool
is_sum_word width word = is_short word || is_short (2 ^ bits width - word)
