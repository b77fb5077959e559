-- What an opcode does in a run.
use Rattle.std.specs.Prelude.{ℕ, ◌/◌, true, false}
use Rattle.b3_base.specs.Word.{bits}
use Rattle.b3_ir.specs.declared.opcode.Opcode.{Opcode}
use Rattle.b3_ir.specs.declared.opcode.Opcode.TheVariants as op
use Rattle.b3_ir.specs.declared.opcode.Ty.{Ty}
use Rattle.b3_ir.specs.Types.{width_of}
use Rattle.b3_meaning.specs.declared.role.Checked.TheVariants.{Sum, Difference, Product}
use Rattle.b3_meaning.specs.declared.role.Extent.{Extent}
use Rattle.b3_meaning.specs.declared.role.Extent.TheVariants.{Byte, Half, Whole}
use Rattle.b3_meaning.specs.declared.role.Role.{Role}
use Rattle.b3_meaning.specs.declared.role.Role.TheVariants.{Skip, Constant, Argument, Frame, SlotAddress, Pure, SetPhi, GetPhi, Load, Store, Call, Patch, Check, CheckedResult, Jump, Branch, Switch, Return, Fail}

-- how many bytes an access touches: one, two, or as many as the word of its type has
abbrev pub extent_bytes : Extent → Ty → ℕ
extent_bytes Byte ty = 1
extent_bytes Half ty = 2
extent_bytes Whole ty = bits (width_of ty) / 8

-- what an opcode does
abbrev pub role_of : Opcode → Role
role_of op.Nop = Skip
role_of op.Identity = Pure
role_of op.Const32 = Constant
role_of op.Const64 = Constant
role_of op.ArgumentReg = Argument
role_of op.FramePointer = Frame
role_of op.SlotBase = SlotAddress
role_of op.Add = Pure
role_of op.Sub = Pure
role_of op.Mul = Pure
role_of op.BitAnd = Pure
role_of op.BitOr = Pure
role_of op.BitXor = Pure
role_of op.Neg = Pure
role_of op.Div = Pure
role_of op.Mod = Pure
role_of op.UDiv = Pure
role_of op.UMod = Pure
role_of op.Shl = Pure
role_of op.SShr = Pure
role_of op.ZShr = Pure
role_of op.RotL = Pure
role_of op.RotR = Pure
role_of op.Clz = Pure
role_of op.SExt8 = Pure
role_of op.SExt16 = Pure
role_of op.SExt32 = Pure
role_of op.ZExt32 = Pure
role_of op.Trunc = Pure
role_of op.Equal = Pure
role_of op.NotEqual = Pure
role_of op.LessThan = Pure
role_of op.GreaterThan = Pure
role_of op.LessEqual = Pure
role_of op.GreaterEqual = Pure
role_of op.Above = Pure
role_of op.Below = Pure
role_of op.AboveEqual = Pure
role_of op.BelowEqual = Pure
role_of op.Select = Pure
role_of op.Load8Z = Load Byte false
role_of op.Load8S = Load Byte true
role_of op.Load16Z = Load Half false
role_of op.Load16S = Load Half true
role_of op.Load = Load Whole false
role_of op.Store8 = Store Byte
role_of op.Store16 = Store Half
role_of op.Store = Store Whole
role_of op.CCall = Call
role_of op.Patchpoint = Patch
role_of op.Check = Check
role_of op.CheckAdd = CheckedResult Sum
role_of op.CheckSub = CheckedResult Difference
role_of op.CheckMul = CheckedResult Product
role_of op.Upsilon = SetPhi
role_of op.Phi = GetPhi
role_of op.Jump = Jump
role_of op.Oops = Fail
role_of op.Branch = Branch
role_of op.Switch = Switch
role_of op.Return = Return
