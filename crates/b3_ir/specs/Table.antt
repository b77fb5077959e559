-- The table of opcodes, one row each: the name; what a value of it carries beside its children; its
-- flag; the types of the children that it computes with; which children may follow; and the type of
-- its result.
use Rattle.std.specs.Prelude.{ℕ, Bool, true, false, List, [], ◌∷◌, codes}
use Rattle.b3_base.specs.declared.word.Width.TheVariants.{W32, W64}
use Rattle.b3_ir.specs.declared.opcode.Ty.TheVariants.{Void, Int32, Int64}
use Rattle.b3_ir.specs.declared.opcode.Opcode.{Opcode}
use Rattle.b3_ir.specs.declared.opcode.Opcode.TheVariants as op
use Rattle.b3_ir.specs.declared.table.Carries.{Carries}
use Rattle.b3_ir.specs.declared.table.Carries.TheVariants.{Nothing, Number, Register, SlotNumber, Offset, PhiId, Site, Exit, OneSuccessor, TwoSuccessors, CaseSuccessors}
use Rattle.b3_ir.specs.declared.table.Flag.{Flag}
use Rattle.b3_ir.specs.declared.table.Flag.TheVariants.{NoFlag, Chill, Traps}
use Rattle.b3_ir.specs.declared.table.Takes.{Takes}
use Rattle.b3_ir.specs.declared.table.Takes.TheVariants.{Alike, Any, This}
use Rattle.b3_ir.specs.declared.table.More.{More}
use Rattle.b3_ir.specs.declared.table.More.TheVariants.{NoMore, One, Arguments, Reported}
use Rattle.b3_ir.specs.declared.table.Gives.{Gives}
use Rattle.b3_ir.specs.declared.table.Gives.TheVariants as gives

pub record Row : Type 0 where
  pub name : List ℕ
  pub carries : Carries
  pub flag : Flag
  pub takes : List Takes
  pub more : More
  pub gives : Gives

abbrev pub row : List ℕ → Carries → Flag → List Takes → More → Gives → Row
row name carries flag takes more result = record { name = name; carries = carries; flag = flag; takes = takes; more = more; gives = result }

-- the row of a value that has children of these types alone, and neither carries anything nor has a flag
abbrev pub plain : List ℕ → List Takes → Gives → Row
plain name takes result = row name Nothing NoFlag takes NoMore result

-- a comparison
abbrev pub compares : List ℕ → Row
compares name = plain name (Alike ∷ Alike ∷ []) (gives.This Int32)

-- a value of a type from two of it
abbrev pub combines : List ℕ → Row
combines name = plain name (Alike ∷ Alike ∷ []) gives.Alike

-- a shift or a rotation by an amount of 32 bits
abbrev pub shifts : List ℕ → Row
shifts name = plain name (Alike ∷ This Int32 ∷ []) gives.Alike

-- a load from a pointer, and a store of a value at a pointer
abbrev pub loads : List ℕ → Gives → Row
loads name result = row name Offset Traps (This Int64 ∷ []) NoMore result

abbrev pub stores : List ℕ → Takes → Row
stores name value = row name Offset Traps (value ∷ This Int64 ∷ []) NoMore (gives.This Void)

-- arithmetic with an exit where the signed result doesn't fit
abbrev pub checks : List ℕ → Row
checks name = row name Exit NoFlag (Alike ∷ Alike ∷ []) Reported gives.Alike

abbrev pub row_of : Opcode → Row
row_of op.Nop = plain (codes "Nop") [] (gives.This Void)
row_of op.Identity = plain (codes "Identity") (Alike ∷ []) gives.Alike
row_of op.Const32 = row (codes "Const32") (Number W32) NoFlag [] NoMore (gives.This Int32)
row_of op.Const64 = row (codes "Const64") (Number W64) NoFlag [] NoMore (gives.This Int64)
row_of op.ArgumentReg = row (codes "ArgumentReg") Register NoFlag [] NoMore (gives.This Int64)
row_of op.FramePointer = plain (codes "FramePointer") [] (gives.This Int64)
row_of op.SlotBase = row (codes "SlotBase") SlotNumber NoFlag [] NoMore (gives.This Int64)
row_of op.Add = combines (codes "Add")
row_of op.Sub = combines (codes "Sub")
row_of op.Mul = combines (codes "Mul")
row_of op.BitAnd = combines (codes "BitAnd")
row_of op.BitOr = combines (codes "BitOr")
row_of op.BitXor = combines (codes "BitXor")
row_of op.Neg = plain (codes "Neg") (Alike ∷ []) gives.Alike
row_of op.Div = row (codes "Div") Nothing Chill (Alike ∷ Alike ∷ []) NoMore gives.Alike
row_of op.Mod = row (codes "Mod") Nothing Chill (Alike ∷ Alike ∷ []) NoMore gives.Alike
row_of op.UDiv = combines (codes "UDiv")
row_of op.UMod = combines (codes "UMod")
row_of op.Shl = shifts (codes "Shl")
row_of op.SShr = shifts (codes "SShr")
row_of op.ZShr = shifts (codes "ZShr")
row_of op.RotL = shifts (codes "RotL")
row_of op.RotR = shifts (codes "RotR")
row_of op.Clz = plain (codes "Clz") (Alike ∷ []) gives.Alike
row_of op.SExt8 = plain (codes "SExt8") (This Int32 ∷ []) (gives.This Int32)
row_of op.SExt16 = plain (codes "SExt16") (This Int32 ∷ []) (gives.This Int32)
row_of op.SExt32 = plain (codes "SExt32") (This Int32 ∷ []) (gives.This Int64)
row_of op.ZExt32 = plain (codes "ZExt32") (This Int32 ∷ []) (gives.This Int64)
row_of op.Trunc = plain (codes "Trunc") (This Int64 ∷ []) (gives.This Int32)
row_of op.Equal = compares (codes "Equal")
row_of op.NotEqual = compares (codes "NotEqual")
row_of op.LessThan = compares (codes "LessThan")
row_of op.GreaterThan = compares (codes "GreaterThan")
row_of op.LessEqual = compares (codes "LessEqual")
row_of op.GreaterEqual = compares (codes "GreaterEqual")
row_of op.Above = compares (codes "Above")
row_of op.Below = compares (codes "Below")
row_of op.AboveEqual = compares (codes "AboveEqual")
row_of op.BelowEqual = compares (codes "BelowEqual")
row_of op.Select = plain (codes "Select") (Any ∷ Alike ∷ Alike ∷ []) gives.Alike
row_of op.Load8Z = loads (codes "Load8Z") (gives.This Int32)
row_of op.Load8S = loads (codes "Load8S") (gives.This Int32)
row_of op.Load16Z = loads (codes "Load16Z") (gives.This Int32)
row_of op.Load16S = loads (codes "Load16S") (gives.This Int32)
row_of op.Load = loads (codes "Load") gives.Alike
row_of op.Store8 = stores (codes "Store8") (This Int32)
row_of op.Store16 = stores (codes "Store16") (This Int32)
row_of op.Store = stores (codes "Store") Any
row_of op.CCall = row (codes "CCall") Nothing NoFlag (This Int64 ∷ []) Arguments gives.AnyOrVoid
row_of op.Patchpoint = row (codes "Patchpoint") Site NoFlag [] Reported gives.AnyOrVoid
row_of op.Check = row (codes "Check") Exit NoFlag (Any ∷ []) Reported (gives.This Void)
row_of op.CheckAdd = checks (codes "CheckAdd")
row_of op.CheckSub = checks (codes "CheckSub")
row_of op.CheckMul = checks (codes "CheckMul")
row_of op.Upsilon = row (codes "Upsilon") PhiId NoFlag (Any ∷ []) NoMore (gives.This Void)
row_of op.Phi = plain (codes "Phi") [] gives.Alike
row_of op.Jump = row (codes "Jump") OneSuccessor NoFlag [] NoMore (gives.This Void)
row_of op.Oops = plain (codes "Oops") [] (gives.This Void)
row_of op.Branch = row (codes "Branch") TwoSuccessors NoFlag (Any ∷ []) NoMore (gives.This Void)
row_of op.Switch = row (codes "Switch") CaseSuccessors NoFlag (Any ∷ []) NoMore (gives.This Void)
row_of op.Return = row (codes "Return") Nothing NoFlag [] One (gives.This Void)

-- the opcodes that end a block
abbrev pub is_terminal : Opcode → Bool
is_terminal op.Jump = true
is_terminal op.Oops = true
is_terminal op.Branch = true
is_terminal op.Switch = true
is_terminal op.Return = true
is_terminal _ = false
