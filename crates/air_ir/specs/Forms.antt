-- The operands that each op takes.
use Rattle.std.specs.Prelude.{◌≡◌, ◌≢◌, ℕ, ℤ, pos, negsuc, ◌+◌, ◌-◌, ◌*◌, ◌%◌, ◌^◌, ◌<◌, ◌⊎◌, Bool, true, false, ◌&&◌, ◌||◌, nat_eq, nat_lt, nat_le, if◌then◌else◌, List, [], ◌∷◌, ◌++◌, map, drop, Option, Some, None, All, AllPairs, length, ◌≤◌}
use Rattle.b3_base.specs.Arithmetic.{low}
use Rattle.b3_base.specs.BitMask.{bit_mask}
use Rattle.b3_base.specs.Word.{bits}
use Rattle.b3_base.specs.declared.word.Width.{Width}
use Rattle.b3_base.specs.declared.word.Width.TheVariants.{W32, W64}
use Rattle.stackmap.specs.Rules.{IsAllocatable}
use Rattle.stackmap.specs.declared.site.Returns.{Returns}
use Rattle.stackmap.specs.declared.site.Returns.TheVariants as returns
use Rattle.air_ir.specs.Operands.{Target, targets}
use Rattle.air_ir.specs.declared.op.AirOp.{AirOp}
use Rattle.air_ir.specs.declared.op.AirOp.TheVariants as op
use Rattle.air_ir.specs.declared.op.Test.{Test}
use Rattle.air_ir.specs.declared.op.Test.TheVariants.{Compare, NonZero, Bit}
use Rattle.air_ir.specs.declared.operand.Home.{Home}
use Rattle.air_ir.specs.declared.operand.Home.TheVariants.{Reg, Spill}
use Rattle.air_ir.specs.declared.operand.Arg.{Arg}
use Rattle.air_ir.specs.declared.operand.Arg.TheVariants.{At, Imm, Addr, Index, FrameSlot}
use Rattle.air_ir.specs.declared.operand.Role.{Role}
use Rattle.air_ir.specs.declared.operand.Role.TheVariants.{Use, LateUse, EarlyDef, Def, Clobber}
use Rattle.air_ir.specs.declared.operand.Operand.{Operand}

-- ---- immediates

-- which immediates a word may be: none, any, those of ADD and SUB, those of AND, ORR and EOR, and 0
pub data Immediates : Type 0 where
  NoImmediate : Immediates
  AnyWord : Immediates
  OfSum : Immediates
  OfLogic : Immediates
  OnlyZero : Immediates

-- 12 bits, or 12 bits shifted left by 12 (DDI 0487, ADD immediate)
abbrev pub is_short : ℕ → Bool
is_short word = nat_le word 4095 || (nat_eq (word % 4096) 0 && nat_le word (4095 * 4096))

abbrev pub IsImmediate : Immediates → Width → ℕ → Type 0
IsImmediate NoImmediate width word = ⊥
IsImmediate AnyWord width word = Unit {0}
IsImmediate OfSum width word = (is_short word || is_short (2 ^ bits width - word)) ≡ true
IsImmediate OfLogic width word =
    (n : ℕ) × (immr : ℕ) × (imms : ℕ) × (n < 2) × (immr < 64) × (imms < 64) × (bit_mask width n immr imms ≡ Some word)
IsImmediate OnlyZero width word = word ≡ 0

-- a number of bytes that a load or a store of so many bytes adds to its base: their multiple of 12 bits, or
-- -256 to 255 (DDI 0487, LDR immediate and LDUR)
abbrev pub is_offset : ℕ → ℤ → Bool
is_offset bytes (pos n) = nat_le n 255 || (nat_eq (n % bytes) 0 && nat_le n (4095 * bytes))
is_offset bytes (negsuc n) = nat_le n 255

-- ---- operands

-- what stands at the place of an operand: a word of a width that is read, from any home or an immediate; a
-- word of which a bit is tested; the address of an access of a width and so many bytes; a stack slot; or a
-- home that is written with a word of a width
pub data Takes : Type 0 where
  Word : (width : Width) (immediates : Immediates) → Takes
  BitOf : (width : Width) (bit : ℕ) → Takes
  Address : (width : Width) (bytes : ℕ) → Takes
  Slot : Takes
  Result : (width : Width) → Takes

abbrev pub IsWord : Immediates → Width → Arg → Type 0
IsWord immediates width (At home) = Unit {0}
IsWord immediates width (Imm word) = (word < 2 ^ bits width) × IsImmediate immediates width word
IsWord immediates width _ = ⊥

-- an index is shifted by nothing or by 3 bits, in accesses of 8 bytes
abbrev pub IsAddress : ℕ → Arg → Type 0
IsAddress bytes (Addr base offset) = is_offset bytes offset ≡ true
IsAddress bytes (Index base index shift) = (bytes ≡ 8) × ((shift ≡ 0) ⊎ (shift ≡ 3))
IsAddress bytes _ = ⊥

abbrev pub IsSlot : Arg → Type 0
IsSlot (FrameSlot number) = Unit {0}
IsSlot _ = ⊥

abbrev pub IsHome : Arg → Type 0
IsHome (At home) = Unit {0}
IsHome _ = ⊥

-- an operand stands for this
abbrev pub Fits : Takes → Operand → Type 0
Fits (Word width immediates) o = (o.role ≡ Use) × (o.width ≡ width) × IsWord immediates width o.arg
Fits (BitOf width bit) o = (o.role ≡ Use) × (o.width ≡ width) × IsHome o.arg × (bit < bits width)
Fits (Address width bytes) o = (o.role ≡ Use) × (o.width ≡ width) × IsAddress bytes o.arg
Fits Slot o = (o.role ≡ Use) × (o.width ≡ W64) × IsSlot o.arg
Fits (Result width) o = (o.role ≡ Def) × (o.width ≡ width) × IsHome o.arg

-- each operand stands for its own
unfoldable pub AllFit : List Takes → List Operand → Type 0
AllFit [] [] = Unit {0}
AllFit (t ∷ ts) (o ∷ os) = Fits t o × AllFit ts os
AllFit _ _ = ⊥

-- ---- ops with a fixed number of operands

abbrev pub home : Width → Takes
home width = Word width NoImmediate

abbrev pub test_takes : Test → Width → List Takes
test_takes (Compare cond) width = home width ∷ Word width OfSum ∷ []
test_takes NonZero width = home width ∷ []
test_takes (Bit bit) width = BitOf width bit ∷ []

abbrev pub one : Width → List Takes
one width = home width ∷ Result width ∷ []

abbrev pub two : Width → Immediates → List Takes
two width immediates = home width ∷ Word width immediates ∷ Result width ∷ []

-- the amount of a shift is a word of 32 bits
abbrev pub shift : Width → List Takes
shift width = home width ∷ Word W32 AnyWord ∷ Result width ∷ []

abbrev pub load : Width → ℕ → List Takes
load width bytes = Address width bytes ∷ Result width ∷ []

abbrev pub store : Width → ℕ → List Takes
store width bytes = Word width OnlyZero ∷ Address width bytes ∷ []

-- what the operands of an op stand for, at a width, and at another one for what a test selects; none where
-- it has a form of its own, below
abbrev pub takes : AirOp → Width → Width → Option (List Takes)
takes op.Move width other = Some (Word width AnyWord ∷ Result width ∷ [])
takes op.Add width other = Some (two width OfSum)
takes op.Sub width other = Some (two width NoImmediate)
takes op.Neg width other = Some (one width)
takes op.Mul width other = Some (two width NoImmediate)
takes op.MulSub width other = Some (home width ∷ home width ∷ home width ∷ Result width ∷ [])
takes op.Div width other = Some (two width NoImmediate)
takes op.UDiv width other = Some (two width NoImmediate)
takes op.And width other = Some (two width OfLogic)
takes op.Or width other = Some (two width OfLogic)
takes op.Xor width other = Some (two width OfLogic)
takes op.Lsl width other = Some (shift width)
takes op.Lsr width other = Some (shift width)
takes op.Asr width other = Some (shift width)
takes op.Ror width other = Some (shift width)
takes op.Clz width other = Some (one width)
takes op.SExt8 width other = Some (one W32)
takes op.SExt16 width other = Some (one W32)
takes op.SExt32 width other = Some (home W32 ∷ Result W64 ∷ [])
takes op.ZExt32 width other = Some (home W32 ∷ Result W64 ∷ [])
takes op.MulHigh width other = Some (two W64 NoImmediate)
takes op.UMulHigh width other = Some (two W64 NoImmediate)
takes op.Load8Z width other = Some (load W32 1)
takes op.Load8S width other = Some (load W32 1)
takes op.Load16Z width other = Some (load W32 2)
takes op.Load16S width other = Some (load W32 2)
takes op.Load W32 other = Some (load W32 4)
takes op.Load W64 other = Some (load W64 8)
takes op.Store8 width other = Some (store W32 1)
takes op.Store16 width other = Some (store W32 2)
takes op.Store W32 other = Some (store W32 4)
takes op.Store W64 other = Some (store W64 8)
takes (op.SetIf test) width other = Some (test_takes test width ++ Result W32 ∷ [])
takes (op.SelectIf test) width other = Some (test_takes test width ++ home other ∷ home other ∷ Result other ∷ [])
takes (op.BranchIf test) width other = Some (test_takes test width)
takes op.Jump width other = Some []
takes op.Oops width other = Some []
takes op.SlotAddress width other = Some (Slot ∷ Result W64 ∷ [])
takes op.FramePointer width other = Some (Result W64 ∷ [])
takes _ width other = None

-- ---- the others

abbrev pub register : ℕ → Arg
register r = At (Reg (record { 0 = r }))

abbrev pub operand_in : Role → Width → ℕ → Operand
operand_in role width r = record { role = role; width = width; arg = register r }

-- pairs of a source and a destination, each of a width of its own
unfoldable pub ArePairs : List Operand → Type 0
ArePairs [] = Unit {0}
ArePairs (from ∷ to ∷ os) =
    (width : Width) × AllFit (Word width AnyWord ∷ Result width ∷ []) (from ∷ to ∷ []) × ArePairs os
ArePairs _ = ⊥

-- the homes that are written differ
abbrev pub WritesApart : List Operand → Type 0
WritesApart os = AllPairs (λ (a b : Target). a.home ≢ b.home) (targets os)

-- a word that a site reports stands in a home or is an immediate
abbrev pub IsReported : Operand → Type 0
IsReported o = ((o.role ≡ Use) ⊎ (o.role ≡ LateUse)) × IsWord AnyWord o.width o.arg

-- a register that is changed, early or not
abbrev pub IsChanged : Operand → Type 0
IsChanged o = (r : ℕ) × ((o ≡ operand_in EarlyDef W64 r) ⊎ (o ≡ operand_in Clobber W64 r))

-- a result in a register that values may stand in, early or not
abbrev pub IsPlacedResult : Width → Operand → Type 0
IsPlacedResult width o =
    (r : ℕ) × IsAllocatable (record { 0 = r }) × ((o ≡ operand_in EarlyDef width r) ⊎ (o ≡ operand_in Def width r))

abbrev pub OneIs : Bool → (Operand → Type 0) → List Operand → Type 0
OneIs true Is (o ∷ []) = Is o
OneIs false Is [] = Unit {0}
OneIs there Is _ = ⊥

-- the operands at a site, in order: those that are computed with, those that are reported, the registers that
-- are changed, and the result
pub record SiteOperands : Type 0 where
  pub inputs : List Operand
  pub reported : List Operand
  pub changed : List Operand
  pub results : List Operand

abbrev pub listed : SiteOperands → List Operand
listed s = s.inputs ++ s.reported ++ s.changed ++ s.results

-- the parts of a site that computes with this, and has a result where it is typed
pub record AtSite (computed : Width → List Takes) (typed : Bool) (IsResult : Width → Operand → Type 0)
    (s : SiteOperands) : Type 0 where
  pub width : Width
  pub fits : AllFit (computed width) s.inputs
  pub reports : All IsReported s.reported
  pub changes : All IsChanged s.changed
  pub result : OneIs typed (IsResult width) s.results

abbrev pub two_homes : Width → List Takes
two_homes width = home width ∷ home width ∷ []

-- the parts are those of a check or a patchpoint of this op, whose number of inputs and results it settles
abbrev pub SiteFits : AirOp → SiteOperands → Type 0
SiteFits (op.CheckIf test) s = AtSite (test_takes test) false (λ width o. ⊥) s
SiteFits op.CheckAdd s = AtSite two_homes true (λ width. Fits (Result width)) s
SiteFits op.CheckSub s = AtSite two_homes true (λ width. Fits (Result width)) s
SiteFits op.CheckMul s = AtSite two_homes true (λ width. Fits (Result width)) s
SiteFits (op.Patch size typed) s = AtSite (λ width. []) typed IsPlacedResult s
SiteFits _ s = ⊥

abbrev pub HasSite : AirOp → List Operand → Type 0
HasSite op os = (s : SiteOperands) × (os ≡ listed s) × SiteFits op s

-- the registers that a call doesn't keep: x0 to x18 and x30 (AAPCS64, 6.1.1)
unfoldable pub call_clobbers : List ℕ
call_clobbers =
    0 ∷ 1 ∷ 2 ∷ 3 ∷ 4 ∷ 5 ∷ 6 ∷ 7 ∷ 8 ∷ 9 ∷ 10 ∷ 11 ∷ 12 ∷ 13 ∷ 14 ∷ 15 ∷ 16 ∷ 17 ∷ 18 ∷ 30 ∷ []

-- the greatest number of arguments of a call
abbrev pub most_arguments : ℕ
most_arguments = 8

-- argument i of a call stands in x i, and from the ninth on in spill place i - 8 (AAPCS64, 6.8.2)
abbrev pub argument_home : ℕ → Home
argument_home i = if nat_lt i 8 then Reg (record { 0 = i }) else Spill (i - 8)

-- arguments from argument i on, each of a width of its own
abbrev pub arguments_from : ℕ → List Width → List Operand
arguments_from i [] = []
arguments_from i (width ∷ widths) =
    record { role = Use; width = width; arg = At (argument_home i) } ∷ arguments_from (i + 1) widths

-- a call keeps no spill place in which an argument stands: one for each of these, from this number on
abbrev pub spills_changed : ℕ → List Width → List Operand
spills_changed number [] = []
spills_changed number (width ∷ widths) =
    record { role = Clobber; width = W64; arg = At (Spill number) } ∷ spills_changed (number + 1) widths

-- a call: the address of the function, the arguments, the registers and then the spill places that it doesn't
-- keep, and the result in x0
pub record OfCall (typed : Bool) (os : List Operand) : Type 0 where
  pub callee : Operand
  pub widths : List Width
  pub width : Width
  pub few : length widths ≤ most_arguments
  pub parts : os ≡ callee ∷ arguments_from 0 widths ++ map (operand_in Clobber W64) call_clobbers
      ++ spills_changed 0 (drop 8 widths) ++ (if typed then operand_in Def width 0 ∷ [] else [])
  pub fits : Fits (home W64) callee

-- a word is returned in x0
abbrev pub returned : Returns → List Operand
returned returns.Nothing = []
returned returns.W32 = operand_in Use W32 0 ∷ []
returned returns.W64 = operand_in Use W64 0 ∷ []

abbrev pub AreThese : Option (List Takes) → List Operand → Type 0
AreThese (Some ts) os = AllFit ts os
AreThese None os = ⊥

-- two cases of a Switch differ at the width of the word that is switched on
abbrev pub DifferIn : Width → ℕ → ℕ → Type 0
DifferIn width a b = low width a ≢ low width b

-- the operands are those that the op takes, in a procedure that returns this; the cases of a Switch differ
abbrev pub HasOperands : Returns → AirOp → List Operand → Type 0
HasOperands r op.Shuffle os = ArePairs os × WritesApart os
HasOperands r (op.CheckIf test) os = HasSite (op.CheckIf test) os
HasOperands r op.CheckAdd os = HasSite op.CheckAdd os
HasOperands r op.CheckSub os = HasSite op.CheckSub os
HasOperands r op.CheckMul os = HasSite op.CheckMul os
HasOperands r (op.Call typed) os = OfCall typed os
HasOperands r (op.Patch size typed) os = HasSite (op.Patch size typed) os
HasOperands r (op.Switch cases) os =
    (width : Width) × AllFit (home width ∷ []) os × AllPairs (DifferIn width) cases
HasOperands r op.Return os = os ≡ returned r
HasOperands r other os = (width : Width) × (selected : Width) × AreThese (takes other width selected) os
