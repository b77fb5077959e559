-- The table of opcodes computed: its names differ, and some of its rows and of the values that fit.
-- No public clause cites this module.
use Rattle.std.proofs.Common.{◌≡◌, ℕ, true, false, Bool, List, [], ◌∷◌, map, refl, arith, rules, ◌^◌}
use Rattle.std.specs.Prelude.{codes, ◌==◌, ◌&&◌, not}
use Rattle.std.specs.List.{list_any}
use Rattle.b3_base.specs.declared.word.Width.TheVariants.{W32}
use Rattle.b3_ir.specs.declared.opcode.Opcode.{Opcode}
use Rattle.b3_ir.specs.declared.opcode.Opcode.TheVariants as op
use Rattle.b3_ir.specs.declared.opcode.Ty.{Ty}
use Rattle.b3_ir.specs.declared.opcode.Ty.TheVariants.{Void, Int32, Int64}
use Rattle.b3_ir.specs.declared.table.Carries.TheVariants as carries
use Rattle.b3_ir.specs.declared.table.Flag.TheVariants as flag
use Rattle.b3_ir.specs.declared.table.Gives.TheVariants as gives
use Rattle.b3_ir.specs.declared.table.More.TheVariants as more
use Rattle.b3_ir.specs.declared.table.Takes.TheVariants as takes
use Rattle.b3_ir.specs.declared.value.Body.{Body}
use Rattle.b3_ir.specs.declared.value.Body.TheVariants.{Map, Targets, Cases}
use Rattle.b3_ir.specs.declared.value.Constraint.TheVariants.{WarmAny, SomeRegister}
use Rattle.b3_ir.specs.declared.value.Stackmap.{Stackmap}
use Rattle.b3_ir.specs.declared.value.Value.{Value}
use Rattle.b3_ir.specs.Fits.{Fits}
use Rattle.b3_ir.specs.Table.{row_of, row}

-- all opcodes, in the order of the table
abbrev opcodes : List Opcode
opcodes =
    op.Nop ∷ op.Identity ∷ op.Const32 ∷ op.Const64 ∷ op.ArgumentReg ∷ op.FramePointer ∷ op.SlotBase ∷ op.Add ∷ op.Sub ∷ op.Mul ∷
    op.BitAnd ∷ op.BitOr ∷ op.BitXor ∷ op.Neg ∷ op.Div ∷ op.Mod ∷ op.UDiv ∷ op.UMod ∷ op.Shl ∷ op.SShr ∷ op.ZShr ∷ op.RotL ∷ op.RotR ∷
    op.Clz ∷ op.SExt8 ∷ op.SExt16 ∷ op.SExt32 ∷ op.ZExt32 ∷ op.Trunc ∷ op.Equal ∷ op.NotEqual ∷ op.LessThan ∷ op.GreaterThan ∷
    op.LessEqual ∷ op.GreaterEqual ∷ op.Above ∷ op.Below ∷ op.AboveEqual ∷ op.BelowEqual ∷ op.Select ∷ op.Load8Z ∷ op.Load8S ∷ op.Load16Z ∷
    op.Load16S ∷ op.Load ∷ op.Store8 ∷ op.Store16 ∷ op.Store ∷ op.CCall ∷ op.Patchpoint ∷ op.Check ∷ op.CheckAdd ∷ op.CheckSub ∷
    op.CheckMul ∷ op.Upsilon ∷ op.Phi ∷ op.Jump ∷ op.Oops ∷ op.Branch ∷ op.Switch ∷ op.Return ∷ []

-- the two texts are equal
abbrev same : List ℕ → List ℕ → Bool
same [] [] = true
same [] (b ∷ bs) = false
same (a ∷ rest) [] = false
same (a ∷ rest) (b ∷ bs) = a == b && same rest bs

-- no text stands twice
abbrev differ : List (List ℕ) → Bool
differ [] = true
differ (name ∷ names) = not (list_any (same name) names) && differ names

names_differ : differ (map (λ o. (row_of o).name) opcodes) ≡ true
names_differ = refl

-- each opcode is one of the list
abbrev is_named : Opcode → Bool
is_named o = list_any (same (row_of o).name) (map (λ o. (row_of o).name) opcodes)

all_listed : (o : Opcode) → is_named o ≡ true
all_listed op.Nop = refl
all_listed op.Identity = refl
all_listed op.Const32 = refl
all_listed op.Const64 = refl
all_listed op.ArgumentReg = refl
all_listed op.FramePointer = refl
all_listed op.SlotBase = refl
all_listed op.Add = refl
all_listed op.Sub = refl
all_listed op.Mul = refl
all_listed op.BitAnd = refl
all_listed op.BitOr = refl
all_listed op.BitXor = refl
all_listed op.Neg = refl
all_listed op.Div = refl
all_listed op.Mod = refl
all_listed op.UDiv = refl
all_listed op.UMod = refl
all_listed op.Shl = refl
all_listed op.SShr = refl
all_listed op.ZShr = refl
all_listed op.RotL = refl
all_listed op.RotR = refl
all_listed op.Clz = refl
all_listed op.SExt8 = refl
all_listed op.SExt16 = refl
all_listed op.SExt32 = refl
all_listed op.ZExt32 = refl
all_listed op.Trunc = refl
all_listed op.Equal = refl
all_listed op.NotEqual = refl
all_listed op.LessThan = refl
all_listed op.GreaterThan = refl
all_listed op.LessEqual = refl
all_listed op.GreaterEqual = refl
all_listed op.Above = refl
all_listed op.Below = refl
all_listed op.AboveEqual = refl
all_listed op.BelowEqual = refl
all_listed op.Select = refl
all_listed op.Load8Z = refl
all_listed op.Load8S = refl
all_listed op.Load16Z = refl
all_listed op.Load16S = refl
all_listed op.Load = refl
all_listed op.Store8 = refl
all_listed op.Store16 = refl
all_listed op.Store = refl
all_listed op.CCall = refl
all_listed op.Patchpoint = refl
all_listed op.Check = refl
all_listed op.CheckAdd = refl
all_listed op.CheckSub = refl
all_listed op.CheckMul = refl
all_listed op.Upsilon = refl
all_listed op.Phi = refl
all_listed op.Jump = refl
all_listed op.Oops = refl
all_listed op.Branch = refl
all_listed op.Switch = refl
all_listed op.Return = refl

-- some rows
const32 : row_of op.Const32 ≡ row (codes "Const32") (carries.Number W32) flag.NoFlag [] more.NoMore (gives.This Int32)
const32 = refl

shl : row_of op.Shl ≡ row (codes "Shl") carries.Nothing flag.NoFlag (takes.Alike ∷ takes.This Int32 ∷ []) more.NoMore gives.Alike
shl = refl

load : row_of op.Load ≡ row (codes "Load") carries.Offset flag.Traps (takes.This Int64 ∷ []) more.NoMore gives.Alike
load = refl

store8 : row_of op.Store8 ≡ row (codes "Store8") carries.Offset flag.Traps (takes.This Int32 ∷ takes.This Int64 ∷ []) more.NoMore (gives.This Void)
store8 = refl

check_mul : row_of op.CheckMul ≡ row (codes "CheckMul") carries.Exit flag.NoFlag (takes.Alike ∷ takes.Alike ∷ []) more.Reported gives.Alike
check_mul = refl

-- a value of these children and this body, without flags
abbrev value : Opcode → Ty → List ℕ → Body → Value
value opcode ty children body = record { id = 9; ty = ty; kind = record { opcode = opcode; chill = false; traps = false }; children = children; body = body; line = 1 }

-- a stackmap with WarmAny for each of two children
abbrev two : Stackmap
two = record { constraints = WarmAny ∷ WarmAny ∷ []; result = SomeRegister; early = 0; late = 0; size = 1 }

-- a Check has a constraint for each child after the first, a CheckAdd for each after the second
check_fits : Fits (value op.Check Void (1 ∷ 2 ∷ 3 ∷ []) (Map two))
check_fits = search rules

check_add_wants_one_less : ¬ (Fits (value op.CheckAdd Int32 (1 ∷ 2 ∷ 3 ∷ []) (Map two)))
check_add_wants_one_less fits = let count = fits.body.sound.count in absurd (omega arith)

-- no register beyond x30 is clobbered
no_x31 : ¬ (Fits (value op.Check Void (1 ∷ 2 ∷ 3 ∷ []) (Map (record two { early = 2 ^ 31 }))))
no_x31 fits = let early = fits.body.sound.early in absurd (omega arith)

-- a Switch has a successor more than cases, also with no case
switch_fits : Fits (value op.Switch Void (1 ∷ []) (Cases [] (4 ∷ [])))
switch_fits = search rules

-- a Jump has no two successors
jump_has_one : ¬ (Fits (value op.Jump Void [] (Targets (1 ∷ 2 ∷ []))))
jump_has_one fits = let count = fits.body in absurd (omega arith)
