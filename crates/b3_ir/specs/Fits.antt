-- Which values may stand in a procedure: the flags and the body are ones that the line of a value
-- gives its opcode, its type and its number of children. Ids, the numbers of blocks and lines are
-- free, and so are the children and the type: the rules of a valid procedure speak of them.
use Rattle.std.specs.Prelude.{◌≡◌, ℕ, pos, negsuc, ◌+◌, ◌-◌, ◌^◌, ◌<◌, ◌≤◌, ◌≤ℤ◌, Bool, false, All, length}
use Rattle.b3_base.specs.Word.{bits}
use Rattle.b3_ir.specs.declared.opcode.Ty.{Ty}
use Rattle.b3_ir.specs.declared.opcode.Ty.TheVariants.{Void}
use Rattle.b3_ir.specs.declared.table.Carries.{Carries}
use Rattle.b3_ir.specs.declared.table.Carries.TheVariants as carries
use Rattle.b3_ir.specs.declared.table.Flag.{Flag}
use Rattle.b3_ir.specs.declared.table.Flag.TheVariants.{Chill, Traps}
use Rattle.b3_ir.specs.declared.table.More.{More}
use Rattle.b3_ir.specs.declared.table.More.TheVariants.{Reported}
use Rattle.b3_ir.specs.declared.value.Constraint.{Constraint}
use Rattle.b3_ir.specs.declared.value.Constraint.TheVariants.{SomeRegister, Fixed, LateFixed}
use Rattle.b3_ir.specs.declared.value.Stackmap.{Stackmap}
use Rattle.b3_ir.specs.declared.value.Body.{Body}
use Rattle.b3_ir.specs.declared.value.Body.TheVariants.{Plain, Constant, Argument, Slot, Offset, Target, Map, Targets, Cases}
use Rattle.b3_ir.specs.declared.value.Value.{Value}
use Rattle.b3_ir.specs.Table.{row_of}

-- what a body may be
abbrev pub IsPlain : Body → Type 0
IsPlain Plain = Unit {0}
IsPlain _ = ⊥

abbrev pub IsConstantBelow : ℕ → Body → Type 0
IsConstantBelow limit (Constant word) = word < limit
IsConstantBelow limit _ = ⊥

abbrev pub IsArgument : Body → Type 0
IsArgument (Argument reg) = reg.0 ≤ 30
IsArgument _ = ⊥

abbrev pub IsSlot : Body → Type 0
IsSlot (Slot number) = number < 2 ^ 31
IsSlot _ = ⊥

-- an offset of 32 bits, signed
abbrev pub IsOffset : Body → Type 0
IsOffset (Offset bytes) = (negsuc (2 ^ 31 - 1) ≤ℤ bytes) × (bytes ≤ℤ pos (2 ^ 31 - 1))
IsOffset _ = ⊥

abbrev pub IsTarget : Body → Type 0
IsTarget (Target phi) = Unit {0}
IsTarget _ = ⊥

abbrev pub HasTargets : ℕ → Body → Type 0
HasTargets count (Targets blocks) = length blocks ≡ count
HasTargets count _ = ⊥

-- a word for each case, and a successor more than cases
abbrev pub HasCases : Body → Type 0
HasCases (Cases cases targets) = (length targets ≡ length cases + 1) × All (λ word. word < 2 ^ 64) cases
HasCases _ = ⊥

-- a fixed register is one of x0 to x30
abbrev pub IsConstraint : Constraint → Type 0
IsConstraint (Fixed reg) = reg.0 ≤ 30
IsConstraint (LateFixed reg) = reg.0 ≤ 30
IsConstraint _ = Unit {0}

-- a constraint for each of so many reported children, and sets of x0 to x30
pub record IsStackmap (reported : ℕ) (map : Stackmap) : Type 0 where
  pub count : length map.constraints ≡ reported
  pub constraints : All IsConstraint map.constraints
  pub early : map.early < 2 ^ 31
  pub late : map.late < 2 ^ 31

-- a Patchpoint's: its size is a number of 31 bits, and where it has no result nothing is said of one
pub record IsSiteMap (ty : Ty) (reported : ℕ) (map : Stackmap) : Type 0 where
  pub sound : IsStackmap reported map
  pub size : map.size < 2 ^ 31
  pub result : IsConstraint map.result
  pub no_result : ty ≡ Void → map.result ≡ SomeRegister

-- a check's, which says nothing of its size or of its result
pub record IsExitMap (reported : ℕ) (map : Stackmap) : Type 0 where
  pub sound : IsStackmap reported map
  pub size : map.size ≡ 1
  pub result : map.result ≡ SomeRegister

abbrev pub IsSiteBody : Ty → ℕ → Body → Type 0
IsSiteBody ty reported (Map map) = IsSiteMap ty reported map
IsSiteBody ty reported _ = ⊥

abbrev pub IsExitBody : ℕ → Body → Type 0
IsExitBody reported (Map map) = IsExitMap reported map
IsExitBody reported _ = ⊥

-- the bodies of what a row carries, for a type and so many reported children
abbrev pub IsBody : Carries → Ty → ℕ → Body → Type 0
IsBody carries.Nothing ty reported body = IsPlain body
IsBody (carries.Number width) ty reported body = IsConstantBelow (2 ^ bits width) body
IsBody carries.Register ty reported body = IsArgument body
IsBody carries.SlotNumber ty reported body = IsSlot body
IsBody carries.Offset ty reported body = IsOffset body
IsBody carries.PhiId ty reported body = IsTarget body
IsBody carries.Site ty reported body = IsSiteBody ty reported body
IsBody carries.Exit ty reported body = IsExitBody reported body
IsBody carries.OneSuccessor ty reported body = HasTargets 1 body
IsBody carries.TwoSuccessors ty reported body = HasTargets 2 body
IsBody carries.CaseSuccessors ty reported body = HasCases body

-- a flag is set only where the row has it
abbrev pub MayChill : Flag → Bool → Type 0
MayChill Chill chill = Unit {0}
MayChill _ chill = chill ≡ false

abbrev pub MayTrap : Flag → Bool → Type 0
MayTrap Traps traps = Unit {0}
MayTrap _ traps = traps ≡ false

-- how many children are reported, of so many that follow those that are computed with
abbrev pub reported_of : More → ℕ → ℕ
reported_of Reported rest = rest
reported_of _ rest = 0

abbrev pub reported_count : Value → ℕ
reported_count v = reported_of (row_of v.kind.opcode).more (length v.children - length (row_of v.kind.opcode).takes)

pub record Fits (v : Value) : Type 0 where
  pub body : IsBody (row_of v.kind.opcode).carries v.ty (reported_count v) v.body
  pub chill : MayChill (row_of v.kind.opcode).flag v.kind.chill
  pub traps : MayTrap (row_of v.kind.opcode).flag v.kind.traps
