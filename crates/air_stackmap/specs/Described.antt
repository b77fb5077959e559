-- What is asked of a site: of what is known of its reported children, of what it computes with, and of its result.
use Rattle.std.specs.Prelude.{◌≡◌, ℕ, ◌+◌, ◌^◌, ◌<◌, ◌≤◌, true, List, [], Option, Some, None, All, length, slice_get}
use Rattle.b3_base.specs.Word.{bits}
use Rattle.b3_base.specs.declared.word.Width.{Width}
use Rattle.b3_ir.specs.Fits.{reported_count}
use Rattle.b3_ir.specs.Naming.{type_of}
use Rattle.b3_ir.specs.Procedure.{Procedure}
use Rattle.b3_ir.specs.Table.{row_of}
use Rattle.b3_ir.specs.Types.{width_of}
use Rattle.b3_ir.specs.declared.value.Value.{Value}
use Rattle.stackmap.specs.Obeys.{StandsForIt}
use Rattle.stackmap.specs.declared.site.Rep.TheVariants.{Constant}
use Rattle.air_ir.specs.Expressed.{IsTemporary}
use Rattle.air_ir.specs.Forms.{AllFit, Fits, OneIs, Result, test_takes, two_homes}
use Rattle.air_ir.specs.WellFormed.{NamesOwn}
use Rattle.air_ir.specs.declared.op.AirOp.{AirOp}
use Rattle.air_ir.specs.declared.op.AirOp.TheVariants as op
use Rattle.air_ir.specs.declared.operand.Home.{Home}
use Rattle.air_ir.specs.declared.operand.Home.TheVariants.{Tmp}
use Rattle.air_ir.specs.declared.operand.Operand.{Operand}
use Rattle.air_ir.specs.declared.procedure.AirProc.{AirProc}
use Rattle.air_stackmap.specs.declared.child.Child.{Child}
use Rattle.air_stackmap.specs.SiteCode.{patch_results}

-- ---- reported children

-- a word is that of a constant of this id; where there is none, the home is a temporary
abbrev pub Stands : Procedure → ℕ → Option ℕ → Home → Type 0
Stands p id (Some word) home = StandsForIt p id (Constant word)
Stands p id None home = IsTemporary home

-- what is known is true of the value of this id
pub record IsKnown (p : Procedure) (id : ℕ) (c : Child) : Type 0 where
  pub width : c.width ≡ width_of (type_of p id)
  pub stands : Stands p id c.constant c.home

-- a constant is a word of its width
abbrev pub IsSmall : Child → Type 0
IsSmall c = (word : ℕ) → c.constant ≡ Some word → word < 2 ^ bits c.width

-- a child that isn't a constant stands in a temporary of the procedure
abbrev pub NamesTemporary : AirProc → Child → Type 0
NamesTemporary q c = c.constant ≡ None → (n : ℕ) × (c.home ≡ Tmp n) × (n < q.tmps)

-- the reported children of a value, in order, and what is known of them
pub record AreReported (p : Procedure) (v : Value) (cs : List Child) : Type 0 where
  pub count : length cs ≡ reported_count v
  pub known : (k id : ℕ) (c : Child) → slice_get v.children (length (row_of v.kind.opcode).takes + k) ≡ Some id
      → slice_get cs k ≡ Some c → IsKnown p id c
  pub small : All IsSmall cs

-- ---- what is computed

-- two words of a width, and a third one for the result
abbrev pub Sums : List Operand → List Operand → Type 0
Sums inputs results = (width : Width) × AllFit (two_homes width) inputs × OneIs true (Fits (Result width)) results

-- the inputs and the results of an op: those that a check takes, and of a patchpoint no inputs and the result that its
-- value asks for
abbrev pub ComputesWith : Value → AirOp → List Operand → List Operand → Type 0
ComputesWith v (op.CheckIf test) inputs results =
    (width : Width) × AllFit (test_takes test width) inputs × (results ≡ [])
ComputesWith v op.CheckAdd inputs results = Sums inputs results
ComputesWith v op.CheckSub inputs results = Sums inputs results
ComputesWith v op.CheckMul inputs results = Sums inputs results
ComputesWith v (op.Patch size typed) inputs results = (inputs ≡ []) × (results ≡ patch_results v)
ComputesWith v _ inputs results = ⊥

-- a patchpoint has at most 64 words
abbrev pub HasWords : AirOp → Type 0
HasWords (op.Patch size typed) = size ≤ 64
HasWords _ = Unit {0}

-- each operand names what instructions of the procedure may name
abbrev pub NameOwn : AirProc → List Operand → Type 0
NameOwn q os = All (λ (o : Operand). NamesOwn q o.role o.arg) os
