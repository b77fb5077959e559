-- Which opcode and which flags the kind of a value names.
use Rattle.std.specs.Prelude.{ℕ, Bool, true, false, ◌==◌, if◌then◌else◌, List, [], ◌∷◌, take, drop, codes, Option, Some, None, option_map, option_and_then, position, bytes_eq}
use Rattle.std.specs.List.{find}
use Rattle.b3_ir.specs.declared.opcode.Kind.{Kind}
use Rattle.b3_ir.specs.declared.opcode.Opcode.{Opcode}
use Rattle.b3_ir.specs.declared.opcode.Opcode.TheVariants as op
use Rattle.b3_ir.specs.declared.opcode.Ty.{Ty}
use Rattle.b3_ir.specs.declared.opcode.Ty.TheVariants.{Void, Int32, Int64}
use Rattle.b3_ir.specs.declared.table.Flag.{Flag}
use Rattle.b3_ir.specs.declared.table.Flag.TheVariants.{NoFlag, Chill, Traps}
use Rattle.b3_ir.specs.Table.{row_of}

abbrev pub opcodes : List Opcode
opcodes =
    op.Nop ∷ op.Identity ∷ op.Const32 ∷ op.Const64 ∷ op.ArgumentReg ∷ op.FramePointer ∷ op.SlotBase ∷ op.Add ∷
    op.Sub ∷ op.Mul ∷ op.BitAnd ∷ op.BitOr ∷ op.BitXor ∷ op.Neg ∷ op.Div ∷ op.Mod ∷ op.UDiv ∷ op.UMod ∷ op.Shl ∷
    op.SShr ∷ op.ZShr ∷ op.RotL ∷ op.RotR ∷ op.Clz ∷ op.SExt8 ∷ op.SExt16 ∷ op.SExt32 ∷ op.ZExt32 ∷ op.Trunc ∷
    op.Equal ∷ op.NotEqual ∷ op.LessThan ∷ op.GreaterThan ∷ op.LessEqual ∷ op.GreaterEqual ∷ op.Above ∷
    op.Below ∷ op.AboveEqual ∷ op.BelowEqual ∷ op.Select ∷ op.Load8Z ∷ op.Load8S ∷ op.Load16Z ∷ op.Load16S ∷
    op.Load ∷ op.Store8 ∷ op.Store16 ∷ op.Store ∷ op.CCall ∷ op.Patchpoint ∷ op.Check ∷ op.CheckAdd ∷
    op.CheckSub ∷ op.CheckMul ∷ op.Upsilon ∷ op.Phi ∷ op.Jump ∷ op.Oops ∷ op.Branch ∷ op.Switch ∷ op.Return ∷ []

-- the opcode of a name
unfoldable pub opcode_named : List ℕ → Option Opcode
opcode_named bytes = find (λ o. bytes_eq (row_of o).name bytes) opcodes

abbrev pub kind : Opcode → Bool → Bool → Kind
kind opcode chill traps = record { opcode = opcode; chill = chill; traps = traps }

-- the flag of the opcode, by what stands behind its name
abbrev pub flag_text : Flag → List ℕ
flag_text NoFlag = []
flag_text Chill = codes "<Chill>"
flag_text Traps = codes "<Traps>"

abbrev pub with_flag : Opcode → Flag → Option Kind
with_flag o NoFlag = None
with_flag o Chill = Some (kind o true false)
with_flag o Traps = Some (kind o false true)

abbrev pub flagged : List ℕ → Opcode → Option Kind
flagged text o = if bytes_eq text (flag_text (row_of o).flag) then with_flag o (row_of o).flag else None

-- an opcode, or one with its flag behind it: `<` is 60
abbrev pub kind_at : List ℕ → Option ℕ → Option Kind
kind_at text None = option_map (λ (o : Opcode). kind o false false) (opcode_named text)
kind_at text (Some at) = option_and_then (flagged (drop at text)) (opcode_named (take at text))

unfoldable pub angle_in : List ℕ → Option ℕ
angle_in text = position (λ b. b == 60) text

unfoldable pub kind_of : List ℕ → Option Kind
kind_of text = kind_at text (angle_in text)

abbrev pub type_text : Ty → List ℕ
type_text Void = codes "Void"
type_text Int32 = codes "Int32"
type_text Int64 = codes "Int64"

unfoldable pub type_of : List ℕ → Option Ty
type_of text =
    if bytes_eq text (codes "Void") then Some Void
    else (if bytes_eq text (codes "Int32") then Some Int32
    else (if bytes_eq text (codes "Int64") then Some Int64 else None))
