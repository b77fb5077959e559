-- A procedure with its temporaries in the homes that an assignment gives them.
use Rattle.std.specs.Prelude.{ℕ, ◌+◌, Bool, true, false, if◌then◌else◌, List, [], ◌∷◌, map, Option, Some, None}
use Rattle.std.specs.Prelude.{slice_get}
use Rattle.std.specs.List.{flat_map}
use Rattle.b3_ir.specs.declared.value.Reg.{Reg as Register}
use Rattle.air_ir.specs.Kinds.{Kind, Copies, kind_of}
use Rattle.air_ir.specs.Operands.{same_home}
use Rattle.air_ir.specs.Renaming.{rename, rename_inst}
use Rattle.air_ir.specs.declared.assignment.Assignment.{Assignment}
use Rattle.air_ir.specs.declared.op.AirOp.{AirOp}
use Rattle.air_ir.specs.declared.operand.Arg.{Arg}
use Rattle.air_ir.specs.declared.operand.Arg.TheVariants.{At}
use Rattle.air_ir.specs.declared.operand.Home.{Home}
use Rattle.air_ir.specs.declared.operand.Home.TheVariants.{Tmp, Reg, Spill}
use Rattle.air_ir.specs.declared.operand.Operand.{Operand}
use Rattle.air_ir.specs.declared.procedure.AirBlock.{AirBlock}
use Rattle.air_ir.specs.declared.procedure.AirInst.{AirInst}
use Rattle.air_ir.specs.declared.procedure.AirProc.{AirProc}

-- the spill places of temporaries begin here
abbrev pub first_spill : ℕ
first_spill = 56

-- where a temporary stands: in its register, or in a spill place of its own; one that the assignment doesn't have
-- stays
abbrev pub standing : ℕ → Option (Option Register) → Home
standing number (Some (Some reg)) = Reg reg
standing number (Some None) = Spill (first_spill + number)
standing number None = Tmp number

-- the home that takes the place of a home; registers and spill places stay
abbrev pub home_by : Assignment → Home → Home
home_by a (Tmp number) = standing number (slice_get a.homes number)
home_by a (Reg reg) = Reg reg
home_by a (Spill number) = Spill number

-- ---- copies

-- a Move or a Shuffle
abbrev pub copies : Kind → Bool
copies Copies = true
copies _ = false

abbrev pub is_copy : AirOp → Bool
is_copy op = copies (kind_of op)

-- whether two arguments are the same home
abbrev pub is_one : Arg → Arg → Bool
is_one (At a) (At b) = same_home a b
is_one from to = false

-- the operands of a copy by other homes, without the pairs whose two homes have become one
unfoldable pub kept_operands : (Home → Home) → List Operand → List Operand
kept_operands loc (from ∷ to ∷ os) =
    if is_one (rename loc from).arg (rename loc to).arg then kept_operands loc os else
    rename loc from ∷ rename loc to ∷ kept_operands loc os
kept_operands loc (o ∷ []) = []
kept_operands loc [] = []

-- an instruction with other operands, where there are some
abbrev pub with_operands : AirInst → List Operand → List AirInst
with_operands i [] = []
with_operands i (o ∷ os) = record i { operands = o ∷ os } ∷ []

-- ---- the whole

-- an instruction by other homes; a copy that has no pair left is left out
unfoldable pub rewritten_inst : (Home → Home) → AirInst → List AirInst
rewritten_inst loc i =
    if is_copy i.op then with_operands i (kept_operands loc i.operands) else rename_inst loc i ∷ []

unfoldable pub rewritten_block : (Home → Home) → AirBlock → AirBlock
rewritten_block loc b = record { insts = flat_map (rewritten_inst loc) b.insts; targets = b.targets }

-- a procedure by an assignment: it has no temporaries
abbrev pub rewritten : AirProc → Assignment → AirProc
rewritten p a =
    record { blocks = map (rewritten_block (home_by a)) p.blocks; tmps = 0; slots = p.slots; returns = p.returns }
