-- How words of the frame are loaded and stored, and how a procedure is entered and left.
use Rattle.std.specs.Prelude.{ℕ, pos, negsuc, ◌-◌, ◌/◌, ◌%◌, true, false, nat_eq, nat_le, if◌then◌else◌, List, [], ◌∷◌, ◌++◌, map, get_or}
use Rattle.b3_base.specs.declared.word.Width.TheVariants.{W64}
use Rattle.stackmap.specs.declared.site.SavedRow.{SavedRow}
use Rattle.a64_inst.specs.declared.inst.AccessKind.TheVariants.{LdrX, StrX}
use Rattle.a64_inst.specs.declared.inst.BranchKind.TheVariants.{Ret}
use Rattle.a64_inst.specs.declared.inst.Inst.{Inst}
use Rattle.a64_inst.specs.declared.inst.Inst.TheVariants.{Access, AddSubImm, BranchReg, PairSp}
use Rattle.a64_inst.specs.declared.item.Item.{Item}
use Rattle.a64_inst.specs.declared.item.Item.TheVariants.{Plain}
use Rattle.air_ir.specs.declared.frame.Frame.{Frame}

-- instructions as items
abbrev pub plains : List Inst → List Item
plains insts = map Plain insts

-- how far above SP a word stands that is so many bytes below x29
abbrev pub above_sp : Frame → ℕ → ℕ
above_sp f offset = f.bytes - 16 - offset

-- how far below x29 a spill place stands
abbrev pub spill_offset : Frame → ℕ → ℕ
spill_offset f n = get_or f.spills n 0

-- a word so many bytes above SP, a multiple of 8, is loaded into a register; where it is far that takes the address
-- first
unfoldable pub load_at : ℕ → ℕ → List Inst
load_at reg bytes =
    if nat_le bytes 32760 then Access LdrX reg 31 (bytes / 8) ∷ [] else
    AddSubImm W64 false false reg 31 (bytes / 4096) true ∷ Access LdrX reg reg (bytes % 4096 / 8) ∷ []

-- and stored there; where it is far x15 takes the address
unfoldable pub store_at : ℕ → ℕ → List Inst
store_at reg bytes =
    if nat_le bytes 32760 then Access StrX reg 31 (bytes / 8) ∷ [] else
    AddSubImm W64 false false 15 31 (bytes / 4096) true ∷ Access StrX reg 15 (bytes % 4096 / 8) ∷ []

-- SP falls by so many bytes: by the multiple of 4096 in them first
abbrev pub unless_zero : ℕ → List Inst → List Inst
unless_zero n insts = if nat_eq n 0 then [] else insts

unfoldable pub lower_sp : ℕ → List Inst
lower_sp bytes =
    unless_zero (bytes / 4096) (AddSubImm W64 true false 31 31 (bytes / 4096) true ∷ [])
    ++ unless_zero (bytes % 4096) (AddSubImm W64 true false 31 31 (bytes % 4096) false ∷ [])

-- registers are saved, and restored
unfoldable pub saves : Frame → List SavedRow → List Inst
saves f [] = []
saves f (row ∷ rows) = store_at row.reg.0 (above_sp f row.offset) ++ saves f rows

unfoldable pub restores : Frame → List SavedRow → List Inst
restores f [] = []
restores f (row ∷ rows) = load_at row.reg.0 (above_sp f row.offset) ++ restores f rows

-- stp x29, x30, [sp, #-16]!; mov x29, sp; SP falls to the bottom of the frame; registers are saved
unfoldable pub prologue : Frame → List Inst
prologue f =
    PairSp false 29 30 (negsuc 1) ∷ AddSubImm W64 false false 29 31 0 false ∷ lower_sp (f.bytes - 16) ++ saves f f.saved

-- registers are restored; mov sp, x29; ldp x29, x30, [sp], #16; ret
abbrev pub leave : List Inst
leave = AddSubImm W64 false false 31 29 0 false ∷ PairSp true 29 30 (pos 2) ∷ BranchReg Ret 30 ∷ []

unfoldable pub epilogue : Frame → List Inst
epilogue f = restores f f.saved ++ leave
