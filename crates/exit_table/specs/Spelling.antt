-- How the frame section and the exit section are spelled.
use Rattle.std.specs.Prelude.{ℕ, ◌+◌, List, [], ◌∷◌, ◌++◌, Option, Some, None, length, codes}
use Rattle.std.specs.List.{flat_map}
use Rattle.b3_base.specs.Word.{bits}
use Rattle.b3_base.specs.declared.word.Width.{Width}
use Rattle.b3_base.specs.declared.word.Width.TheVariants.{W32, W64}
use Rattle.b3_ir.specs.declared.value.Reg.{Reg}
use Rattle.stackmap.specs.declared.site.Rep.{Rep}
use Rattle.stackmap.specs.declared.site.Rep.TheVariants.{Register, Slot, Constant}
use Rattle.stackmap.specs.declared.site.SiteKind.{SiteKind}
use Rattle.stackmap.specs.declared.site.SiteKind.TheVariants.{Call, Patchpoint, Exit, Trap}
use Rattle.stackmap.specs.declared.site.Returns.{Returns}
use Rattle.stackmap.specs.declared.site.Returns.TheVariants as returns
use Rattle.stackmap.specs.declared.site.Place.{Place}
use Rattle.stackmap.specs.declared.site.SlotRow.{SlotRow}
use Rattle.stackmap.specs.declared.site.SavedRow.{SavedRow}
use Rattle.exit_table.specs.declared.tables.FrameRow.{FrameRow}
use Rattle.exit_table.specs.declared.tables.SiteRow.{SiteRow}
use Rattle.exit_table.specs.declared.tables.Tables.{Tables}
use Rattle.b3_base.specs.Fields.{words, xwords}

-- the bits of what is returned, 0 for nothing
abbrev pub returns_number : Returns → ℕ
returns_number returns.Nothing = 0
returns_number returns.W32 = 32
returns_number returns.W64 = 64

-- the number of a kind of site
abbrev pub kind_number : SiteKind → ℕ
kind_number Call = 1
kind_number Patchpoint = 2
kind_number Exit = 3
kind_number Trap = 4

-- the register of a result, above 256 for 32 bits and above 512 for 64; 0 for no result
abbrev pub result_number : Option (Width × Reg) → ℕ
result_number None = 0
result_number (Some (W32, reg)) = 256 + reg.0
result_number (Some (W64, reg)) = 512 + reg.0

-- where a word stands: in a register 1, in a slot 2, nowhere 3
abbrev pub rep_number : Rep → ℕ
rep_number (Register reg) = 1
rep_number (Slot offset) = 2
rep_number (Constant value) = 3

-- the register's number, the slot's distance below x29, or the word
abbrev pub rep_value : Rep → ℕ
rep_value (Register reg) = reg.0
rep_value (Slot offset) = offset
rep_value (Constant value) = value

abbrev pub slot_spelling : SlotRow → List ℕ
slot_spelling slot = words (slot.offset ∷ slot.size ∷ [])

abbrev pub saved_spelling : SavedRow → List ℕ
saved_spelling saved = words (saved.reg.0 ∷ saved.offset ∷ [])

-- a frame: its bytes, how many slots and saved registers it has, what is returned, and these
unfoldable pub frame_spelling : FrameRow → List ℕ
frame_spelling frame =
    words (frame.bytes ∷ length frame.slots ∷ length frame.saved ∷ returns_number frame.returns ∷ [])
    ++ flat_map slot_spelling frame.slots
    ++ flat_map saved_spelling frame.saved

-- the frame section: its mark, version 1, how many frames it has, a zero, and these
unfoldable pub frame_section : Tables → List ℕ
frame_section tables =
    codes "B3FR"
    ++ words (1 ∷ length tables.frames ∷ 0 ∷ [])
    ++ flat_map frame_spelling tables.frames

abbrev pub place_spelling : Place → List ℕ
place_spelling place = words (rep_number place.rep ∷ bits place.width ∷ []) ++ xwords (rep_value place.rep ∷ [])

-- a site: where it stands, its kind, its value's id, its words, how many words it reports, its
-- result, what it may change, a zero, and the reported words
unfoldable pub site_spelling : SiteRow → List ℕ
site_spelling row =
    words
    (row.pc
    ∷ kind_number row.site.kind
    ∷ row.site.value
    ∷ row.site.size
    ∷ length row.site.reps
    ∷ result_number row.site.result
    ∷ row.site.clobbers
    ∷ 0
    ∷ [])
    ++ flat_map place_spelling row.site.reps

-- the exit section: its mark, version 1, how many sites it has, a zero, and these
unfoldable pub exit_section : Tables → List ℕ
exit_section tables =
    codes "B3EX"
    ++ words (1 ∷ length tables.sites ∷ 0 ∷ [])
    ++ flat_map site_spelling tables.sites
