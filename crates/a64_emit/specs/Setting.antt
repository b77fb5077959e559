-- What a run of emitted code goes by: a procedure of Air and its frame, the code and its sites, where its words stand, a
-- machine start, and the start of the run of Air that agrees with it.
use Rattle.std.specs.Prelude.{◌≡◌, ℕ, ◌+◌, ◌*◌, ◌%◌, ◌^◌, ◌≤◌, false, true, ◌&&◌, not, List, length, map, Option, Some, None, is_some, slice_get}
use Rattle.b3_base.specs.Observed.{MachineStart, Start}
use Rattle.b3_base.specs.Ranged.{IsRangedMachineStart}
use Rattle.stackmap.specs.declared.site.Site.{Site}
use Rattle.exit_table.specs.declared.tables.FrameRow.{FrameRow}
use Rattle.a64_inst.specs.declared.item.Item.{Item}
use Rattle.air_ir.specs.declared.frame.Frame.{Frame}
use Rattle.air_ir.specs.declared.procedure.AirProc.{AirProc}
use Rattle.air_frame.specs.Frames.{row_of}
use Rattle.a64_layout.specs.Layout.{Set, place}
use Rattle.a64_layout.specs.Machine.{Machine, Outside, items_at}
use Rattle.a64_layout.specs.Run.{Meaning, mark_before}
use Rattle.a64_inst.specs.declared.inst.Inst.{Inst}
use Rattle.a64_run.specs.Placement.{argument_words, entry_memory, frame_pointer_of, in_frame, in_slot, slot_address, visible}

-- a procedure, its frame, its code and the sites of its marks, and where its words stand: the first at an address, with
-- these items long
pub record Setting : Type 0 where
  pub procedure : AirProc
  pub frame : Frame
  pub code : List Item
  pub sites : List Site
  pub first : ℕ
  pub long : Set
  pub start : Start
  pub entry : MachineStart

-- the row of the frame in the tables
abbrev pub row : Setting → FrameRow
row z = row_of z.frame z.procedure.slots z.procedure.returns

-- the address of the word at which an item begins
abbrev pub address_of : Setting → ℕ → ℕ
address_of z k = z.first + 4 * place z.code z.long k

-- where the outside acts a run of items stops, so there it does nothing
abbrev pub nothing : Outside
nothing mark c = None

-- what the items do there
abbrev pub meaning_of : Setting → Meaning Machine Inst
meaning_of z = items_at z.first nothing z.code z.long

-- the site of a mark, and the site whose mark stands right before an item
abbrev pub site_of : List Site → Option ℕ → Option Site
site_of sites (Some mark) = slice_get sites mark
site_of sites None = None

abbrev pub site_before : Setting → ℕ → Option Site
site_before z k = site_of z.sites (mark_before z.code k)

-- the words have addresses; SP is aligned, and the frame has room below it and shares no byte with the mapped ones; and
-- the start of the run of Air is the one that agrees
pub record IsSet (z : Setting) : Type 0 where
  pub ends : z.first + 4 * place z.code z.long (length z.code) ≤ 2 ^ 64
  pub ranged : IsRangedMachineStart z.entry
  pub aligned : z.entry.sp % 16 ≡ 0
  pub room : z.frame.bytes ≤ z.entry.sp
  pub apart : (address : ℕ) → is_some (z.entry.memory address) ≡ true → in_frame (row z) z.entry address ≡ false
  pub arguments : z.start.arguments ≡ argument_words z.entry.registers
  pub frame_pointer : z.start.frame_pointer ≡ frame_pointer_of z.entry
  pub slots : z.start.slots ≡ map (slot_address z.entry) (row z).slots
  pub memory : z.start.memory ≡ visible (row z) z.entry (entry_memory (row z) z.entry)
  pub hidden : z.start.is_hidden
      ≡ (λ address. in_frame (row z) z.entry address && not (in_slot (row z) z.entry address))
