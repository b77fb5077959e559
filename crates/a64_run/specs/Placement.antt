-- When a machine start may begin a procedure of an object, and the one start of the B3 run that
-- agrees with it.
use Rattle.std.specs.Prelude.{◌≡◌, ℕ, ◌+◌, ◌-◌, ◌*◌, ◌%◌, ◌^◌, ◌≤◌, Bool, true, false, ◌&&◌, ◌||◌, not, nat_le, nat_lt, if◌then◌else◌, length, map, Option, Some, None, is_some}
use Rattle.std.specs.List.{list_any}
use Rattle.b3_base.specs.Observed.{Memory, Start, MachineStart}
use Rattle.b3_base.specs.Ranged.{IsRangedMachineStart}
use Rattle.stackmap.specs.declared.site.SlotRow.{SlotRow}
use Rattle.exit_table.specs.declared.tables.FrameRow.{FrameRow}
use Rattle.elf_obj.specs.declared.object.Object.{Object}
use Rattle.elf_obj.specs.declared.object.Symbol.{Symbol}

-- whether an address is one of the n from `first` on
abbrev pub is_within : ℕ → ℕ → ℕ → Bool
is_within first n address = nat_le first address && nat_lt address (first + n)

-- the text of an object, which has 4 bytes a word, from the start's `code` on
abbrev pub in_text : Object → MachineStart → ℕ → Bool
in_text o m address = is_within m.code (4 * length o.text) address

-- the frame, which ends at SP
abbrev pub in_frame : FrameRow → MachineStart → ℕ → Bool
in_frame frame m address = is_within (m.sp - frame.bytes) frame.bytes address

-- x29 of the procedure: the entry SP less 16
abbrev pub frame_pointer_of : MachineStart → ℕ
frame_pointer_of m = m.sp - 16

-- the address of a slot, and whether an address is in one
abbrev pub slot_address : MachineStart → SlotRow → ℕ
slot_address m slot = frame_pointer_of m - slot.offset

abbrev pub in_slot : FrameRow → MachineStart → ℕ → Bool
in_slot frame m address = list_any (λ slot. is_within (slot_address m slot) slot.size address) frame.slots

-- the machine start may begin this procedure, of which this is the symbol and the frame: SP is
-- aligned and has room for the frame below it, the text is aligned and ends by 2^64, the return
-- address is outside the text, and mapped bytes, frame and text share no byte (AAPCS64, 6.4.5.1, for
-- SP)
pub record Places (o : Object) (symbol : Symbol) (frame : FrameRow) (m : MachineStart) : Type 0 where
  pub ranged : IsRangedMachineStart m
  pub aligned : m.sp % 16 ≡ 0
  pub room : frame.bytes ≤ m.sp
  pub code_aligned : m.code % 4 ≡ 0
  pub code_ends : m.code + 4 * length o.text ≤ 2 ^ 64
  pub returns_outside : in_text o m (m.registers 30) ≡ false
  pub frame_apart : (address : ℕ) → in_frame frame m address ≡ true → in_text o m address ≡ false
  pub mapped_apart : (address : ℕ) → is_some (m.memory address) ≡ true → (in_frame frame m address ≡ false) × (in_text o m address ≡ false)

-- the bytes of the frame at entry
abbrev pub stack_byte : MachineStart → ℕ → Option ℕ
stack_byte m address = Some (m.stack address)

-- the user's bytes and the slots' bytes, of which those of the slots are given
abbrev pub visible : FrameRow → MachineStart → Memory → Memory
visible frame m memory address = if is_some (m.memory address) || in_slot frame m address then memory address else None

-- the bytes that data accesses may touch at entry: the mapped ones and the frame's
abbrev pub entry_memory : FrameRow → MachineStart → Memory
entry_memory frame m address = if in_frame frame m address then stack_byte m address else m.memory address

-- the words of x0 to x7, and 0 from there on
abbrev pub argument_words : (ℕ → ℕ) → ℕ → ℕ
argument_words x r = if nat_lt r 8 then x r else 0

-- the one start of the B3 run that agrees
abbrev pub start_of : Object → FrameRow → MachineStart → Start
start_of o frame m = record {
  arguments = argument_words m.registers;
  frame_pointer = frame_pointer_of m;
  slots = map (slot_address m) frame.slots;
  memory = visible frame m (entry_memory frame m);
  is_hidden = λ address. in_frame frame m address && not (in_slot frame m address);
  is_code = in_text o m;
}
