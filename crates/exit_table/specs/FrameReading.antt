-- Reading the frame section: its fields in order, and what each is to meet.
use Rattle.std.specs.Prelude.{ℕ, ◌+◌, ◌%◌, ◌^◌, Bool, ◌&&◌, ◌||◌, ◌==◌, nat_lt, nat_le, if◌then◌else◌, List, [], codes, map, Result, Ok, Err, ⊤}
use Rattle.std.specs.List.{list_all}
use Rattle.std.specs.Int.{w32, from_le_bytes}
use Rattle.stackmap.specs.declared.site.Returns.{Returns}
use Rattle.stackmap.specs.declared.site.Returns.TheVariants as returns
use Rattle.stackmap.specs.declared.site.SlotRow.{SlotRow}
use Rattle.stackmap.specs.declared.site.SavedRow.{SavedRow}
use Rattle.exit_table.specs.declared.tables.FrameRow.{FrameRow}
use Rattle.exit_table.specs.declared.fault.Cause.{Cause}
use Rattle.exit_table.specs.declared.fault.Cause.TheVariants.{Extent, Unlisted, Rule, Order}
use Rattle.exit_table.specs.declared.frame_reader.Header.{Header}
use Rattle.exit_table.specs.Good.{Span, slot_span, saved_span}
use Rattle.exit_table.specs.Reading.{Reader, ◌>>=◌, give, check, one, any, mark_at, is_zero, rows}

-- no byte is in both spans
abbrev pub are_apart : Span → Span → Bool
are_apart a b = nat_le (b.offset + a.size) a.offset || nat_le (a.offset + b.size) b.offset

-- no byte of a span is taken
unfoldable pub is_clear : List Span → Span → Bool
is_clear taken span = list_all (λ other. are_apart span other) taken

abbrev pub frame_bytes : ℕ → Result ℕ Cause
frame_bytes n = check ((n % 16 == 0) && nat_le 16 n && nat_lt n (2 ^ 21)) Rule n

abbrev pub slot_offset : ℕ → ℕ → Result ℕ Cause
slot_offset bytes n = check ((n % 16 == 0) && nat_le (n + 16) bytes) Rule n

-- a slot has a byte, ends within the frame, and no byte of it is taken
abbrev pub slot_of : (Span → Bool) → ℕ → ℕ → Result SlotRow Cause
slot_of clear offset n = check (nat_le 1 n && nat_le n offset && clear (record { offset = offset; size = n })) Rule (record { offset = offset; size = n })

-- x19 to x28 may be saved, in rising order: the next is `least` or above
abbrev pub saved_number : ℕ → ℕ → Result ℕ Cause
saved_number least n = if nat_le 19 n && nat_le n 28 then check (nat_le least n) Order n else Err Rule

-- bytes of the frame that may hold a word, and that are not taken
abbrev pub is_word_at : ℕ → (Span → Bool) → Span → Bool
is_word_at bytes clear span = (span.offset % 8 == 0) && nat_le 8 span.offset && nat_le (span.offset + 16) bytes && clear span

abbrev pub saved_of : ℕ → (Span → Bool) → ℕ → ℕ → Result SavedRow Cause
saved_of bytes clear number n = check (is_word_at bytes clear (record { offset = n; size = 8 })) Rule (record { reg = record { 0 = number }; offset = n })

-- what is returned, by its bits
abbrev pub returns_of : ℕ → Result Returns Cause
returns_of n = if n == 0 then Ok returns.Nothing else if n == 32 then Ok returns.W32 else if n == 64 then Ok returns.W64 else Err Unlisted

-- a slot: its offset and its size, where the bytes of `clear` are not taken
unfoldable pub slot_at : ℕ → (Span → Bool) → Reader SlotRow
slot_at bytes clear = do
  offset ← one (slot_offset bytes)
  slot ← one (slot_of clear offset)
  give slot

-- a span more is taken
abbrev pub without : (Span → Bool) → Span → Span → Bool
without clear span other = clear other && are_apart other span

abbrev pub after_slot : (Span → Bool) → SlotRow → Span → Bool
after_slot clear slot = without clear (slot_span slot)

-- what is known where a saved register is read: the bytes that are not taken, and the least register
pub record Saving : Type 0 where
  pub clear : Span → Bool
  pub least : ℕ

-- a saved register: its number and its offset
unfoldable pub saved_at : ℕ → Saving → Reader SavedRow
saved_at bytes known = do
  number ← one (saved_number known.least)
  saved ← one (saved_of bytes known.clear number)
  give saved

abbrev pub after_saved : Saving → SavedRow → Saving
after_saved known saved = record { clear = without known.clear (saved_span saved); least = saved.reg.0 + 1 }

-- the first fields of a frame: its bytes, how many slots and saved registers it has, what is returned
unfoldable pub header_at : Reader Header
header_at = do
  bytes ← one frame_bytes
  slots ← one any
  saved ← one any
  returns ← one returns_of
  give (record { bytes = bytes; slots = slots; saved = saved; returns = returns })

-- a frame: its first fields, its slots and its saved registers
unfoldable pub frame_at : Reader FrameRow
frame_at = do
  header ← header_at
  slots ← rows (slot_at header.bytes) after_slot (is_clear []) header.slots
  saved ← rows (saved_at header.bytes) after_saved (record { clear = is_clear (map slot_span slots); least = 0 }) header.saved
  give (record { bytes = header.bytes; returns = header.returns; slots = slots; saved = saved })

-- a frame is read without knowing those before it
abbrev pub each_frame : ⊤ → Reader FrameRow
each_frame known = frame_at

abbrev pub after_frame : ⊤ → FrameRow → ⊤
after_frame known frame = known

-- the number of frames is that of the procedures
abbrev pub is_count : ℕ → ℕ → Result ℕ Cause
is_count procedures n = check (n == procedures) Extent n

-- the section of the frames of so many procedures
unfoldable pub frames_at : ℕ → Reader (List FrameRow)
frames_at procedures = do
  mark ← mark_at (from_le_bytes w32 (codes "B3FR"))
  count ← one (is_count procedures)
  unused ← one is_zero
  frames ← rows each_frame after_frame tt procedures
  give frames
