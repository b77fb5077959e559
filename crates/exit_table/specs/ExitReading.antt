-- Reading the exit section: its fields in order, and what each is to meet.
use Rattle.std.specs.Prelude.{ℕ, bit_and, ◌+◌, ◌-◌, ◌*◌, ◌%◌, ◌^◌, Bool, true, false, ◌&&◌, ◌||◌, ◌==◌, nat_lt, nat_le, is_none, if◌then◌else◌, List, codes, Option, Some, None, Result, Ok, Err}
use Rattle.std.specs.Int.{w32, from_le_bytes}
use Rattle.b3_base.specs.Word.{bits}
use Rattle.b3_base.specs.declared.word.Width.{Width}
use Rattle.b3_base.specs.declared.word.Width.TheVariants.{W32, W64}
use Rattle.b3_ir.specs.declared.value.Reg.{Reg}
use Rattle.stackmap.specs.declared.site.Rep.{Rep}
use Rattle.stackmap.specs.declared.site.Rep.TheVariants.{Register, Slot, Constant}
use Rattle.stackmap.specs.declared.site.SiteKind.{SiteKind}
use Rattle.stackmap.specs.declared.site.SiteKind.TheVariants.{Call, Patchpoint, Exit, Trap}
use Rattle.stackmap.specs.declared.site.Place.{Place}
use Rattle.exit_table.specs.declared.tables.SiteRow.{SiteRow}
use Rattle.exit_table.specs.declared.fault.Cause.{Cause}
use Rattle.exit_table.specs.declared.fault.Cause.TheVariants.{Unlisted, Rule, Order}
use Rattle.exit_table.specs.declared.exit_reader.Form.{Form}
use Rattle.exit_table.specs.declared.exit_reader.Form.TheVariants as form
use Rattle.exit_table.specs.Good.{word_span}
use Rattle.exit_table.specs.Reading.{Reader, ◌>>=◌, give, check, one, two, any, mark_at, is_zero, rows}
use Rattle.exit_table.specs.FrameReading.{is_word_at}
use Rattle.exit_table.specs.Rooms.{Room, room_at}

-- where a site stands: at a whole word, at or after the end of the site before
abbrev pub site_pc : ℕ → ℕ → Result ℕ Cause
site_pc end n = if n % 4 == 0 then check (nat_le end n) Order n else Err Rule

abbrev pub kind_of : ℕ → Result SiteKind Cause
kind_of n = if n == 1 then Ok Call else if n == 2 then Ok Patchpoint else if n == 3 then Ok Exit else if n == 4 then Ok Trap else Err Unlisted

-- how many words a site of a kind may have
abbrev pub may_have : SiteKind → ℕ → Bool
may_have Patchpoint n = nat_le 1 n && nat_le n 64
may_have Call n = n == 1
may_have Exit n = n == 1
may_have Trap n = n == 1

-- a site has so many words, and ends within its procedure
abbrev pub site_size : SiteKind → ℕ → ℕ → ℕ → Result ℕ Cause
site_size kind pc end n = check (may_have kind n && nat_le (pc + 4 * n) end) Rule n

-- how many words a site of a kind may report
abbrev pub may_report : SiteKind → ℕ → Bool
may_report Call n = nat_le n 8
may_report Patchpoint n = true
may_report Exit n = true
may_report Trap n = n == 0

abbrev pub place_count : SiteKind → ℕ → Result ℕ Cause
place_count kind n = check (may_report kind n) Rule n

-- a result by its width and its register
abbrev pub result_of : ℕ → Result (Option (Width × Reg)) Cause
result_of n =
    if n == 0 then Ok None
    else if nat_le 256 n && nat_lt n 512 then Ok (Some (W32, record { 0 = n - 256 }))
    else if nat_le 512 n && nat_lt n 768 then Ok (Some (W64, record { 0 = n - 512 }))
    else Err Unlisted

-- in which register a site of a kind may answer
abbrev pub may_answer : SiteKind → Option (Width × Reg) → Bool
may_answer Call None = true
may_answer Call (Some (width, reg)) = reg.0 == 0
may_answer Patchpoint None = true
may_answer Patchpoint (Some (width, reg)) = nat_le reg.0 30
may_answer Exit answer = is_none answer
may_answer Trap answer = is_none answer

abbrev pub allowed : SiteKind → Result (Option (Width × Reg)) Cause → Result (Option (Width × Reg)) Cause
allowed kind (Ok answer) = check (may_answer kind answer) Rule answer
allowed kind (Err cause) = Err cause

abbrev pub site_result : SiteKind → ℕ → Result (Option (Width × Reg)) Cause
site_result kind n = allowed kind (result_of n)

-- Which registers a site of a kind may change, bit r for x r: a call x0 to x18 and x30, and no
-- others; a patchpoint any but x18 and x29.
abbrev pub may_change : SiteKind → ℕ → Bool
may_change Call n = n == 0x4007FFFF
may_change Patchpoint n = nat_lt n (2 ^ 31) && (bit_and n 0x20040000 == 0)
may_change Exit n = n == 0
may_change Trap n = n == 0

abbrev pub site_clobbers : SiteKind → ℕ → Result ℕ Cause
site_clobbers kind n = check (may_change kind n) Rule n

-- what a place says by its first field
abbrev pub form_of : ℕ → Result Form Cause
form_of n = if n == 1 then Ok form.InRegister else if n == 2 then Ok form.InFrame else if n == 3 then Ok form.Word else Err Unlisted

abbrev pub width_of : ℕ → Result Width Cause
width_of n = if n == 32 then Ok W32 else if n == 64 then Ok W64 else Err Unlisted

abbrev pub rep : Form → ℕ → Rep
rep form.InRegister n = Register (record { 0 = n })
rep form.InFrame n = Slot n
rep form.Word n = Constant n

-- the i-th place of a call is x i, one of x0 to x7
abbrev pub is_argument : ℕ → Rep → Bool
is_argument i (Register reg) = nat_le reg.0 7 && (reg.0 == i)
is_argument i (Slot offset) = false
is_argument i (Constant value) = false

-- x0 to x14 and x19 to x28, bytes of the frame that are not taken, or a constant of its width
abbrev pub is_good_rep : Room → Width → Rep → Bool
is_good_rep room width (Register reg) = nat_le reg.0 14 || (nat_le 19 reg.0 && nat_le reg.0 28)
is_good_rep room width (Slot offset) = is_word_at room.bytes room.clear (word_span width offset)
is_good_rep room width (Constant value) = nat_lt value (2 ^ bits width)

-- where the i-th word may stand that a site of a kind reports
abbrev pub may_stand : SiteKind → Room → ℕ → Width → Rep → Bool
may_stand Call room i width at = is_argument i at
may_stand Patchpoint room i width at = is_good_rep room width at
may_stand Exit room i width at = is_good_rep room width at
may_stand Trap room i width at = is_good_rep room width at

abbrev pub rep_of : SiteKind → Room → ℕ → Width → Form → ℕ → Result Rep Cause
rep_of kind room i width form n = check (may_stand kind room i width (rep form n)) Rule (rep form n)

-- the i-th place of a site: where it stands, its width, and the register, the offset or the word
unfoldable pub place_at : SiteKind → Room → ℕ → Reader Place
place_at kind room i = do
  form ← one form_of
  width ← one width_of
  at ← two (rep_of kind room i width form)
  give (record { width = width; rep = at })

abbrev pub after_place : ℕ → Place → ℕ
after_place i place = i + 1

-- the fields of a site behind its place: its kind, its value's id, its words, how many words it reports, its
-- result, what it may change, a zero, and the reported words
unfoldable pub site_from : ℕ → Room → Reader SiteRow
site_from pc room = do
  kind ← one kind_of
  value ← one any
  size ← one (site_size kind pc room.end)
  count ← one (place_count kind)
  answer ← one (site_result kind)
  clobbers ← one (site_clobbers kind)
  unused ← one is_zero
  reps ← rows (place_at kind room) after_place 0 count
  give (record { pc = pc; site = record { kind = kind; value = value; size = size; reps = reps; result = answer; clobbers = clobbers } })

-- a site behind the end of the one before
unfoldable pub site_at : List Room → ℕ → Reader SiteRow
site_at rooms end = do
  pc ← one (site_pc end)
  site ← site_from pc (room_at rooms pc)
  give site

abbrev pub after_site : ℕ → SiteRow → ℕ
after_site end row = row.pc + 4 * row.site.size

-- the section of the sites of these procedures
unfoldable pub sites_at : List Room → Reader (List SiteRow)
sites_at rooms = do
  mark ← mark_at (from_le_bytes w32 (codes "B3EX"))
  count ← one any
  unused ← one is_zero
  sites ← rows (site_at rooms) after_site 0 count
  give sites
