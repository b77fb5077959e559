-- Good tables: what the tables of a text meet, but for the words of the text itself.
use Rattle.std.specs.Prelude.{◌≡◌, ℕ, ◌+◌, ◌*◌, ◌/◌, ◌%◌, ◌^◌, ◌<◌, ◌≤◌, ◌⊎◌, ◌↔◌, List, [], ◌∷◌, ◌++◌, None, length, map, sum, take, slice_get, IfSome, IsSomeAnd, IsBitSet, All, AllPairs}
use Rattle.std.specs.List.Sorted.{IsStrictlyIncreasing}
use Rattle.b3_base.specs.Word.{bits}
use Rattle.b3_base.specs.declared.word.Width.{Width}
use Rattle.stackmap.specs.declared.site.Rep.{Rep}
use Rattle.stackmap.specs.declared.site.Rep.TheVariants.{Register, Slot, Constant}
use Rattle.stackmap.specs.declared.site.SiteKind.{SiteKind}
use Rattle.stackmap.specs.declared.site.SiteKind.TheVariants.{Call, Patchpoint, Exit, Trap}
use Rattle.stackmap.specs.declared.site.Place.{Place}
use Rattle.stackmap.specs.declared.site.SlotRow.{SlotRow}
use Rattle.stackmap.specs.declared.site.SavedRow.{SavedRow}
use Rattle.stackmap.specs.declared.site.Site.{Site}
use Rattle.exit_table.specs.declared.tables.FrameRow.{FrameRow}
use Rattle.exit_table.specs.declared.tables.SiteRow.{SiteRow}
use Rattle.exit_table.specs.declared.tables.Tables.{Tables}

-- The text of procedures with these sizes, in bytes: they follow each other without gaps.

-- the byte at which a procedure begins
abbrev pub start_of : List ℕ → ℕ → ℕ
start_of sizes k = sum (take k sizes)

-- each procedure has at least one word and whole words, and the text is below 2^26 bytes
pub record AreSizes (sizes : List ℕ) : Type 0 where
  pub each : All (λ size. (0 < size) × (size % 4 ≡ 0)) sizes
  pub total : sum sizes < 2 ^ 26

-- Bytes of a frame: `size` of them, the first of them `offset` below x29.
pub record Span : Type 0 where
  pub offset : ℕ
  pub size : ℕ

abbrev pub slot_span : SlotRow → Span
slot_span slot = record { offset = slot.offset; size = slot.size }

-- a saved register has 8 bytes
abbrev pub saved_span : SavedRow → Span
saved_span saved = record { offset = saved.offset; size = 8 }

-- a reported word has the bytes of its width
abbrev pub word_span : Width → ℕ → Span
word_span width offset = record { offset = offset; size = bits width / 8 }

-- the slots of a frame and its saved registers
abbrev pub spans_of : FrameRow → List Span
spans_of frame = map slot_span frame.slots ++ map saved_span frame.saved

-- no byte is in both: one ends where the other begins, or below
abbrev pub AreDisjoint : Span → Span → Type 0
AreDisjoint a b = (b.offset + a.size ≤ a.offset) ⊎ (a.offset + b.size ≤ b.offset)

-- where a frame of so many bytes may hold a slot
pub record IsGoodSlot (bytes : ℕ) (slot : SlotRow) : Type 0 where
  pub holds : 1 ≤ slot.size
  pub aligned : slot.offset % 16 ≡ 0
  pub ends : slot.size ≤ slot.offset
  pub begins : slot.offset + 16 ≤ bytes

-- where a frame of so many bytes may hold a word
pub record IsWordOffset (bytes offset : ℕ) : Type 0 where
  pub aligned : offset % 8 ≡ 0
  pub ends : 8 ≤ offset
  pub begins : offset + 16 ≤ bytes

-- x19 to x28 may be saved
pub record IsGoodSaved (bytes : ℕ) (saved : SavedRow) : Type 0 where
  pub low : 19 ≤ saved.reg.0
  pub high : saved.reg.0 ≤ 28
  pub place : IsWordOffset bytes saved.offset

pub record IsGoodFrame (frame : FrameRow) : Type 0 where
  pub aligned : frame.bytes % 16 ≡ 0
  pub least : 16 ≤ frame.bytes
  pub limit : frame.bytes < 2 ^ 21
  pub slots : All (IsGoodSlot frame.bytes) frame.slots
  pub saved : All (IsGoodSaved frame.bytes) frame.saved
  pub rising : IsStrictlyIncreasing (map (λ saved. saved.reg.0) frame.saved)
  pub disjoint : AllPairs AreDisjoint (spans_of frame)

-- a field of 32 bits counts the slots of a frame and its saved registers, as in each good frame
pub record HasFewRows (frame : FrameRow) : Type 0 where
  pub slots : length frame.slots < 2 ^ 32
  pub saved : length frame.saved < 2 ^ 32

-- Where a reported word may stand: in x0 to x14 or x19 to x28, in bytes of the frame that are
-- neither a slot's nor a saved register's, or nowhere, as a constant of its width.
abbrev pub IsGoodRep : FrameRow → Width → Rep → Type 0
IsGoodRep frame width (Register reg) = (reg.0 ≤ 14) ⊎ ((19 ≤ reg.0) × (reg.0 ≤ 28))
IsGoodRep frame width (Slot offset) = IsWordOffset frame.bytes offset × All (AreDisjoint (word_span width offset)) (spans_of frame)
IsGoodRep frame width (Constant value) = value < 2 ^ bits width

-- the places are the registers from x k on, in order
abbrev pub AreRegistersFrom : ℕ → List Place → Type 0
AreRegistersFrom k [] = Unit {0}
AreRegistersFrom k (place ∷ rest) = (place.rep ≡ Register (record { 0 = k })) × AreRegistersFrom (k + 1) rest

-- A call is one word. It reports its arguments in x0 and on, at most 8, answers in x0, and may
-- change what a callee may (AAPCS64, 6.1.1): x0 to x18 and x30.
pub record IsGoodCall (site : Site) : Type 0 where
  pub size : site.size ≡ 1
  pub arguments : AreRegistersFrom 0 site.reps
  pub few : length site.reps ≤ 8
  pub answers : IfSome site.result (λ result. result.1.0 ≡ 0)
  pub clobbers : (r : ℕ) → IsBitSet site.clobbers r ↔ ((r ≤ 18) ⊎ (r ≡ 30))

-- a patchpoint is 1 to 64 words, and may change any register but x18, x29 and SP
pub record IsGoodPatchpoint (site : Site) : Type 0 where
  pub least : 1 ≤ site.size
  pub most : site.size ≤ 64
  pub answers : IfSome site.result (λ result. result.1.0 ≤ 30)
  pub clobbers : (r : ℕ) → IsBitSet site.clobbers r → (r ≤ 17) ⊎ ((19 ≤ r) × (r ≤ 28)) ⊎ (r ≡ 30)

-- an exit is one word, answers nothing and changes nothing
pub record IsGoodExit (site : Site) : Type 0 where
  pub size : site.size ≡ 1
  pub answers : site.result ≡ None
  pub clobbers : site.clobbers ≡ 0

-- a trap is one word, reports nothing, answers nothing and changes nothing
pub record IsGoodTrap (site : Site) : Type 0 where
  pub size : site.size ≡ 1
  pub reports : site.reps ≡ []
  pub answers : site.result ≡ None
  pub clobbers : site.clobbers ≡ 0

abbrev pub IsGoodKind : SiteKind → Site → Type 0
IsGoodKind Call site = IsGoodCall site
IsGoodKind Patchpoint site = IsGoodPatchpoint site
IsGoodKind Exit site = IsGoodExit site
IsGoodKind Trap site = IsGoodTrap site

-- a site of a procedure that begins at a byte of the text, has so many bytes and this frame; the id of
-- its value is a number of 32 bits
pub record StandsIn (start size : ℕ) (frame : FrameRow) (row : SiteRow) : Type 0 where
  pub begins : start ≤ row.pc
  pub ends : row.pc + 4 * row.site.size ≤ start + size
  pub value : row.site.value < 2 ^ 32
  pub kind : IsGoodKind row.site.kind row.site
  pub places : All (λ place. IsGoodRep frame place.width place.rep) row.site.reps

-- a site of one of the procedures
pub record IsGoodSite (sizes : List ℕ) (frames : List FrameRow) (row : SiteRow) : Type 0 where
  pub procedure : ℕ
  pub stands : IsSomeAnd (slice_get sizes procedure) (λ size. IsSomeAnd (slice_get frames procedure) (λ frame. StandsIn (start_of sizes procedure) size frame row))

-- sites begin at whole words, each at or after the end of the one before
abbrev pub AreInOrder : ℕ → List SiteRow → Type 0
AreInOrder end [] = Unit {0}
AreInOrder end (row ∷ rest) = (row.pc % 4 ≡ 0) × (end ≤ row.pc) × AreInOrder (row.pc + 4 * row.site.size) rest

-- the tables of a text of procedures with these sizes
pub record IsGoodTables (sizes : List ℕ) (tables : Tables) : Type 0 where
  pub count : length tables.frames ≡ length sizes
  pub frames : All IsGoodFrame tables.frames
  pub order : AreInOrder 0 tables.sites
  pub sites : All (IsGoodSite sizes tables.frames) tables.sites

-- a field of 32 bits counts the words that a site reports
abbrev pub HasFewPlaces : SiteRow → Type 0
HasFewPlaces row = length row.site.reps < 2 ^ 32

-- the tables of some text
pub record IsWritable (tables : Tables) : Type 0 where
  pub sizes : List ℕ
  pub are_sizes : AreSizes sizes
  pub good : IsGoodTables sizes tables
  pub few : All HasFewPlaces tables.sites
