-- What reading the two sections gives: tables, or the first fault.
use Rattle.std.specs.Prelude.{◌≡◌, ℕ, ◌-◌, ◌*◌, ◌/◌, List, length, Result, Ok, Err, All, ⊤}
use Rattle.b3_base.specs.declared.range.Range.{Range}
use Rattle.exit_table.specs.declared.tables.FrameRow.{FrameRow}
use Rattle.exit_table.specs.declared.tables.SiteRow.{SiteRow}
use Rattle.exit_table.specs.declared.tables.Tables.{Tables}
use Rattle.exit_table.specs.declared.fault.Cause.{Cause}
use Rattle.exit_table.specs.declared.fault.Cause.TheVariants.{Mark, Extent, Unlisted, Rule, Order}
use Rattle.exit_table.specs.declared.fault.Fault.{Fault}
use Rattle.exit_table.specs.declared.fault.Fault.TheVariants.{Short, At}
use Rattle.exit_table.specs.declared.fault.TableFault.{TableFault}
use Rattle.exit_table.specs.declared.fault.TableFault.TheVariants.{Frames, Exits, NoMemory}
use Rattle.exit_table.specs.Good.{HasFewPlaces, IsGoodTables}
use Rattle.exit_table.specs.Spelling.{frame_section, exit_section}
use Rattle.exit_table.specs.Reading.{whole}
use Rattle.exit_table.specs.FrameReading.{frames_at}
use Rattle.exit_table.specs.Rooms.{lengths_of, rooms_of}
use Rattle.exit_table.specs.ExitReading.{sites_at}

-- the number of a fault: a mark or a version, the extent of the section, a number that means nothing, another rule
-- of good tables, or the order of rows
abbrev pub cause_number : Cause → ℕ
cause_number Mark = 1
cause_number Extent = 2
cause_number Unlisted = 3
cause_number Rule = 4
cause_number Order = 5

abbrev pub code_of : Fault → ℕ
code_of Short = 2
code_of (At cause left) = cause_number cause

-- the byte of a section of so many bytes at which a fault stands: its end where it ends inside a row, and otherwise
-- the first byte of the field from which so many are left
abbrev pub byte_of : ℕ → Fault → ℕ
byte_of size Short = size
byte_of size (At cause left) = 4 * (size / 4 - left)

abbrev pub with_frames : List FrameRow → List ℕ → Result (List SiteRow) Fault → Result Tables TableFault
with_frames frames exits (Ok sites) = Ok (record { frames = frames; sites = sites })
with_frames frames exits (Err fault) = Err (Exits (code_of fault) (byte_of (length exits) fault))

abbrev pub then_sites : List Range → List ℕ → List ℕ → Result (List FrameRow) Fault → Result Tables TableFault
then_sites extents frames exits (Ok rows) = with_frames rows exits (whole (sites_at (rooms_of extents rows)) exits)
then_sites extents frames exits (Err fault) = Err (Frames (code_of fault) (byte_of (length frames) fault))

-- the frame section is read before the exit section
unfoldable pub read_tables : List Range → List ℕ → List ℕ → Result Tables TableFault
read_tables extents frames exits = then_sites extents frames exits (whole (frames_at (length extents)) frames)

-- these are the sections of good tables of the text that has these procedures
pub record AreTables (extents : List Range) (frames exits : List ℕ) (tables : Tables) : Type 0 where
  pub good : IsGoodTables (lengths_of extents) tables
  pub few : All HasFewPlaces tables.sites
  pub frames_spelled : frames ≡ frame_section tables
  pub exits_spelled : exits ≡ exit_section tables

-- what a call tells is what is read, unless memory ran out
abbrev pub Tells : Result Tables TableFault → Result Tables TableFault → Type 0
Tells (Ok tables) read = read ≡ Ok tables
Tells (Err NoMemory) read = ⊤
Tells (Err (Frames code byte)) read = read ≡ Err (Frames code byte)
Tells (Err (Exits code byte)) read = read ≡ Err (Exits code byte)
