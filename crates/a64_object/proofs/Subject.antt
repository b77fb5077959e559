-- What the proof at one text is about: the code of a procedure of Air, its text, and where that stands in an object.
use Rattle.std.proofs.Common.{◌≡◌, ℕ, ◌+◌, List, length, sym, ap, ◌∙◌}
use Rattle.b3_base.specs.Observed.{MachineStart}
use Rattle.stackmap.specs.declared.site.Site.{Site}
use Rattle.exit_table.specs.declared.tables.FrameRow.{FrameRow}
use Rattle.exit_table.specs.declared.tables.SiteRow.{SiteRow}
use Rattle.a64_inst.specs.declared.inst.Inst.{Inst}
use Rattle.a64_inst.specs.declared.item.Item.{Item}
use Rattle.air_ir.specs.declared.frame.Frame.{Frame}
use Rattle.air_ir.specs.declared.procedure.AirProc.{AirProc}
use Rattle.air_frame.specs.Frames.{row_of}
use Rattle.elf_obj.specs.declared.object.Object.{Object}
use Rattle.elf_obj.specs.declared.object.Symbol.{Symbol}
use Rattle.a64_layout.specs.Layout.{IsEnough, Set, place}
use Rattle.a64_layout.specs.Machine.{Machine, RunsAsItems, moved_to}
use Rattle.a64_layout.specs.Run as run
use Rattle.a64_layout.specs.Text.{TellsMarks, words_before}
use Rattle.a64_layout.specs.declared.text.Text.{Text}
use Rattle.a64_layout.proofs.Words.{words_length}
use Rattle.a64_run.specs.Agrees.{entry_of}
use Rattle.a64_run.specs.Machine.{Config, Entry, Runs}
use Rattle.a64_run.specs.Placement.{start_of}
use Rattle.a64_emit.specs.Setting.{Setting, address_of, meaning_of}
use Rattle.a64_emit.specs.Emitted.{Log}
use Rattle.a64_object.specs.Made.{site_rows}
use Rattle.a64_object.proofs.Sited.{HasSites}
use Rattle.a64_object.proofs.Stepping.{HasText, state_of}

pub record Subject : Type 0 where
  pub air : AirProc
  pub frame : Frame
  pub code : List Item
  pub sites : List Site
  pub long : Set
  pub text : Text
  pub object : Object
  pub symbol : Symbol
  pub start : MachineStart

abbrev pub frame_row : Subject → FrameRow
frame_row x = row_of x.frame x.air.slots x.air.returns

abbrev pub rows_in : Subject → List SiteRow
rows_in x = site_rows x.text.marks x.sites

abbrev pub setting : Subject → Setting
setting x = record {
  procedure = x.air;
  frame = x.frame;
  code = x.code;
  sites = x.sites;
  first = x.start.code + x.symbol.offset;
  long = x.long;
  start = start_of x.object (frame_row x) x.start;
  entry = x.start;
}

abbrev pub entry : Subject → Entry
entry x = entry_of x.object x.symbol (frame_row x) x.start

-- the text is that of the code, with its sites at its marks
pub record IsText (code : List Item) (sites : List Site) (long : Set) (text : Text) : Type 0 where
  pub has_sites : HasSites code sites
  pub enough : IsEnough code long
  pub words_are : text.words ≡ words_before code long (length code)
  pub tells : TellsMarks code long text.marks
  pub as_many : length text.marks ≡ length sites
  pub runs : RunsAsItems code long text.words text.marks

pub record Stands (x : Subject) : Type 0 where
  pub is_text : IsText x.code x.sites x.long x.text
  pub has_text : HasText (entry x) x.text.words (rows_in x)

-- the machine of the object at an item, with what has been so far
abbrev pub at_item : Subject → Log → ℕ → Machine → Config
at_item x log k c = Runs (state_of log (moved_to (address_of (setting x) k) c))

abbrev pub item_step : Subject → run.Config Machine Inst → run.Config Machine Inst
item_step x a = run.item_step (meaning_of (setting x)) x.code a

pub as_many_words : (x : Subject) → Stands x → place x.code x.long (length x.code) ≡ length x.text.words
as_many_words x stands = sym (ap length stands.is_text.words_are ∙ words_length x.code x.long (length x.code))
