-- What a procedure's code in an object is made by: a procedure of Air with the same blocks, in registers and spill
-- places; its frame; labelled code of it and the sites of its marks; and the shortest text of that.
use Rattle.std.specs.Prelude.{◌≡◌, ℕ, ◌+◌, ◌*◌, ◌≤◌, true, List, [], ◌∷◌, Some, length, map}
use Rattle.b3_ir.specs.Naming.{value_named}
use Rattle.b3_ir.specs.Procedure.{Procedure, total}
use Rattle.b3_ir.specs.declared.opcode.Ty.TheVariants.{Int32, Int64}
use Rattle.b3_ir.specs.declared.procedure.SlotLine.{SlotLine}
use Rattle.b3_ir.specs.declared.value.Value.{Value}
use Rattle.stackmap.specs.declared.site.Returns.TheVariants.{W32, W64}
use Rattle.stackmap.specs.declared.site.Site.{Site}
use Rattle.exit_table.specs.declared.tables.FrameRow.{FrameRow}
use Rattle.exit_table.specs.declared.tables.SiteRow.{SiteRow}
use Rattle.a64_inst.specs.declared.item.Item.{Item}
use Rattle.air_ir.specs.Kinds.{kind_of}
use Rattle.air_ir.specs.Run.{HasBlocksOf}
use Rattle.air_ir.specs.SitesInPlaces.{ObeysInPlaces}
use Rattle.air_ir.specs.Weight.{weight}
use Rattle.air_ir.specs.WellFormed.{HasOneSiteEach, IsWellFormed, StandsAt}
use Rattle.air_ir.specs.declared.assignment.Assignment.{Assignment}
use Rattle.air_ir.specs.declared.frame.Frame.{Frame}
use Rattle.air_ir.specs.declared.procedure.AirInst.{AirInst}
use Rattle.air_ir.specs.declared.procedure.AirProc.{AirProc}
use Rattle.air_graph.specs.Graph.{IsInterferenceOf}
use Rattle.air_graph.specs.declared.interference.Interference.{Interference}
use Rattle.air_colour.specs.Assigned.{IsColouringOf}
use Rattle.air_select.specs.Contract.{AreMadeFor, has_stackmap}
use Rattle.air_select.specs.Selected.{selected}
use Rattle.air_spill.specs.Rewritten.{rewritten}
use Rattle.air_frame.specs.Frames.{IsFrameOf, row_of}
use Rattle.air_frame.specs.Needs.{named_count, spill_count}
use Rattle.a64_layout.specs.Layout.{most_words}
use Rattle.a64_layout.specs.Machine.{IsShortestText}
use Rattle.a64_layout.specs.declared.text.Text.{Text}
use Rattle.a64_run.specs.Agrees.{ReturnsType, child_count}
use Rattle.a64_emit.specs.Built.{IsBuilt}
use Rattle.a64_emit.specs.Emitted.{IsCodeOfAir}

-- each patchpoint and each check is that of the value of a procedure that it names, and obeys its constraints
abbrev pub IsExpressedEach : Procedure → AirProc → Type 0
IsExpressedEach p air = (block place : ℕ) (i : AirInst) → StandsAt air block place i
    → has_stackmap (kind_of i.op) ≡ true → (v : Value) × (value_named p i.value ≡ Some v) × ObeysInPlaces p v i

-- a procedure of Air without temporaries has the blocks of a procedure, returns what that returns, is no greater than
-- that allows, and makes the sites of its values
pub record IsPlacedOf (p : Procedure) (air : AirProc) : Type 0 where
  pub same : HasBlocksOf p air
  pub well : IsWellFormed air
  pub no_tmps : air.tmps ≡ 0
  pub built : IsBuilt air
  pub one_site : HasOneSiteEach air
  pub made_for : AreMadeFor p air
  pub expressed : IsExpressedEach p air
  pub blocks : length air.blocks ≡ length p.blocks + 1
  pub light : weight air ≤ 120 * total p + 32 * child_count p + 256
  pub spills : spill_count air ≤ 65592
  pub named : named_count air ≤ 8 * total p + child_count p + 88
  pub slots : air.slots ≡ map (λ (slot : SlotLine). slot.bytes) p.slots
  pub returns_32 : air.returns ≡ W32 → ReturnsType p Int32
  pub returns_64 : air.returns ≡ W64 → ReturnsType p Int64

-- a procedure of Air is what is selected of a procedure, rewritten by a colouring of its interference graph
pub record IsColouredOf (p : Procedure) (air : AirProc) : Type 0 where
  pub graph : Interference
  pub assignment : Assignment
  pub interference : IsInterferenceOf (selected p) graph
  pub colouring : IsColouringOf graph assignment
  pub is : air ≡ rewritten (selected p) assignment

-- sites at the places of marks, as rows: each in bytes from the first word on
abbrev pub site_rows : List ℕ → List Site → List SiteRow
site_rows [] sites = []
site_rows (mark ∷ marks) [] = []
site_rows (mark ∷ marks) (site ∷ sites) = record { pc = 4 * mark; site = site } ∷ site_rows marks sites

-- words are the shortest text of the code of such a procedure with its frame, which has this row; and these sites stand
-- at these words of it
pub record IsMadeOf (p : Procedure) (words : List ℕ) (row : FrameRow) (rows : List SiteRow) : Type 0 where
  pub air : AirProc
  pub frame : Frame
  pub code : List Item
  pub sites : List Site
  pub text : Text
  pub placed : IsPlacedOf p air
  pub coloured : IsColouredOf p air
  pub is_frame : IsFrameOf air frame
  pub is_code : IsCodeOfAir air frame code sites
  pub is_text : IsShortestText code text
  pub few : length text.words ≤ most_words code
  pub marked : length text.marks ≡ length sites
  pub words_are : words ≡ text.words
  pub row_is : row ≡ row_of frame air.slots air.returns
  pub rows_are : rows ≡ site_rows text.marks sites
