-- When a frame serves a procedure.
use Rattle.std.specs.Prelude.{◌≡◌, ℕ, ◌+◌, ◌*◌, ◌/◌, ◌^◌, ◌<◌, ◌≤◌, List, [], ◌∷◌, true, Some, IsSomeAnd, map, length, slice_get, sum_by}
use Rattle.std.specs.List.{filter}
use Rattle.stackmap.specs.declared.site.Returns.{Returns}
use Rattle.stackmap.specs.declared.site.SavedRow.{SavedRow}
use Rattle.stackmap.specs.declared.site.SlotRow.{SlotRow}
use Rattle.stackmap.specs.declared.site.Rep.TheVariants.{Slot}
use Rattle.b3_base.specs.declared.word.Width.TheVariants.{W64}
use Rattle.exit_table.specs.Good.{AreDisjoint, IsGoodFrame, IsGoodRep, word_span}
use Rattle.exit_table.specs.declared.tables.FrameRow.{FrameRow}
use Rattle.air_ir.specs.declared.frame.Frame.{Frame}
use Rattle.air_ir.specs.declared.procedure.AirProc.{AirProc}
use Rattle.air_frame.specs.Needs.{callee_saved, named_count, names, spill_count, writes}

-- the next multiple of 16
abbrev pub rounded : ℕ → ℕ
rounded bytes = (bytes + 15) / 16 * 16

-- the bytes of slots of these sizes, each rounded up to a multiple of 16
abbrev pub slot_bytes : List ℕ → ℕ
slot_bytes sizes = sum_by rounded sizes

-- the slots at these offsets, in order, with these sizes
abbrev pub slot_rows : List ℕ → List ℕ → List SlotRow
slot_rows [] sizes = []
slot_rows (offset ∷ offsets) [] = []
slot_rows (offset ∷ offsets) (size ∷ sizes) = record { offset = offset; size = size } ∷ slot_rows offsets sizes

-- the row of a frame in the tables of an object, where the slots have these sizes
abbrev pub row_of : Frame → List ℕ → Returns → FrameRow
row_of f sizes returns =
    record { bytes = f.bytes; returns = returns; slots = slot_rows f.slots sizes; saved = f.saved }

-- A frame serves a procedure: its row is good, and has a place for each slot; each spill place that is named
-- has one for a word, apart from these and from each other; the registers that are saved are those of x19 to
-- x28 that the procedure writes or clobbers, in order; and the frame is no greater than that takes.
pub record IsFrameOf (p : AirProc) (f : Frame) : Type 0 where
  pub good : IsGoodFrame (row_of f p.slots p.returns)
  pub slots : length f.slots ≡ length p.slots
  pub spills : length f.spills ≡ spill_count p
  pub spilled : (n : ℕ) → names p n ≡ true
      → IsSomeAnd (slice_get f.spills n) (λ offset. IsGoodRep (row_of f p.slots p.returns) W64 (Slot offset))
  pub apart : (m n a b : ℕ) → names p m ≡ true → names p n ≡ true → m < n
      → slice_get f.spills m ≡ Some a → slice_get f.spills n ≡ Some b
      → AreDisjoint (word_span W64 a) (word_span W64 b)
  pub saved : map (λ (s : SavedRow). s.reg.0) f.saved ≡ filter (writes p) callee_saved
  pub size : f.bytes ≤ 48 + slot_bytes p.slots + 8 * named_count p + 8 * length f.saved

-- slots of these sizes, so many spill places and ten saved registers have room in a frame
abbrev pub HaveRoom : List ℕ → ℕ → Type 0
HaveRoom sizes spills = 48 + slot_bytes sizes + 8 * spills + 8 * 10 < 2 ^ 21
