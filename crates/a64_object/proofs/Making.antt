-- What the passes of a procedure that is taken may ask, and what is known of its words and its frame.
use Rattle.std.proofs.Common.{◌≡◌, ℕ, ◌+◌, ◌*◌, ◌^◌, ◌<◌, ◌≤◌, not, List, [], ◌∷◌, ◌++◌, Some, length, refl, sym, ap, ◌∙◌, subst, arith, take}
use Rattle.std.specs.Prelude.{All, map, slice_get, sum_by}
use Rattle.std.specs.List.{filter}
use Rattle.std.proofs.lemmas.List.{length-map, length-take}
use Rattle.std.proofs.lemmas.List.Elements.{All-map}
use Rattle.std.proofs.lemmas.List.Filters.{length-filter_both}
use Rattle.std.proofs.lemmas.List.Sums.{sum_by-cons}
use Rattle.std.proofs.lemmas.Option.{slice_get-map, slice_get-get_or, slice_get_within}
use Rattle.std.specs.Option.{option_map}
use Rattle.b3_base.proofs.Lists.{All-from_places}
use Rattle.b3_ir.specs.Procedure.{Kept, Procedure, empty_kept, procedures, total}
use Rattle.b3_ir.specs.declared.procedure.SlotLine.{SlotLine}
use Rattle.b3_rules.specs.Valid.{IsValidProcedure, SlotAt}
use Rattle.b3_rules.specs.declared.rule.Rule.TheVariants as rule
use Rattle.stackmap.specs.declared.site.SavedRow.{SavedRow}
use Rattle.stackmap.specs.declared.site.SlotRow.{SlotRow}
use Rattle.exit_table.specs.declared.tables.FrameRow.{FrameRow}
use Rattle.air_ir.specs.declared.procedure.AirProc.{AirProc}
use Rattle.air_ir.specs.Weight.{weight}
use Rattle.air_frame.specs.Frames.{HaveRoom, rounded, slot_bytes, slot_rows}
use Rattle.air_frame.specs.Needs.{callee_saved, spill_count, writes}
use Rattle.a64_run.specs.Agrees.{child_count}
use Rattle.air_select.specs.Contract.{IsWithinLimits, procedure_at}
use Rattle.a64_object.specs.Made.{IsPlacedOf, IsMadeOf}
use Rattle.a64_object.specs.Taken.{HasFewSlots, bytes_in}
use Rattle.a64_object.proofs.Taken.{IsTaken}
use Rattle.a64_object.proofs.Agreeing.{rows_length, ten_saved}
use Rattle.a64_layout.proofs.Words.{words_length}
use Rattle.air_fold.proofs.Places.{take_item}
use Rattle.exit_table.specs.declared.tables.SiteRow.{SiteRow}

-- ---- a procedure of a module
sizes_of : (p : Procedure) → IsValidProcedure p → All (λ (slot : SlotLine). 1 ≤ slot.bytes) p.slots
sizes_of p valid = All-from_places (λ (slot : SlotLine). 1 ≤ slot.bytes) p.slots
    (λ k slot there. let keeps : (slot.number ≡ k) × (0 < slot.bytes) = valid rule.Slots (SlotAt k slot) there in omega (arith, keeps.1))

-- the procedure at a place of a module
pub procedure_there : (m : List Kept) (at : ℕ) → at < length m → slice_get (procedures m) at ≡ Some (procedure_at m at)
procedure_there m at lt =
    slice_get-map (λ (k : Kept). k.procedure) m at ∙ ap (option_map (λ (k : Kept). k.procedure)) (slice_get-get_or m at (empty_kept [] 0) lt)

-- ---- what the passes ask
pub slots_asked : (p : Procedure) (air : AirProc) → IsValidProcedure p → IsPlacedOf p air → All (λ size. 1 ≤ size) air.slots
slots_asked p air valid placed = subst (All (λ size. 1 ≤ size)) (sym placed.slots) (All-map (λ size. 1 ≤ size) (λ (slot : SlotLine). slot.bytes) p.slots (sizes_of p valid))

-- slots have at most 15 bytes more than what stands in them
rounded_up : (n : ℕ) → rounded n ≤ n + 15
rounded_up n = omega arith

slots_rounded : (slots : List SlotLine) → slot_bytes (map (λ (slot : SlotLine). slot.bytes) slots) ≤ sum_by bytes_in slots + 15 * length slots
slots_rounded [] = omega arith
slots_rounded (slot ∷ slots) =
    omega (
      arith,
      sum_by-cons rounded slot.bytes (map (λ (s : SlotLine). s.bytes) slots),
      sum_by-cons bytes_in slot slots,
      rounded_up slot.bytes,
      slots_rounded slots,
    )

pub room_asked : (p : Procedure) (air : AirProc) → HasFewSlots p → IsPlacedOf p air → HaveRoom air.slots (spill_count air)
room_asked p air few_slots placed =
    let same : slot_bytes air.slots ≡ slot_bytes (map (λ (slot : SlotLine). slot.bytes) p.slots) = ap slot_bytes placed.slots in
    let most = slots_rounded p.slots in
    let count = few_slots.slots in
    let bytes = few_slots.bytes in
    let few = placed.spills in
    omega arith

pub short_asked : (p : Procedure) (air : AirProc) → IsWithinLimits p → IsPlacedOf p air → weight air < 2 ^ 24
short_asked p air limits placed =
    let light = placed.light in
    let values = limits.values in
    let children = limits.children in
    omega arith

-- ---- the rows of slots
abbrev row_at : (offset size : ℕ) → SlotRow
row_at offset size = record { offset = offset; size = size }

rows_append : (offsets sizes : List ℕ) (offset size : ℕ) → length offsets ≡ length sizes
    → slot_rows (offsets ++ offset ∷ []) (sizes ++ size ∷ []) ≡ slot_rows offsets sizes ++ row_at offset size ∷ []
rows_append [] [] offset size same = refl
rows_append [] (y ∷ sizes) offset size same = absurd (omega arith)
rows_append (x ∷ offsets) [] offset size same = absurd (omega arith)
rows_append (x ∷ offsets) (y ∷ sizes) offset size same = ap (λ rows. row_at x y ∷ rows) (rows_append offsets sizes offset size (omega arith))

-- one row more
pub rows_more : (offsets sizes : List ℕ) (k offset size : ℕ) (rows next : List SlotRow) → length offsets ≡ length sizes
    → slice_get offsets k ≡ Some offset → slice_get sizes k ≡ Some size → rows ≡ slot_rows (take k offsets) (take k sizes)
    → next ≡ rows ++ row_at offset size ∷ []
    → next ≡ slot_rows (take (k + 1) offsets) (take (k + 1) sizes)
rows_more offsets sizes k offset size rows next same at its so_far more =
    let few : length (take k offsets) ≡ length (take k sizes) =
    omega (arith, length-take k offsets, length-take k sizes, slice_get_within offsets k offset at, same) in
    more ∙ ap (λ (rs : List SlotRow). rs ++ row_at offset size ∷ []) so_far ∙ sym (rows_append (take k offsets) (take k sizes) offset size few)
    ∙ ap (λ xs. slot_rows xs (take k sizes ++ size ∷ [])) (sym (take_item offsets k offset at))
    ∙ ap (slot_rows (take (k + 1) offsets)) (sym (take_item sizes k size its))

-- ---- what is known of the words
module _ (p : Procedure) (words : List ℕ) (row : FrameRow) (rows : List SiteRow) (made : IsMadeOf p words row rows) where
  pub some_words : 1 ≤ length words
  some_words =
      let behind = made.is_code.behind made.is_text.0 0 made.placed.well.entry in
      let count = ap length made.is_text.3.words ∙ words_length made.code made.is_text.0 (length made.code) in
      let same = ap length made.words_are in
      omega arith

  pub few_words : length words ≤ 120 * total p + 32 * child_count p + 256
  few_words =
      let same = ap length made.words_are in
      let few = made.few in
      let light = made.is_code.light in
      let whole = made.placed.light in
      omega arith

  pub small_row : IsTaken p → 16 + 8 * length row.slots + 8 * length row.saved ≤ 32864
  small_row is =
      let slots : length row.slots ≡ length (slot_rows made.frame.slots made.air.slots) = ap (λ (r : FrameRow). length r.slots) made.row_is in
      let rows = rows_length made.frame.slots made.air.slots made.is_frame.slots in
      let count : length made.air.slots ≡ length p.slots = ap length made.placed.slots ∙ length-map p.slots (λ (slot : SlotLine). slot.bytes) in
      let most_slots = is.slots.slots in
      let saved : length row.saved ≡ length made.frame.saved = ap (λ (r : FrameRow). length r.saved) made.row_is in
      let few = length-map made.frame.saved (λ (s : SavedRow). s.reg.0) in
      let kept : length (map (λ (s : SavedRow). s.reg.0) made.frame.saved) ≡ length (filter (writes made.air) callee_saved) = ap length made.is_frame.saved in
      let most = length-filter_both (writes made.air) (λ r. not (writes made.air r)) (λ r. refl) callee_saved in
      let ten = ten_saved in
      omega arith
