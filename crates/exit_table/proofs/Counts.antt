-- The counts of good tables fit a field of 32 bits.
use Rattle.std.proofs.Common.{◌≡◌, ℕ, ◌+◌, ◌*◌, ◌%◌, ◌^◌, ◌<◌, ◌≤◌, inl, inr, true, false, List, [], ◌∷◌, ◌++◌, Option, Some, None, length, get_or, map, sum, refl, arith, eqb, length-append}
use Rattle.std.specs.Prelude.{All, AllPairs, IsSomeAnd, slice_get}
use Rattle.std.specs.List.{AllByRecursion, list_any, IsDistinct}
use Rattle.std.proofs.lemmas.Grind.{common_steps}
use Rattle.std.proofs.lemmas.Map.Steps.{length-le_from_distinct_below}
use Rattle.std.proofs.lemmas.Map.Keys.{IsDistinct-from_apart}
use Rattle.std.proofs.lemmas.List.{length-map, get_or-map}
use Rattle.std.proofs.lemmas.List.Elements.{recursion_from_All, All-from_recursion}
use Rattle.std.proofs.lemmas.List.Sums.{sum_by-cons, sum_by_more_le}
use Rattle.std.proofs.lemmas.Option.{slice_get_within, get_or_from_slice_get}
use Rattle.stackmap.specs.declared.site.SlotRow.{SlotRow}
use Rattle.stackmap.specs.declared.site.SavedRow.{SavedRow}
use Rattle.stackmap.specs.declared.site.Site.{Site}
use Rattle.stackmap.specs.declared.site.SiteKind.{SiteKind}
use Rattle.stackmap.specs.declared.site.SiteKind.TheVariants.{Call, Patchpoint, Exit, Trap}
use Rattle.exit_table.specs.declared.tables.FrameRow.{FrameRow}
use Rattle.exit_table.specs.declared.tables.SiteRow.{SiteRow}
use Rattle.exit_table.specs.declared.tables.Tables.{Tables}
use Rattle.exit_table.specs.Good.{Span, AreDisjoint, slot_span, saved_span, spans_of, start_of, IsGoodSlot, IsGoodSaved, IsGoodFrame, IsGoodKind, IsGoodSite, StandsIn, IsWritable, HasFewRows, AreInOrder}

-- a span has a byte, and begins below n
abbrev pub IsBelow : ℕ → Span → Type 0
IsBelow n span = (0 < span.size) × (span.offset < n)

offset_below : (n : ℕ) (spans : List Span) (q : ℕ) → AllByRecursion (IsBelow n) spans → list_any (eqb q) (map (λ span. span.offset) spans) ≡ true → q < n
offset_below n [] q all any = cc
offset_below n (span ∷ spans) q all any = grind (arith, common_steps, offset_below n spans q all.1)

apart : (a b : Span) (n : ℕ) → IsBelow n a → IsBelow n b → AreDisjoint a b → eqb a.offset b.offset ≡ false
apart a b n below_a below_b (inl ends) = grind arith
apart a b n below_a below_b (inr ends) = grind arith

-- spans that are disjoint and begin below n are at most n
pub few_spans : (n : ℕ) (spans : List Span) → AllByRecursion (IsBelow n) spans → AllPairs AreDisjoint spans → length spans ≤ n
few_spans n spans below disjoint =
    let offsets : List ℕ = map (λ span. span.offset) spans in
    let each : All (IsBelow n) spans = All-from_recursion _ _ below in
    let nowhere : Span = record { offset = 0; size = 0 } in
    let distinct : IsDistinct eqb offsets = IsDistinct-from_apart eqb offsets (λ i j d before within.
    let later : j < length spans = simp length-map at within in
    let earlier : i < length spans = omega arith in
    rw (get_or-map (λ (span : Span). span.offset) spans i nowhere d earlier, get_or-map (λ (span : Span). span.offset) spans j nowhere d later) (apart _ _ n (each i nowhere earlier) (each j nowhere later) (disjoint i j nowhere before later))) in
    let few : length offsets ≤ n = length-le_from_distinct_below offsets n distinct (λ q any. offset_below n spans q below any) in
    simp length-map at few

below_saved : (bytes n : ℕ) (saved : List SavedRow) → bytes ≤ n → AllByRecursion (IsGoodSaved bytes) saved → AllByRecursion (IsBelow n) (map saved_span saved)
below_saved bytes n [] fits all = tt
below_saved bytes n (row ∷ rest) fits all = ((omega arith, let begins : row.offset + 16 ≤ bytes = all.0.place.begins in omega arith), below_saved bytes n rest fits all.1)

below_spans : (bytes n : ℕ) (slots : List SlotRow) (saved : List SavedRow) → bytes ≤ n → AllByRecursion (IsGoodSlot bytes) slots → AllByRecursion (IsGoodSaved bytes) saved → AllByRecursion (IsBelow n) (map slot_span slots ++ map saved_span saved)
below_spans bytes n [] saved fits good_slots good_saved = below_saved bytes n saved fits good_saved
below_spans bytes n (slot ∷ slots) saved fits good_slots good_saved = (let holds : 1 ≤ slot.size = good_slots.0.holds in let begins : slot.offset + 16 ≤ bytes = good_slots.0.begins in (omega arith, omega arith), below_spans bytes n slots saved fits good_slots.1 good_saved)

-- a good frame has few slots and saved registers
pub few_rows : (frame : FrameRow) → IsGoodFrame frame → HasFewRows frame
few_rows frame good =
    let below : AllByRecursion (IsBelow (2 ^ 21)) (spans_of frame) = below_spans frame.bytes (2 ^ 21) frame.slots frame.saved (let limit : frame.bytes < 2 ^ 21 = good.limit in omega arith) (recursion_from_All _ _ good.slots) (recursion_from_All _ _ good.saved) in
    let few : length (spans_of frame) ≤ 2 ^ 21 = few_spans (2 ^ 21) (spans_of frame) below good.disjoint in
    let both : length frame.slots + length frame.saved ≤ 2 ^ 21 = simp (length-append, length-map) at few in
    record { slots = omega arith; saved = omega arith }

pub few_frames : (frames : List FrameRow) → All IsGoodFrame frames → All HasFewRows frames
few_frames frames good k d within = few_rows _ (good k d within)

-- procedures of at least a word each are at most the words of the text
pub few_sizes : (sizes : List ℕ) → AllByRecursion (λ size. (0 < size) × (size % 4 ≡ 0)) sizes → 4 * length sizes ≤ sum sizes
few_sizes [] all = omega arith
few_sizes (size ∷ sizes) all = rw (sum_by-cons (λ x. x) size sizes) (omega (arith, few_sizes sizes all.1, all.0.0, all.0.1))

-- a procedure ends within the text
end_within : (sizes : List ℕ) (k size : ℕ) → slice_get sizes k ≡ Some size → start_of sizes k + size ≤ sum sizes
end_within sizes k size is =
    let is_there : get_or sizes k 0 ≡ size = get_or_from_slice_get sizes k size 0 is in
    omega (arith, sum_by_more_le (λ x. x) sizes k 0 (slice_get_within sizes k size is))

-- sites in order that end within the text are at most its words
few_sites : (end total : ℕ) (sites : List SiteRow) → AreInOrder end sites → AllByRecursion (λ row. (1 ≤ row.site.size) × (row.pc + 4 * row.site.size ≤ total)) sites → end ≤ total → end + 4 * length sites ≤ total
few_sites end total [] order within ends = omega arith
few_sites end total (row ∷ rest) order within ends = omega (arith, order.1, within.0.0, within.0.1, few_sites (row.pc + 4 * row.site.size) total rest order.2 within.1 within.0.1)

-- a site of a good kind has a word
has_word : (kind : SiteKind) (site : Site) → IsGoodKind kind site → 1 ≤ site.size
has_word Call site good = let size : site.size ≡ 1 = good.size in omega arith
has_word Patchpoint site good = good.least
has_word Exit site good = let size : site.size ≡ 1 = good.size in omega arith
has_word Trap site good = let size : site.size ≡ 1 = good.size in omega arith

site_of : (sizes : List ℕ) (frames : List FrameRow) (row : SiteRow) (k : ℕ) (size : Option ℕ) (frame : Option FrameRow) → slice_get sizes k ≡ size → IsSomeAnd size (λ size. IsSomeAnd frame (λ frame. StandsIn (start_of sizes k) size frame row)) → (1 ≤ row.site.size) × (row.pc + 4 * row.site.size ≤ sum sizes)
site_of sizes frames row k (Some size) (Some frame) is stands =
    let ends : row.pc + 4 * row.site.size ≤ start_of sizes k + size = stands.ends in
    (has_word row.site.kind row.site stands.kind, omega (arith, end_within sizes k size is))
site_of sizes frames row k (Some size) None is stands = absurd stands
site_of sizes frames row k None frame is stands = absurd stands

-- a good site has a word, and ends within the text
pub site_within : (sizes : List ℕ) (frames : List FrameRow) (row : SiteRow) → IsGoodSite sizes frames row → (1 ≤ row.site.size) × (row.pc + 4 * row.site.size ≤ sum sizes)
site_within sizes frames row good = site_of sizes frames row good.procedure (slice_get sizes good.procedure) (slice_get frames good.procedure) refl good.stands

-- the sites of the tables of a text are at most its words
pub few_good_sites : (sizes : List ℕ) (frames : List FrameRow) (sites : List SiteRow) → AreInOrder 0 sites → All (IsGoodSite sizes frames) sites → 4 * length sites ≤ sum sizes
few_good_sites sizes frames sites order good =
    let within : All (λ row. (1 ≤ row.site.size) × (row.pc + 4 * row.site.size ≤ sum sizes)) sites = λ k d before. site_within sizes frames _ (good k d before) in
    omega (arith, few_sites 0 (sum sizes) sites order (recursion_from_All _ _ within) (omega arith))

-- the tables of a text have few frames and few sites
pub few_of_writable : (tables : Tables) → IsWritable tables → (length tables.frames < 2 ^ 32) × (length tables.sites < 2 ^ 32)
few_of_writable tables writable =
    let total : sum writable.sizes < 2 ^ 26 = writable.are_sizes.total in
    let count : length tables.frames ≡ length writable.sizes = writable.good.count in
    let frames : 4 * length writable.sizes ≤ sum writable.sizes = few_sizes writable.sizes (recursion_from_All _ _ writable.are_sizes.each) in
    let sites : 4 * length tables.sites ≤ sum writable.sizes = few_good_sites writable.sizes tables.frames tables.sites writable.good.order writable.good.sites in
    (omega arith, omega arith)
