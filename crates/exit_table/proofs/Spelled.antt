-- The bytes of the two sections, and the good tables that they spell.
use mathlib.Core.Path.{fun_ext}
use Rattle.std.proofs.Common.{◌≡◌, ℕ, suc, ◌/◌, ◌%◌, ◌^◌, ◌<◌, ◌≤◌, inl, inr, List, [], ◌∷◌, ◌++◌, length, get_or, sum, Option, Some, None, Result, Ok, Err, refl, sym, ap, subst, ◌∙◌, append_assoc, arith}
use Rattle.std.specs.Prelude.{All, IfOk, IfSome, IsSomeAnd, slice_get}
use Rattle.std.specs.List.{flat_map, AllByRecursion}
use Rattle.std.proofs.lemmas.List.{append-nil}
use Rattle.std.proofs.lemmas.List.Concat.{flat_map-cons}
use Rattle.std.proofs.lemmas.List.Elements.{All-from_recursion, recursion_from_All}
use Rattle.std.proofs.lemmas.Option.{slice_get_within, get_or_from_slice_get}
use Rattle.b3_base.specs.Fields.{words, fields}
use Rattle.b3_base.proofs.FieldLaws.{AreBytes, words-fields, fields-words, fields_small, length-words, words-append, xwords-words}
use Rattle.b3_base.specs.Word.{bits}
use Rattle.b3_base.specs.declared.word.Width.{Width}
use Rattle.b3_base.specs.declared.word.Width.TheVariants.{W32, W64}
use Rattle.b3_base.specs.declared.range.Range.{Range}
use Rattle.b3_ir.specs.declared.value.Reg.{Reg}
use Rattle.stackmap.specs.declared.site.Returns.{Returns}
use Rattle.stackmap.specs.declared.site.Returns.TheVariants as returns
use Rattle.stackmap.specs.declared.site.Rep.{Rep}
use Rattle.stackmap.specs.declared.site.Rep.TheVariants.{Register, Slot, Constant}
use Rattle.stackmap.specs.declared.site.SiteKind.{SiteKind}
use Rattle.stackmap.specs.declared.site.SiteKind.TheVariants.{Call, Patchpoint, Exit, Trap}
use Rattle.stackmap.specs.declared.site.SlotRow.{SlotRow}
use Rattle.stackmap.specs.declared.site.SavedRow.{SavedRow}
use Rattle.stackmap.specs.declared.site.Place.{Place}
use Rattle.stackmap.specs.declared.site.Site.{Site}
use Rattle.exit_table.specs.declared.tables.FrameRow.{FrameRow}
use Rattle.exit_table.specs.declared.tables.SiteRow.{SiteRow}
use Rattle.exit_table.specs.declared.tables.Tables.{Tables}
use Rattle.exit_table.specs.declared.fault.Fault.{Fault}
use Rattle.exit_table.specs.declared.fault.TableFault.{TableFault}
use Rattle.exit_table.specs.Spelling.{returns_number, kind_number, result_number, rep_number, rep_value, slot_spelling, frame_spelling, frame_section, place_spelling, site_spelling, exit_section}
use Rattle.exit_table.specs.Good.{start_of, IsGoodSlot, IsGoodSaved, IsGoodFrame, IsGoodRep, IsGoodKind, StandsIn, IsGoodSite, HasFewPlaces}
use Rattle.exit_table.specs.Reading.{whole}
use Rattle.exit_table.specs.FrameReading.{frames_at}
use Rattle.exit_table.specs.ExitReading.{sites_at}
use Rattle.exit_table.specs.Rooms.{AreExtents, lengths_of, rooms_of}
use Rattle.exit_table.specs.Read.{with_frames, then_sites, read_tables, AreTables, Tells}
use Rattle.exit_table.proofs.Counts.{few_rows, few_of_writable, site_within}
use Rattle.exit_table.proofs.Rows.{AreSmall, small_append, whole_takes, whole_again}
use Rattle.exit_table.proofs.FrameLaws.{slot_fields, saved_fields, frame_fields, frame_section_fields, frames_mark, frames_take, frames_again}
use Rattle.exit_table.proofs.ExitLaws.{place_fields, site_fields, exit_section_fields, exits_mark, sites_take, sites_again}
use Rattle.exit_table.proofs.Clobbers.{clobbers_call, clobbers_patchpoint}
use Rattle.exit_table.proofs.GoodFrames.{frames_good, frames_after}
use Rattle.exit_table.proofs.GoodSites.{sites_good, sites_after}

-- ---- the fields of a section are its spelling

words_each : {A : Type 0} (f : A → List ℕ) (xs : List A) → words (flat_map f xs) ≡ flat_map (λ x. words (f x)) xs
unfolding words
words_each f [] = refl
words_each f (x ∷ xs) =
    ap (λ (t : List ℕ). words t) (flat_map-cons f x xs) ∙ words-append (f x) (flat_map f xs) ∙ ap (λ (t : List ℕ). words (f x) ++ t) (words_each f xs) ∙ sym (flat_map-cons (λ x. words (f x)) x xs)

words_alike : {A : Type 0} (f g : A → List ℕ) → ((x : A) → words (f x) ≡ g x) → (xs : List A) → words (flat_map f xs) ≡ flat_map g xs
words_alike {A} f g same xs = words_each f xs ∙ ap (λ (h : A → List ℕ). flat_map h xs) (fun_ext same)

words_frame : (frame : FrameRow) → words (frame_fields frame) ≡ frame_spelling frame
unfolding frame_spelling
words_frame frame =
    let head : List ℕ = frame.bytes ∷ length frame.slots ∷ length frame.saved ∷ returns_number frame.returns ∷ [] in
    let s : List ℕ = flat_map slot_fields frame.slots in
    let v : List ℕ = flat_map saved_fields frame.saved in
    words-append head (s ++ v)
    ∙ ap (λ (t : List ℕ). words head ++ t) (words-append s v)
    ∙ sym (append_assoc (words head) (words s) (words v))
    ∙ ap (λ (t : List ℕ). (words head ++ t) ++ words v) (words_each slot_fields frame.slots)
    ∙ ap (λ (t : List ℕ). (words head ++ flat_map slot_spelling frame.slots) ++ t) (words_each saved_fields frame.saved)

words_frames : (tables : Tables) → words (frame_section_fields tables.frames) ≡ frame_section tables
unfolding words frame_section
words_frames tables =
    let head : List ℕ = frames_mark ∷ 1 ∷ length tables.frames ∷ 0 ∷ [] in
    words-append head (flat_map frame_fields tables.frames) ∙ ap (λ (t : List ℕ). words head ++ t) (words_alike frame_fields frame_spelling words_frame tables.frames)

words_place : (place : Place) → words (place_fields place) ≡ place_spelling place
words_place place =
    let v : ℕ = rep_value place.rep in
    words-append (rep_number place.rep ∷ bits place.width ∷ []) (v % 2 ^ 32 ∷ v / 2 ^ 32 ∷ []) ∙ ap (λ (t : List ℕ). words (rep_number place.rep ∷ bits place.width ∷ []) ++ t) (sym (xwords-words v))

words_site : (row : SiteRow) → words (site_fields row) ≡ site_spelling row
unfolding site_spelling
words_site row =
    let head : List ℕ = row.pc ∷ kind_number row.site.kind ∷ row.site.value ∷ row.site.size ∷ length row.site.reps ∷ result_number row.site.result ∷ row.site.clobbers ∷ 0 ∷ [] in
    words-append head (flat_map place_fields row.site.reps) ∙ ap (λ (t : List ℕ). words head ++ t) (words_alike place_fields place_spelling words_place row.site.reps)

words_sites : (tables : Tables) → words (exit_section_fields tables.sites) ≡ exit_section tables
unfolding words exit_section
words_sites tables =
    let head : List ℕ = exits_mark ∷ 1 ∷ length tables.sites ∷ 0 ∷ [] in
    words-append head (flat_map site_fields tables.sites) ∙ ap (λ (t : List ℕ). words head ++ t) (words_alike site_fields site_spelling words_site tables.sites)

-- ---- the fields of good tables are numbers of 32 bits

slots_small : (bytes : ℕ) (slots : List SlotRow) → bytes < 2 ^ 21 → AllByRecursion (IsGoodSlot bytes) slots → AreSmall (flat_map slot_fields slots)
slots_small bytes [] lt good = tt
slots_small bytes (slot ∷ slots) lt good = (omega (arith, good.0.begins), (omega (arith, good.0.ends, good.0.begins), slots_small bytes slots lt good.1))

saved_small : (bytes : ℕ) (saved : List SavedRow) → bytes < 2 ^ 21 → AllByRecursion (IsGoodSaved bytes) saved → AreSmall (flat_map saved_fields saved)
saved_small bytes [] lt good = tt
saved_small bytes (row ∷ saved) lt good = (omega (arith, good.0.high), (omega (arith, good.0.place.begins), saved_small bytes saved lt good.1))

returns_small : (r : Returns) → returns_number r < 2 ^ 32
returns_small returns.Nothing = omega arith
returns_small returns.W32 = omega arith
returns_small returns.W64 = omega arith

frame_small : (frame : FrameRow) → IsGoodFrame frame → AreSmall (frame_fields frame)
frame_small frame good =
    let few = few_rows frame good in
    let limit : frame.bytes < 2 ^ 21 = good.limit in
    (omega arith, (few.slots, (few.saved, (returns_small frame.returns, small_append _ _ (slots_small frame.bytes frame.slots good.limit (recursion_from_All _ _ good.slots)) (saved_small frame.bytes frame.saved good.limit (recursion_from_All _ _ good.saved))))))

frames_small : (frames : List FrameRow) → AllByRecursion IsGoodFrame frames → AreSmall (flat_map frame_fields frames)
frames_small [] good = tt
frames_small (frame ∷ frames) good = small_append (frame_fields frame) (flat_map frame_fields frames) (frame_small frame good.0) (frames_small frames good.1)

value_below : (bytes : ℕ) (frame : FrameRow) (width : Width) (at : Rep) → frame.bytes < 2 ^ 21 → IsGoodRep frame width at → rep_value at < 2 ^ 64
value_below bytes frame width (Register reg) limit (inl low) = omega arith
value_below bytes frame width (Register reg) limit (inr high) = omega (arith, high.1)
value_below bytes frame width (Slot offset) limit good = omega (arith, good.0.begins)
value_below bytes frame W32 (Constant value) limit good = omega (arith, good)
value_below bytes frame W64 (Constant value) limit good = good

number_small : (at : Rep) → rep_number at < 2 ^ 32
number_small (Register reg) = omega arith
number_small (Slot offset) = omega arith
number_small (Constant value) = omega arith

width_small : (width : Width) → bits width < 2 ^ 32
width_small W32 = omega arith
width_small W64 = omega arith

places_small : (frame : FrameRow) (places : List Place) → frame.bytes < 2 ^ 21 → AllByRecursion (λ place. IsGoodRep frame place.width place.rep) places → AreSmall (flat_map place_fields places)
places_small frame [] limit good = tt
places_small frame (place ∷ places) limit good =
    let v : ℕ = rep_value place.rep in
    let below : v < 2 ^ 64 = value_below frame.bytes frame place.width place.rep limit good.0 in
    (number_small place.rep, (width_small place.width, (omega arith, (omega arith, places_small frame places limit good.1))))

result_small : (answer : Option (Width × Reg)) → IfSome answer (λ x. x.1.0 ≤ 30) → result_number answer < 2 ^ 32
result_small None h = omega arith
result_small (Some (W32, reg)) h = omega (arith, h)
result_small (Some (W64, reg)) h = omega (arith, h)

in_x0 : (answer : Option (Width × Reg)) → IfSome answer (λ x. x.1.0 ≡ 0) → IfSome answer (λ x. x.1.0 ≤ 30)
in_x0 None h = tt
in_x0 (Some x) h = omega (arith, h)

kind_small : (kind : SiteKind) (site : Site) → IsGoodKind kind site → (site.size < 2 ^ 32) × (result_number site.result < 2 ^ 32) × (site.clobbers < 2 ^ 32)
kind_small Call site good = (omega (arith, good.size), result_small site.result (in_x0 site.result good.answers), let is = clobbers_call site.clobbers good.clobbers in omega (arith, is))
kind_small Patchpoint site good = (omega (arith, good.most), result_small site.result good.answers, let below = (clobbers_patchpoint site.clobbers good.clobbers).0 in omega (arith, below))
kind_small Exit site good = (omega (arith, good.size), let is : result_number site.result ≡ 0 = ap result_number good.answers in omega arith, omega (arith, good.clobbers))
kind_small Trap site good = (omega (arith, good.size), let is : result_number site.result ≡ 0 = ap result_number good.answers in omega arith, omega (arith, good.clobbers))

kind_number_small : (kind : SiteKind) → kind_number kind < 2 ^ 32
kind_number_small Call = omega arith
kind_number_small Patchpoint = omega arith
kind_number_small Exit = omega arith
kind_number_small Trap = omega arith

site_stands : (start size : ℕ) (frame : FrameRow) (row : SiteRow) → row.pc < 2 ^ 26 → IsGoodFrame frame → HasFewPlaces row → StandsIn start size frame row → AreSmall (site_fields row)
site_stands start size frame row pc good few stands =
    let kind = kind_small row.site.kind row.site stands.kind in
    (omega arith, (kind_number_small row.site.kind, (stands.value, (kind.0, (few, (kind.1, (kind.2, (omega arith, places_small frame row.site.reps good.limit (recursion_from_All _ _ stands.places)))))))))

site_of : (sizes : List ℕ) (frames : List FrameRow) (row : SiteRow) (k : ℕ) (size : Option ℕ) (frame : Option FrameRow) → row.pc < 2 ^ 26 → All IsGoodFrame frames → HasFewPlaces row → slice_get frames k ≡ frame
    → IsSomeAnd size (λ size. IsSomeAnd frame (λ frame. StandsIn (start_of sizes k) size frame row)) → AreSmall (site_fields row)
site_of sizes frames row k None frame pc good few is stands = absurd stands
site_of sizes frames row k (Some size) None pc good few is stands = absurd stands
site_of sizes frames row k (Some size) (Some frame) pc good few is stands =
    let at : get_or frames k frame ≡ frame = get_or_from_slice_get frames k frame frame is in
    site_stands (start_of sizes k) size frame row pc (subst IsGoodFrame at (good k frame (slice_get_within frames k frame is))) few stands

sites_small : (sizes : List ℕ) (frames : List FrameRow) (sites : List SiteRow) → sum sizes < 2 ^ 26 → All IsGoodFrame frames → AllByRecursion HasFewPlaces sites → AllByRecursion (IsGoodSite sizes frames) sites → AreSmall (flat_map site_fields sites)
sites_small sizes frames [] total good few each = tt
sites_small sizes frames (row ∷ sites) total good few each =
    let site = each.0 in
    let within = site_within sizes frames row site in
    let pc : row.pc < 2 ^ 26 = omega (arith, within.0, within.1, total) in
    small_append (site_fields row) (flat_map site_fields sites) (site_of sizes frames row site.procedure (slice_get sizes site.procedure) (slice_get frames site.procedure) pc good few.0 refl site.stands) (sites_small sizes frames sites total good few.1 each.1)

-- ---- what is read is spelled so

record AreRead (extents : List Range) (frames exits : List ℕ) (tables : Tables) : Type 0 where
  pub frames_read : whole (frames_at (length extents)) frames ≡ Ok tables.frames
  pub sites_read : whole (sites_at (rooms_of extents tables.frames)) exits ≡ Ok tables.sites

sites_ok : (extents : List Range) (frames exits : List ℕ) (rows : List FrameRow) (read : Result (List SiteRow) Fault) (tables : Tables) → with_frames rows exits read ≡ Ok tables → (rows ≡ tables.frames) × (read ≡ Ok tables.sites)
sites_ok extents frames exits rows (Ok sites) tables e =
    let made : Tables = record { frames = rows; sites = sites } in
    let same : made ≡ tables = cc in
    let ok : List SiteRow → Result (List SiteRow) Fault = λ s. Ok s in
    (ap (λ (t : Tables). t.frames) same, ap (λ (t : Tables). ok t.sites) same)
sites_ok extents frames exits rows (Err fault) tables e = absurd cc

are_read : (extents : List Range) (frames exits : List ℕ) (read : Result (List FrameRow) Fault) (tables : Tables) → whole (frames_at (length extents)) frames ≡ read → then_sites extents frames exits read ≡ Ok tables → AreRead extents frames exits tables
are_read extents frames exits (Ok rows) tables is e =
    let both = sites_ok extents frames exits rows (whole (sites_at (rooms_of extents rows)) exits) tables e in
    let ok : List FrameRow → Result (List FrameRow) Fault = λ f. Ok f in
    record { frames_read = is ∙ ap ok both.0; sites_read = ap (λ (f : List FrameRow). whole (sites_at (rooms_of extents f)) exits) (sym both.0) ∙ both.1 }
are_read extents frames exits (Err fault) tables is e = absurd cc

count_is : (extents : List Range) → length (lengths_of extents) ≡ length extents
count_is [] = refl
count_is (extent ∷ extents) = ap suc (count_is extents)

tables_read : (extents : List Range) (frames exits : List ℕ) (tables : Tables) → AreExtents extents → AreBytes frames → AreBytes exits → AreRead extents frames exits tables → AreTables extents frames exits tables
tables_read extents frames exits tables are frame_bytes exit_bytes read =
    let rooms = rooms_of extents tables.frames in
    let f = whole_takes (frames_at (length extents)) frames tables.frames read.frames_read in
    let e = whole_takes (sites_at rooms) exits tables.sites read.sites_read in
    let rows = frames_take (length extents) (fields frames) (tables.frames, []) (fields_small frames frame_bytes) f.read in
    let sites = sites_take rooms (fields exits) (tables.sites, []) (fields_small exits exit_bytes) e.read in
    let good = sites_good extents tables.frames 0 tables.sites are.joined sites.good in
    record {
      good = record { count = rows.count ∙ sym (count_is extents); frames = frames_good tables.frames rows.good; order = good.order; sites = All-from_recursion _ _ good.each };
      few = All-from_recursion _ _ good.few;
      frames_spelled = sym (words-fields frames frame_bytes f.ends) ∙ ap (λ (t : List ℕ). words t) (rows.spelled ∙ append-nil (frame_section_fields tables.frames)) ∙ words_frames tables;
      exits_spelled = sym (words-fields exits exit_bytes e.ends) ∙ ap (λ (t : List ℕ). words t) (sites.spelled ∙ append-nil (exit_section_fields tables.sites)) ∙ words_sites tables;
    }

pub is_found : (extents : List Range) (frames exits : List ℕ) (told : Result Tables TableFault) → AreExtents extents → AreBytes frames → AreBytes exits → Tells told (read_tables extents frames exits) → IfOk told (AreTables extents frames exits)
unfolding read_tables
is_found extents frames exits (Ok tables) are frame_bytes exit_bytes tells = tables_read extents frames exits tables are frame_bytes exit_bytes (are_read extents frames exits (whole (frames_at (length extents)) frames) tables refl tells)
is_found extents frames exits (Err fault) are frame_bytes exit_bytes tells = tt

-- ---- what is spelled so is read

few_fields : (n : ℕ) (ns : List ℕ) (mark : ℕ) → mark < 2 ^ 32 → n < 2 ^ 32 → AreSmall ns → AreSmall (mark ∷ 1 ∷ n ∷ 0 ∷ ns)
few_fields n ns mark is few small = (is, (omega arith, (few, (omega arith, small))))

whole_words : (ns : List ℕ) → length (words ns) % 4 ≡ 0
whole_words ns = omega (arith, length-words ns)

pub is_only : (extents : List Range) (frames exits : List ℕ) (tables : Tables) → AreExtents extents → AreTables extents frames exits tables → read_tables extents frames exits ≡ Ok tables
unfolding read_tables
is_only extents frames exits tables are spelled =
    let good = spelled.good in
    let rooms = rooms_of extents tables.frames in
    let sizes : List ℕ = lengths_of extents in
    let few = few_of_writable tables (record { sizes = sizes; are_sizes = are.sizes; good = good; few = spelled.few }) in
    let count : length extents ≡ length tables.frames = sym (count_is extents) ∙ sym good.count in
    let frame_text : frames ≡ words (frame_section_fields tables.frames) = spelled.frames_spelled ∙ sym (words_frames tables) in
    let exit_text : exits ≡ words (exit_section_fields tables.sites) = spelled.exits_spelled ∙ sym (words_sites tables) in
    let frame_numbers : AreSmall (frame_section_fields tables.frames) = few_fields (length tables.frames) (flat_map frame_fields tables.frames) frames_mark (omega arith) few.0 (frames_small tables.frames (recursion_from_All _ _ good.frames)) in
    let exit_numbers : AreSmall (exit_section_fields tables.sites) =
    few_fields (length tables.sites) (flat_map site_fields tables.sites) exits_mark (omega arith) few.1 (sites_small sizes tables.frames tables.sites are.sizes.total good.frames (recursion_from_All _ _ spelled.few) (recursion_from_All _ _ good.sites)) in
    let sites_are = sites_after extents tables.frames 0 tables.sites are.joined (record { order = good.order; each = recursion_from_All _ _ good.sites; few = recursion_from_All _ _ spelled.few }) in
    let f : whole (frames_at (length tables.frames)) frames ≡ Ok tables.frames =
    whole_again (frames_at (length tables.frames)) frames tables.frames (record {
      read = ap (λ (t : List ℕ). frames_at (length tables.frames) (fields t)) frame_text ∙ ap (λ (t : List ℕ). frames_at (length tables.frames) t) (fields-words (frame_section_fields tables.frames) frame_numbers) ∙ frames_again tables.frames (frames_after tables.frames good.frames);
      ends = rw frame_text (whole_words (frame_section_fields tables.frames));
    }) in
    let e : whole (sites_at rooms) exits ≡ Ok tables.sites =
    whole_again (sites_at rooms) exits tables.sites (record {
      read = ap (λ (t : List ℕ). sites_at rooms (fields t)) exit_text ∙ ap (λ (t : List ℕ). sites_at rooms t) (fields-words (exit_section_fields tables.sites) exit_numbers) ∙ sites_again rooms tables.sites sites_are;
      ends = rw exit_text (whole_words (exit_section_fields tables.sites));
    }) in
    rw (count, f, e) refl
