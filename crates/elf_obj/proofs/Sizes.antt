-- The length of the file of an object.
use Rattle.std.proofs.Common.{◌≡◌, ℕ, ◌+◌, ◌-◌, ◌*◌, ◌<◌, ◌≤◌, List, [], ◌∷◌, ◌++◌, length, sum_by, refl, ap, arith, length-append}
use Rattle.std.specs.Int.{w16, w32, w64, to_le_bytes}
use Rattle.std.specs.List.{AllByRecursion, flat_map}
use Rattle.std.proofs.lemmas.List.{length-replicate}
use Rattle.std.proofs.lemmas.List.Concat.{flat_map-cons}
use Rattle.std.proofs.lemmas.List.Elements.{recursion_from_All}
use Rattle.std.proofs.lemmas.List.Sums.{sum_by-cons}
use Rattle.stackmap.specs.declared.site.Place.{Place}
use Rattle.stackmap.specs.declared.site.SlotRow.{SlotRow}
use Rattle.stackmap.specs.declared.site.SavedRow.{SavedRow}
use Rattle.exit_table.specs.declared.tables.FrameRow.{FrameRow}
use Rattle.exit_table.specs.declared.tables.SiteRow.{SiteRow}
use Rattle.exit_table.specs.declared.tables.Tables.{Tables}
use Rattle.b3_base.specs.Fields.{halves, words, xwords}
use Rattle.b3_base.proofs.FieldLaws.{length-words}
use Rattle.exit_table.specs.Spelling.{slot_spelling, saved_spelling, frame_spelling, frame_section, place_spelling, site_spelling, exit_section}
use Rattle.elf_obj.specs.declared.object.Symbol.{Symbol}
use Rattle.elf_obj.specs.declared.object.Object.{Object}
use Rattle.elf_obj.specs.declared.section.Section.{Section}
use Rattle.elf_obj.specs.Good.{names_of}
use Rattle.elf_obj.specs.Sections.{gap, start_of, contents, section_header, section_headers}
use Rattle.elf_obj.specs.Elf.{string_table, symbol_entry, symbol_entries, symbol_table, section_names, sections_of, file_header, contents_of, contents_end, encode}
use Rattle.elf_obj.specs.Size.{size_bound}
use Rattle.elf_obj.proofs.Bounds.{aligned}

length-halves : (numbers : List ℕ) → length (halves numbers) ≡ 2 * length numbers
unfolding halves
length-halves [] = refl
length-halves (number ∷ rest) =
    let split : length (halves (number ∷ rest)) ≡ length (to_le_bytes w16 number ++ flat_map (to_le_bytes w16) rest) = ap length (flat_map-cons (to_le_bytes w16) number rest) in
    omega (arith, split, length-halves rest)

length-xwords : (numbers : List ℕ) → length (xwords numbers) ≡ 8 * length numbers
unfolding xwords
length-xwords [] = refl
length-xwords (number ∷ rest) =
    let split : length (xwords (number ∷ rest)) ≡ length (to_le_bytes w64 number ++ flat_map (to_le_bytes w64) rest) = ap length (flat_map-cons (to_le_bytes w64) number rest) in
    omega (arith, split, length-xwords rest)

length-slots : (slots : List SlotRow) → length (flat_map slot_spelling slots) ≡ 8 * length slots
length-slots [] = refl
length-slots (slot ∷ rest) = rw (flat_map-cons slot_spelling slot rest) (simp (length-append, length-words) (omega (arith, length-slots rest)))

length-saved : (saved : List SavedRow) → length (flat_map saved_spelling saved) ≡ 8 * length saved
length-saved [] = refl
length-saved (row ∷ rest) = rw (flat_map-cons saved_spelling row rest) (simp (length-append, length-words) (omega (arith, length-saved rest)))

length-places : (places : List Place) → length (flat_map place_spelling places) ≡ 16 * length places
length-places [] = refl
length-places (place ∷ rest) = rw (flat_map-cons place_spelling place rest) (simp (length-append, length-words, length-xwords) (omega (arith, length-places rest)))

length-frame : (frame : FrameRow) → length (frame_spelling frame) ≡ 16 + 8 * length frame.slots + 8 * length frame.saved
unfolding frame_spelling
length-frame frame = simp (length-append, length-words, length-slots, length-saved) (omega arith)

length-site : (row : SiteRow) → length (site_spelling row) ≡ 32 + 16 * length row.site.reps
unfolding site_spelling
length-site row = simp (length-append, length-words, length-places) (omega arith)

length-frames : (frames : List FrameRow) → length (flat_map frame_spelling frames) ≡ sum_by (λ frame. 16 + 8 * length frame.slots + 8 * length frame.saved) frames
length-frames [] = refl
length-frames (frame ∷ rest) = rw (flat_map-cons frame_spelling frame rest, sum_by-cons (λ (frame : FrameRow). 16 + 8 * length frame.slots + 8 * length frame.saved) frame rest) (simp (length-append, length-frame) (omega (arith, length-frames rest)))

length-sites : (rows : List SiteRow) → length (flat_map site_spelling rows) ≡ sum_by (λ row. 32 + 16 * length row.site.reps) rows
length-sites [] = refl
length-sites (row ∷ rest) = rw (flat_map-cons site_spelling row rest, sum_by-cons (λ (row : SiteRow). 32 + 16 * length row.site.reps) row rest) (simp (length-append, length-site) (omega (arith, length-sites rest)))

length-frame_section : (tables : Tables) → length (frame_section tables) ≡ 16 + sum_by (λ frame. 16 + 8 * length frame.slots + 8 * length frame.saved) tables.frames
unfolding frame_section
length-frame_section tables = simp (length-append, length-words, length-frames) (omega arith)

pub length-exit_section : (tables : Tables) → length (exit_section tables) ≡ 16 + sum_by (λ row. 32 + 16 * length row.site.reps) tables.sites
unfolding exit_section
length-exit_section tables = simp (length-append, length-words, length-sites) (omega arith)

length-symbol_entry : (name : ℕ) (symbol : Symbol) → length (symbol_entry name symbol) ≡ 24
unfolding symbol_entry
length-symbol_entry name symbol = simp (length-append, length-words, length-halves, length-xwords)

-- the entries of procedures and their names
length-symbols : (name : ℕ) (symbols : List Symbol) → length (symbol_entries name symbols) + length (flat_map (λ name. name ++ 0 ∷ []) (names_of symbols)) ≡ sum_by (λ symbol. 25 + length symbol.name) symbols
length-symbols name [] = refl
length-symbols name (symbol ∷ rest) = rw (flat_map-cons (λ (name : List ℕ). name ++ 0 ∷ []) symbol.name (names_of rest), sum_by-cons (λ (symbol : Symbol). 25 + length symbol.name) symbol rest) (simp (length-append, length-symbol_entry) (omega (arith, length-symbols (name + length symbol.name + 1) rest)))

length-section_header : (start : ℕ) (section : Section) → length (section_header start section) ≡ 64
unfolding section_header
length-section_header start section = simp (length-append, length-words, length-xwords)

length-section_headers : (at : ℕ) (sections : List Section) → length (section_headers at sections) ≡ 64 * length sections
length-section_headers at [] = refl
length-section_headers at (section ∷ rest) = simp (length-append, length-section_header) (omega (arith, length-section_headers (start_of at section + length section.bytes) rest))

pub length_file_header : (headers : ℕ) → length (file_header headers) ≡ 64
unfolding file_header
length_file_header headers = simp (length-append, length-words, length-halves, length-xwords)

-- a gap is shorter than the alignment
gap_below : (align at : ℕ) → 0 < align → gap align at + 1 ≤ align
gap_below align at some = omega arith

-- the bytes of sections and the gaps before them
spread : List Section → ℕ
spread sections = sum_by (λ section. (section.align - 1) + length section.bytes) sections

length-contents : (at : ℕ) (sections : List Section) → AllByRecursion (λ section. 0 < section.align) sections → length (contents at sections) ≤ spread sections
unfolding spread
length-contents at [] all = omega arith
length-contents at (section ∷ rest) all = rw (sum_by-cons (λ (section : Section). (section.align - 1) + length section.bytes) section rest) (simp (length-append, length-replicate) (omega (arith, gap_below section.align at all.0, length-contents (start_of at section + length section.bytes) rest all.1)))

length-string_table : (names : List (List ℕ)) → length (string_table names) ≡ 1 + length (flat_map (λ name. name ++ 0 ∷ []) names)
unfolding string_table
length-string_table names = omega arith

length-section_names : length (string_table section_names) ≡ 54
unfolding string_table section_names
length-section_names = refl

length-symbol_table : (symbols : List Symbol) → length (symbol_table symbols) ≡ 24 + length (symbol_entries 1 symbols)
unfolding symbol_table
length-symbol_table symbols = simp length-append

-- the sections of an object and the most that can stand before them
spread-sections : (object : Object) → spread (sections_of object) ≡ 24 + length (words object.text) + length (frame_section object.tables) + length (exit_section object.tables) + length (symbol_table object.symbols) + length (string_table (names_of object.symbols)) + length (string_table section_names)
unfolding sections_of spread
spread-sections object = omega arith

count-sections : (object : Object) → length (sections_of object) ≡ 6
unfolding sections_of
count-sections object = refl

length-contents_of : (object : Object) → length (contents_of object) + 519 ≤ size_bound object
length-contents_of object =
    let near : length (contents_of object) ≤ spread (sections_of object) = length-contents 64 (sections_of object) (recursion_from_All _ _ (aligned object)) in
    omega (arith, spread-sections object, length-words object.text, length-frame_section object.tables, length-exit_section object.tables, length-symbol_table object.symbols, length-string_table (names_of object.symbols), length-symbols 1 object.symbols, length-section_names)

-- the file of an object is within its bound
pub length-encode : (object : Object) → length (encode object) ≤ size_bound object
unfolding encode
length-encode object = simp (length-append, length_file_header, length-replicate, length-section_headers) (omega (arith, count-sections object, gap_below 8 (contents_end object) (omega arith), length-contents_of object))
