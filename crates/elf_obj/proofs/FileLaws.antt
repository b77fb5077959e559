-- The whole file: what is read is good and spelled so, and what is good and spelled so is read.
use Rattle.std.proofs.Common.{◌≡◌, ℕ, ◌+◌, ◌-◌, ◌*◌, ◌/◌, ◌%◌, ◌<◌, ◌≤◌, ◌^◌, Bool, true, false, eqb, ltb, leb, List, [], ◌∷◌, ◌++◌, Option, Some, None, Result, Ok, Err, length, sum_by, map, drop, refl, sym, ap, subst, ◌∙◌, length-append, arith}
use Rattle.std.specs.Prelude.{◌&&◌, ◌||◌, not, All, ⊤}
use Rattle.std.specs.List.{AllByRecursion, flat_map}
use Rattle.std.proofs.lemmas.List.Sums.{sum_by-cons}
use Rattle.std.proofs.lemmas.List.Concat.{flat_map-cons}
use Rattle.elf_obj.proofs.Bounds.{few_names}
use Rattle.std.proofs.lemmas.Bool.{eqb-true, eq-eqb, and_parts, lt-ltb, ltb-true, leb-true, le-leb}
use Rattle.std.proofs.lemmas.List.{length-drop, length-replicate, length-map}
use Rattle.std.proofs.lemmas.List.Elements.{All-from_recursion, recursion_from_All}
use Rattle.b3_base.specs.Fields.{words, fields}
use Rattle.b3_base.proofs.FieldLaws.{AreBytes, length_fields, length-words, words-fields, fields-words, fields_small}
use Rattle.b3_ir.specs.Names.{IsName}
use Rattle.exit_table.specs.declared.tables.SiteRow.{SiteRow}
use Rattle.exit_table.specs.declared.tables.Tables.{Tables}
use Rattle.exit_table.specs.declared.fault.TableFault.{TableFault}
use Rattle.exit_table.specs.Good.{IsGoodTables}
use Rattle.exit_table.specs.Rooms.{lengths_of}
use Rattle.exit_table.specs.Read.{read_tables, AreTables}
use Rattle.exit_table.specs.Spelling.{frame_section, exit_section}
use Rattle.exit_table.proofs.Spelled.{is_found, is_only}
use Rattle.elf_obj.specs.declared.object.Symbol.{Symbol}
use Rattle.elf_obj.specs.declared.object.Object.{Object}
use Rattle.elf_obj.specs.declared.layout.Sizes.{Sizes}
use Rattle.elf_obj.specs.declared.fault.ObjectFault.{ObjectFault}
use Rattle.elf_obj.specs.Good.{names_of, sizes_of as text_sizes, Fills, HasItsWord, IsGood}
use Rattle.elf_obj.specs.Sections.{gap, zeros}
use Rattle.elf_obj.specs.Elf.{string_table, symbol_entries, symbol_table, section_names, file_header, encode, Holds}
use Rattle.elf_obj.specs.Read.{IsFileOf}
use Rattle.elf_obj.specs.Fields.{slice, and_then, told}
use Rattle.elf_obj.specs.Reading.{next_8, text_end, frames_start, frames_end, exits_start, exits_end, symbols_start, names_start, section_names_start, parts_end, is_text_size, is_symbols_size, symbols_of, names_bytes, read_start, read_sizes, read_symbols, read_names, read_gaps, extents_of, tables_told, tables_at, words_fault, text_of, read_all_tables, read_parts, read_object}
use Rattle.elf_obj.proofs.HeaderLaws.{and_then_ok, ok_is, told_ok, IsStart, start_found, start_again, AreSizes, AreSmallSizes, same_sizes, HasSmallStarts, table_length, sizes_found, sizes_again}
use Rattle.elf_obj.proofs.Laid.{sizes_of, laid, AreParts, encode_laid, are_laid, laid_are}
use Rattle.elf_obj.proofs.SymbolLaws.{AreNew, new_distinct, distinct_new}
use Rattle.elf_obj.proofs.ReadLaws.{slice_bytes, slice_length, entries_length, AreSymbols, symbols_found, symbols_again, AreNamed, names_found, names_again, AreGaps, gaps_found, gaps_again, lengths_are, extents_are, told_tables, words_found, words_again}

-- ---- what is read

-- the size of the text, by its flag
pub text_parts : (s : Sizes) → is_text_size s ≡ true → (s.text % 4 ≡ 0) × (s.text < 2 ^ 26)
text_parts s e =
    let p = and_parts (eqb (s.text % 4) 0 && ltb s.text (2 ^ 26)) (not (eqb s.symbols 24) || eqb s.text 0) e in
    let q = and_parts (eqb (s.text % 4) 0) (ltb s.text (2 ^ 26)) p.0 in
    (eqb-true (s.text % 4) 0 q.0, ltb-true s.text (2 ^ 26) q.1)

-- the parts lie in the file
pub record AreWithin (bytes : List ℕ) (s : Sizes) : Type 0 where
  pub end : parts_end s ≤ length bytes

pub within : (bytes : List ℕ) (start : ℕ) (s : Sizes) → start + 448 ≡ length bytes → next_8 (parts_end s) ≡ start → AreWithin bytes s
within bytes start s ends is = record { end = omega arith }

pub tables_found : (bytes : List ℕ) (s : Sizes) (symbols : List Symbol) (tables : Tables) → AreBytes bytes → Fills 0 s.text symbols → s.text < 2 ^ 26 → tables_at bytes s symbols ≡ Ok tables
    → AreTables (extents_of symbols) (slice (frames_start s) s.frames bytes) (slice (exits_start s) s.exits bytes) tables
unfolding tables_at
tables_found bytes s symbols tables are fills few e =
    let frames : List ℕ = slice (frames_start s) s.frames bytes in
    let exits : List ℕ = slice (exits_start s) s.exits bytes in
    is_found (extents_of symbols) frames exits (Ok tables) (extents_are s.text symbols fills few) (slice_bytes (frames_start s) s.frames bytes are) (slice_bytes (exits_start s) s.exits bytes are) (told_tables s (read_tables (extents_of symbols) frames exits) tables e)

record AreAllTables (bytes : List ℕ) (s : Sizes) (symbols : List Symbol) (tables : Tables) : Type 0 where
  pub tables_are : AreTables (extents_of symbols) (slice (frames_start s) s.frames bytes) (slice (exits_start s) s.exits bytes) tables
  pub words : AllByRecursion (HasItsWord (text_of bytes s)) tables.sites

all_tables_found : (bytes : List ℕ) (s : Sizes) (symbols : List Symbol) (tables : Tables) → AreBytes bytes → Fills 0 s.text symbols → s.text < 2 ^ 26 → read_all_tables bytes s symbols ≡ Ok tables → AreAllTables bytes s symbols tables
unfolding read_all_tables
all_tables_found bytes s symbols tables are fills few e =
    let fault : Tables → Option ℕ = λ t. words_fault (exits_start s + 16) (text_of bytes s) t.sites in
    let a = and_then_ok (tables_at bytes s symbols) (λ t. and_then (told 12 (fault t)) (λ _. Ok t)) tables e in
    let b = and_then_ok (told 12 (fault a.0)) (λ _. Ok a.0) tables a.2 in
    subst (AreAllTables bytes s symbols) (ok_is a.0 tables b.2) (record {
      tables_are = tables_found bytes s symbols a.0 are fills few a.1;
      words = words_found (exits_start s + 16) (text_of bytes s) a.0.sites (told_ok 12 (fault a.0) b.0 b.1);
    })

-- an object that was read, and its parts
record IsRead (bytes : List ℕ) (s : Sizes) (o : Object) : Type 0 where
  pub text : o.text ≡ text_of bytes s
  pub symbols : AreSymbols bytes s o.symbols
  pub named : AreNamed bytes s o.symbols
  pub gaps : AreGaps bytes s
  pub tables : AreAllTables bytes s o.symbols o.tables

parts_found : (bytes : List ℕ) (start : ℕ) (s : Sizes) (o : Object) → AreBytes bytes → start + 448 ≡ length bytes → AreSizes bytes start s → read_parts bytes s ≡ Ok o → IsRead bytes s o
parts_found bytes start s o are ends sizes e =
    let inside = within bytes start s ends sizes.ends in
    let build : List Symbol → Tables → Result Object ObjectFault = λ symbols tables. Ok (record { text = text_of bytes s; symbols = symbols; tables = tables }) in
    let a = and_then_ok (read_symbols bytes s) (λ symbols. and_then (read_names bytes s symbols) (λ _. and_then (read_gaps bytes s) (λ _. and_then (read_all_tables bytes s symbols) (λ tables. build symbols tables)))) o e in
    let b = and_then_ok (read_names bytes s a.0) (λ _. and_then (read_gaps bytes s) (λ _. and_then (read_all_tables bytes s a.0) (λ tables. build a.0 tables))) o a.2 in
    let c = and_then_ok (read_gaps bytes s) (λ _. and_then (read_all_tables bytes s a.0) (λ tables. build a.0 tables)) o b.2 in
    let d = and_then_ok (read_all_tables bytes s a.0) (λ tables. build a.0 tables) o c.2 in
    let symbols = symbols_found bytes s a.0 (omega (arith, inside.end)) sizes.text sizes.symbols a.1 in
    let text = text_parts s sizes.text in
    subst (IsRead bytes s) (ok_is (record { text = text_of bytes s; symbols = a.0; tables = d.0 }) o d.2) (record {
      text = refl;
      symbols = symbols;
      named = names_found bytes s a.0 b.0 b.1;
      gaps = gaps_found bytes s c.0 c.1;
      tables = all_tables_found bytes s a.0 d.0 are symbols.fills text.1 d.1;
    })

text_spelled : (bytes : List ℕ) (s : Sizes) → AreBytes bytes → 64 + s.text ≤ length bytes → s.text % 4 ≡ 0 → words (text_of bytes s) ≡ slice 64 s.text bytes
text_spelled bytes s are inside whole = words-fields (slice 64 s.text bytes) (slice_bytes 64 s.text bytes are) (ap (λ (n : ℕ). n % 4) (slice_length 64 s.text bytes inside) ∙ whole)

good_found : (bytes : List ℕ) (start : ℕ) (s : Sizes) (o : Object) → AreBytes bytes → start + 448 ≡ length bytes → AreSizes bytes start s → IsRead bytes s o → IsGood o
good_found bytes start s o are ends sizes read =
    let inside = within bytes start s ends sizes.ends in
    let text = text_parts s sizes.text in
    let whole : s.text % 4 ≡ 0 = text.0 in
    let few : s.text < 2 ^ 26 = text.1 in
    let long : length (slice 64 s.text bytes) ≡ s.text = slice_length 64 s.text bytes (omega (arith, inside.end)) in
    let count : length o.text ≡ s.text / 4 = ap (λ (t : List ℕ). length t) read.text ∙ length_fields (slice 64 s.text bytes) ∙ ap (λ (n : ℕ). n / 4) long in
    let full : 4 * length o.text ≡ s.text = omega arith in
    record {
      few_words = omega arith;
      narrow = subst (λ t. All (λ word. word < 2 ^ 32) t) (sym read.text) (All-from_recursion (λ (word : ℕ). word < 2 ^ 32) (text_of bytes s) (fields_small (slice 64 s.text bytes) (slice_bytes 64 s.text bytes are)));
      fills = subst (λ n. Fills 0 n o.symbols) (sym full) read.symbols.fills;
      names = All-from_recursion IsName (names_of o.symbols) read.symbols.named;
      distinct = new_distinct (names_of o.symbols) read.symbols.new;
      tables = subst (λ sizes. IsGoodTables sizes o.tables) (lengths_are o.symbols) read.tables.tables_are.good;
      few_places = read.tables.tables_are.few;
      words = All-from_recursion (HasItsWord o.text) o.tables.sites (subst (λ t. AllByRecursion (HasItsWord t) o.tables.sites) (sym read.text) read.tables.words);
    }

holds_found : (bytes : List ℕ) (start : ℕ) (s : Sizes) (o : Object) → AreBytes bytes → IsStart bytes start → AreSizes bytes start s → IsRead bytes s o → Holds bytes o
holds_found bytes start s o are is sizes read =
    let inside = within bytes start s is.ends sizes.ends in
    let text = text_parts s sizes.text in
    let spelled : words o.text ≡ slice 64 s.text bytes = ap (λ (t : List ℕ). words t) read.text ∙ text_spelled bytes s are (omega (arith, inside.end)) text.0 in
    let parts : AreParts bytes s o = record {
      header = is.header ∙ ap file_header (sym sizes.ends);
      text = sym spelled;
      text_gap = read.gaps.text;
      frames = read.tables.tables_are.frames_spelled;
      frames_gap = read.gaps.frames;
      exits = read.tables.tables_are.exits_spelled;
      exits_gap = read.gaps.exits;
      symbols = read.symbols.entries;
      names = read.named.names;
      section_names = read.named.section_names;
      gap = read.gaps.last;
      table = ap (λ (n : ℕ). drop n bytes) sizes.ends ∙ sizes.table;
    } in
    let size : (start n : ℕ) (piece : List ℕ) → start + n ≤ length bytes → slice start n bytes ≡ piece → length piece ≡ n = λ start n piece lies e. ap (λ (t : List ℕ). length t) (sym e) ∙ slice_length start n bytes lies in
    let same : sizes_of o ≡ s = same_sizes _ _ _ _ _ _ s
    (size 64 s.text (words o.text) (omega (arith, inside.end)) parts.text)
    (size (frames_start s) s.frames (frame_section o.tables) (omega (arith, inside.end)) parts.frames)
    (size (exits_start s) s.exits (exit_section o.tables) (omega (arith, inside.end)) parts.exits)
    (size (symbols_start s) s.symbols (symbol_table o.symbols) (omega (arith, inside.end)) parts.symbols)
    (size (names_start s) s.names (string_table (names_of o.symbols)) (omega (arith, inside.end)) parts.names)
    (size (section_names_start s) s.section_names (string_table section_names) (omega (arith, inside.end)) parts.section_names) in
    are_laid bytes s o parts ∙ ap (λ (z : Sizes). laid z o) (sym same) ∙ sym (encode_laid o)

pub object_found : (bytes : List ℕ) (o : Object) → AreBytes bytes → read_object bytes ≡ Ok o → IsFileOf bytes o
unfolding read_object
object_found bytes o are e =
    let a = and_then_ok (read_start bytes) (λ start. and_then (read_sizes bytes start) (λ s. read_parts bytes s)) o e in
    let b = and_then_ok (read_sizes bytes a.0) (λ s. read_parts bytes s) o a.2 in
    let start = start_found bytes a.0 a.1 in
    let sizes = sizes_found bytes a.0 b.0 start.ends b.1 in
    let read = parts_found bytes a.0 b.0 o are start.ends sizes b.2 in
    record { good = good_found bytes a.0 b.0 o are start.ends sizes read; holds = holds_found bytes a.0 b.0 o are start sizes read }

-- ---- what is good and spelled so

symbol_table_length : (symbols : List Symbol) → length (symbol_table symbols) ≡ 24 + 24 * length symbols
unfolding symbol_table
symbol_table_length symbols = length-append (zeros 24) (symbol_entries 1 symbols) ∙ ap (λ (n : ℕ). 24 + n) (entries_length 1 symbols)

no_symbols : (text : ℕ) (symbols : List Symbol) → Fills 0 text symbols → 24 + 24 * length symbols ≡ 24 → text ≡ 0
no_symbols text [] fills e = sym fills
no_symbols text (symbol ∷ symbols) fills e = absurd (omega (arith, e))

text_flag : (s : Sizes) (text : ℕ) (symbols : List Symbol) → s.text ≡ text → s.symbols ≡ 24 + 24 * length symbols → Fills 0 text symbols → text % 4 ≡ 0 → text < 2 ^ 26 → is_text_size s ≡ true
text_flag s text symbols is count fills whole few =
    let last : (b : Bool) → (eqb s.symbols 24 ≡ b) → (not b || eqb text 0) ≡ true = λ b. elim b as (λ b. (eqb s.symbols 24 ≡ b) → (not b || eqb text 0) ≡ true) [ true ↦ λ e. eq-eqb text 0 (no_symbols text symbols fills (sym count ∙ eqb-true s.symbols 24 e)) | false ↦ λ e. refl ] in
    rw (is, eq-eqb (text % 4) 0 whole, lt-ltb text (2 ^ 26) few, last (eqb s.symbols 24) refl) refl

symbols_flag : (s : Sizes) (n : ℕ) → s.symbols ≡ 24 + 24 * n → is_symbols_size s ≡ true
symbols_flag s n count = rw (eq-eqb (s.symbols % 24) 0 (omega arith), le-leb 24 s.symbols (omega arith)) refl

tables_again : (bytes : List ℕ) (s : Sizes) (o : Object) → IsGood o → AreParts bytes s o → text_of bytes s ≡ o.text → read_all_tables bytes s o.symbols ≡ Ok o.tables
unfolding read_all_tables tables_at
tables_again bytes s o good parts text =
    let few : length o.text < 2 ^ 24 = good.few_words in
    let extents = extents_are (4 * length o.text) o.symbols good.fills (omega arith) in
    let frames : List ℕ = slice (frames_start s) s.frames bytes in
    let exits : List ℕ = slice (exits_start s) s.exits bytes in
    let read : read_tables (extents_of o.symbols) frames exits ≡ Ok o.tables = is_only (extents_of o.symbols) frames exits o.tables extents (record {
      good = subst (λ sizes. IsGoodTables sizes o.tables) (sym (lengths_are o.symbols)) good.tables;
      few = good.few_places;
      frames_spelled = parts.frames;
      exits_spelled = parts.exits;
    }) in
    let words : words_fault (exits_start s + 16) o.text o.tables.sites ≡ None = words_again (exits_start s + 16) o.text o.tables.sites (recursion_from_All (HasItsWord o.text) o.tables.sites good.words) in
    let tell : Tables → Option ℕ → Result Tables ObjectFault = λ t byte. and_then (told 12 byte) (λ _. Ok t) in
    ap (λ (r : Result Tables TableFault). and_then (tables_told s r) (λ t. tell t (words_fault (exits_start s + 16) (text_of bytes s) t.sites))) read
    ∙ ap (λ (t : List ℕ). tell o.tables (words_fault (exits_start s + 16) t o.tables.sites)) text
    ∙ ap (λ (byte : Option ℕ). tell o.tables byte) words

names_length : (symbols : List Symbol) → length (string_table (names_of symbols)) ≡ 1 + sum_by (λ symbol. length symbol.name + 1) symbols
unfolding string_table
names_length symbols = omega (arith, all symbols)
  where
    all : (symbols : List Symbol) → length (flat_map (λ name. name ++ 0 ∷ []) (names_of symbols)) ≡ sum_by (λ symbol. length symbol.name + 1) symbols
    all [] = refl
    all (symbol ∷ symbols) = rw (flat_map-cons (λ (name : List ℕ). name ++ 0 ∷ []) symbol.name (names_of symbols), sum_by-cons (λ (symbol : Symbol). length symbol.name + 1) symbol symbols) (simp length-append (omega (arith, all symbols)))

names_few : (bytes : List ℕ) (o : Object) → names_bytes (sizes_of o) bytes ≡ string_table (names_of o.symbols) → 1 + sum_by (λ symbol. length symbol.name + 1) o.symbols < 2 ^ 32 → length (names_bytes (sizes_of o) bytes) < 2 ^ 32
names_few bytes o is few = omega (arith, ap (λ (t : List ℕ). length t) is, names_length o.symbols)

pub object_again : (bytes : List ℕ) (o : Object) → length bytes < 2 ^ 64 → IsGood o → Holds bytes o → read_object bytes ≡ Ok o
unfolding read_object string_table
object_again bytes o short good holds =
    let s : Sizes = sizes_of o in
    let start : ℕ = next_8 (parts_end s) in
    let parts = laid_are bytes o (holds ∙ encode_laid o) in
    let long : length (drop start bytes) ≡ 448 = ap (λ (t : List ℕ). length t) parts.table ∙ table_length s in
    let ends : start + 448 ≡ length bytes = omega (arith, length-drop start bytes) in
    let few : length o.text < 2 ^ 24 = good.few_words in
    let text : length (words o.text) ≡ 4 * length o.text = length-words o.text in
    let count : s.symbols ≡ 24 + 24 * length o.symbols = symbol_table_length o.symbols in
    let fills : Fills 0 s.text o.symbols = subst (λ n. Fills 0 n o.symbols) (sym text) good.fills in
    let is_start : IsStart bytes start = record { header = parts.header; aligned = omega arith; ends = ends } in
    let small : AreSmallSizes s = record { text = omega arith; frames = omega arith; exits = omega arith; symbols = omega arith; names = omega arith; section_names = omega arith } in
    let starts : HasSmallStarts s = record { frames = omega arith; exits = omega arith; symbols = omega arith; names = omega arith; section_names = omega arith } in
    let text_size = text_flag s (4 * length o.text) o.symbols text count good.fills (omega arith) (omega arith) in
    let one : read_start bytes ≡ Ok start = start_again bytes start is_start (omega arith) in
    let two : read_sizes bytes start ≡ Ok s = sizes_again bytes start s parts.table small starts text_size (symbols_flag s (length o.symbols) count) refl in
    let three : read_symbols bytes s ≡ Ok o.symbols = symbols_again bytes s o.symbols parts.symbols parts.names count fills (recursion_from_All IsName (names_of o.symbols) good.names) (distinct_new (names_of o.symbols) good.distinct) small.text (names_few bytes o parts.names (few_names o good)) in
    let four : read_names bytes s o.symbols ≡ Ok tt = names_again bytes s o.symbols (record { names = parts.names; section_names = parts.section_names }) in
    let five : read_gaps bytes s ≡ Ok tt = gaps_again bytes s (record { text = parts.text_gap; frames = parts.frames_gap; exits = parts.exits_gap; last = parts.gap }) in
    let text_is : text_of bytes s ≡ o.text = ap (λ (t : List ℕ). fields t) parts.text ∙ fields-words o.text (recursion_from_All (λ (word : ℕ). word < 2 ^ 32) o.text good.narrow) in
    let six : read_all_tables bytes s o.symbols ≡ Ok o.tables = tables_again bytes s o good parts text_is in
    let build : List ℕ → Tables → Result Object ObjectFault = λ text tables. Ok (record { text = text; symbols = o.symbols; tables = tables }) in
    ap (λ (r : Result ℕ ObjectFault). and_then r (λ start. and_then (read_sizes bytes start) (λ s. read_parts bytes s))) one
    ∙ ap (λ (r : Result Sizes ObjectFault). and_then r (λ s. read_parts bytes s)) two
    ∙ ap (λ (r : Result (List Symbol) ObjectFault). and_then r (λ symbols. and_then (read_names bytes s symbols) (λ _. and_then (read_gaps bytes s) (λ _. and_then (read_all_tables bytes s symbols) (λ tables. Ok (record { text = text_of bytes s; symbols = symbols; tables = tables })))))) three
    ∙ ap (λ (r : Result ⊤ ObjectFault). and_then r (λ _. and_then (read_gaps bytes s) (λ _. and_then (read_all_tables bytes s o.symbols) (λ tables. build (text_of bytes s) tables)))) four
    ∙ ap (λ (r : Result ⊤ ObjectFault). and_then r (λ _. and_then (read_all_tables bytes s o.symbols) (λ tables. build (text_of bytes s) tables))) five
    ∙ ap (λ (r : Result Tables ObjectFault). and_then r (λ tables. build (text_of bytes s) tables)) six
    ∙ ap (λ (t : List ℕ). build t o.tables) text_is
