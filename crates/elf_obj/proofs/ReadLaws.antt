-- An object that is read is good and its file is this, and a good object is read from its file.
use Rattle.std.proofs.Common.{◌≡◌, ℕ, zero, suc, ◌+◌, ◌-◌, ◌*◌, ◌/◌, ◌%◌, ◌<◌, ◌≤◌, ◌^◌, ◌⊎◌, Bool, true, false, cond, eqb, ltb, leb, List, [], ◌∷◌, ◌++◌, Option, Some, None, Result, Ok, Err, length, get_or, map, sum, take, drop, refl, sym, ap, subst, ◌∙◌, append_assoc, length-append, inl, inr, arith}
use Rattle.std.specs.Prelude.{◌&&◌, ◌||◌, not, slice_get, IsSomeAnd, All, ⊤}
use Rattle.std.specs.List.{AllByRecursion, flat_map}
use Rattle.std.proofs.lemmas.Bool.{eqb-true, eq-eqb, and_parts, lt-ltb, ltb-true, leb-true, le-leb, false_from_ne_true}
use Rattle.std.proofs.lemmas.List.{drop-drop, drop_at, length-drop, length-take-le, get_or-drop, append-nil, nil_from_length}
use Rattle.std.proofs.lemmas.List.Elements.{All-from_recursion, recursion_from_All}
use Rattle.b3_base.specs.Fields.{words, fields}
use Rattle.b3_base.specs.declared.range.Range.{Range}
use Rattle.b3_base.proofs.FieldLaws.{AreBytes, length_fields, length-words, words-fields, fields-words, fields_small}
use Rattle.b3_ir.specs.Names.{IsName}
use Rattle.stackmap.specs.declared.site.SiteKind.{SiteKind}
use Rattle.stackmap.specs.declared.site.SiteKind.TheVariants.{Call, Patchpoint, Exit, Trap}
use Rattle.exit_table.specs.declared.tables.SiteRow.{SiteRow}
use Rattle.exit_table.specs.declared.tables.Tables.{Tables}
use Rattle.exit_table.specs.declared.fault.TableFault.{TableFault}
use Rattle.exit_table.specs.declared.fault.TableFault.TheVariants as table
use Rattle.exit_table.specs.Good.{AreSizes as AreTextSizes, IsGoodTables}
use Rattle.exit_table.specs.Rooms.{AreJoined, AreExtents, lengths_of}
use Rattle.exit_table.specs.Read.{read_tables, AreTables, Tells}
use Rattle.exit_table.specs.Spelling.{frame_section, exit_section}
use Rattle.exit_table.proofs.Spelled.{is_found, is_only}
use Rattle.elf_obj.specs.declared.object.Symbol.{Symbol}
use Rattle.elf_obj.specs.declared.object.Object.{Object}
use Rattle.elf_obj.specs.declared.layout.Sizes.{Sizes}
use Rattle.elf_obj.specs.declared.fault.ObjectFault.{ObjectFault}
use Rattle.elf_obj.specs.declared.fault.ObjectFault.TheVariants.{Bad, NoMemory}
use Rattle.elf_obj.specs.Good.{names_of, sizes_of as text_sizes, Fills, IsBlr, IsWordOf, HasItsWord, IsGood}
use Rattle.elf_obj.specs.Sections.{gap, zeros}
use Rattle.elf_obj.specs.Elf.{string_table, symbol_entry, symbol_entries, symbol_table, section_names, encode, Holds}
use Rattle.elf_obj.specs.Fields.{slice, differs, fields_fault, and_then, told}
use Rattle.elf_obj.specs.Reading.{next_8, text_end, frames_start, frames_end, exits_start, exits_end, symbols_start, names_start, section_names_start, parts_end, is_text_size, is_symbols_size, name_in, symbols_at, entries_fields, undefined_fields, symbols_of, names_bytes, all_symbols, all_entries_fields, read_start, read_sizes, read_symbols, read_names, read_gap, read_gaps, extents_of, tables_told, tables_at, is_blr, is_word_of, some_word, words_fault, text_of, read_all_tables, read_parts, read_object}
use Rattle.elf_obj.proofs.Bounds.{fills_sum, fills_each}
use Rattle.elf_obj.proofs.FieldRules.{spelled, all_good, spelled_append, good_append, good_both, fields_none, fields_again, differs_none, differs_same}
use Rattle.elf_obj.proofs.HeaderLaws.{and_then_ok, ok_is, told_ok, IsStart, start_found, start_again, AreSizes, AreSmallSizes, same_sizes, HasSmallStarts, table_length, sizes_found, sizes_again}
use Rattle.elf_obj.proofs.Laid.{sizes_of, laid, AreParts, encode_laid, are_laid, laid_are}
use Rattle.elf_obj.proofs.SymbolLaws.{AreNew, new_distinct, distinct_new, AreEntries, entries_found, AreAgain, entries_again, undefined_spelled, entry_long}

-- ---- pieces of a file

-- a byte is below 256, and where there is none it counts as 0
pub slice_bytes : (start size : ℕ) (bytes : List ℕ) → AreBytes bytes → AreBytes (slice start size bytes)
slice_bytes start size bytes are i = front size (drop start bytes) (λ j. subst (λ (b : ℕ). b < 256) (sym (get_or-drop start bytes j 0)) (are (start + j))) i
  where
    front : (size : ℕ) (xs : List ℕ) → AreBytes xs → AreBytes (take size xs)
    front zero xs are i = omega arith
    front (suc size) [] are i = omega arith
    front (suc size) (x ∷ xs) are zero = are 0
    front (suc size) (x ∷ xs) are (suc i) = front size xs (λ j. are (suc j)) i

pub slice_length : (start size : ℕ) (bytes : List ℕ) → start + size ≤ length bytes → length (slice start size bytes) ≡ size
slice_length start size bytes within = length-take-le size (drop start bytes) (omega (arith, length-drop start bytes))

-- ---- symbols

pub entries_length : (at : ℕ) (symbols : List Symbol) → length (symbol_entries at symbols) ≡ 24 * length symbols
entries_length at [] = refl
entries_length at (symbol ∷ symbols) = omega (arith, length-append (symbol_entry at symbol) (symbol_entries (at + length symbol.name + 1) symbols), entry_long at symbol, entries_length (at + length symbol.name + 1) symbols)

count_is : (names : List ℕ) (at n : ℕ) (entries : List ℕ) → length (symbols_at names at n entries) ≡ n
count_is names at zero entries = refl
count_is names at (suc n) entries = ap suc (count_is names (at + length (name_in (drop at names)) + 1) n (drop 24 entries))

pub record AreSymbols (bytes : List ℕ) (s : Sizes) (symbols : List Symbol) : Type 0 where
  pub fills : Fills 0 s.text symbols
  pub entries : symbols_of s bytes ≡ symbol_table symbols
  pub named : AllByRecursion IsName (names_of symbols)
  pub new : AreNew [] (names_of symbols)

no_text : (s : Sizes) → is_text_size s ≡ true → is_symbols_size s ≡ true → s.symbols / 24 - 1 ≡ 0 → 0 ≡ s.text
no_text s text symbols none =
    let p = and_parts (eqb (s.symbols % 24) 0) (leb 24 s.symbols) symbols in
    let whole : s.symbols % 24 ≡ 0 = eqb-true (s.symbols % 24) 0 p.0 in
    let least : 24 ≤ s.symbols = leb-true 24 s.symbols p.1 in
    let is : s.symbols ≡ 24 = omega arith in
    let q = and_parts (eqb (s.text % 4) 0 && ltb s.text (2 ^ 26)) (not (eqb s.symbols 24) || eqb s.text 0) text in
    sym (eqb-true s.text 0 (second (eqb s.symbols 24) (eqb s.text 0) q.1 (eq-eqb s.symbols 24 is)))
  where
    second : (a b : Bool) → (not a || b) ≡ true → a ≡ true → b ≡ true
    second true b e is = e
    second false b e is = absurd cc

pub symbols_found : (bytes : List ℕ) (s : Sizes) (symbols : List Symbol) → symbols_start s + s.symbols ≤ length bytes → is_text_size s ≡ true → is_symbols_size s ≡ true → read_symbols bytes s ≡ Ok symbols → AreSymbols bytes s symbols
unfolding read_symbols all_entries_fields symbol_table
symbols_found bytes s symbols within text size e =
    let n : ℕ = s.symbols / 24 - 1 in
    let names : List ℕ = names_bytes s bytes in
    let table : List ℕ = symbols_of s bytes in
    let found : List Symbol = all_symbols bytes s in
    let rows = entries_fields names s.text [] 1 0 found in
    let a = and_then_ok (told 9 (fields_fault (symbols_start s) (all_entries_fields bytes s) table)) (λ _. Ok found) symbols e in
    let none = told_ok 9 (fields_fault (symbols_start s) (all_entries_fields bytes s) table) a.0 a.1 in
    let met = fields_none (symbols_start s) (undefined_fields ++ rows) table none in
    let good = good_append undefined_fields rows met.good in
    let front : spelled (undefined_fields ++ rows) ≡ zeros 24 ++ spelled rows = spelled_append undefined_fields rows ∙ ap (λ (t : List ℕ). t ++ spelled rows) undefined_spelled in
    let table_is : table ≡ zeros 24 ++ (spelled rows ++ met.rest) = met.bytes_are ∙ ap (λ (t : List ℕ). t ++ met.rest) front ∙ append_assoc (zeros 24) (spelled rows) met.rest in
    let next : drop 24 table ≡ spelled rows ++ met.rest = ap (λ (t : List ℕ). drop 24 t) table_is ∙ drop_at (zeros 24) (spelled rows ++ met.rest) 24 refl in
    let are = entries_found names s.text [] 1 0 n (drop 24 table) met.rest good.1 next (no_text s text size) in
    let p = and_parts (eqb (s.symbols % 24) 0) (leb 24 s.symbols) size in
    let whole : s.symbols % 24 ≡ 0 = eqb-true (s.symbols % 24) 0 p.0 in
    let least : 24 ≤ s.symbols = leb-true 24 s.symbols p.1 in
    let long : length table ≡ s.symbols = slice_length (symbols_start s) s.symbols bytes within in
    let rows_long : length (spelled rows) ≡ 24 * n = ap (λ (t : List ℕ). length t) are.entries ∙ entries_length 1 found ∙ ap (λ (k : ℕ). 24 * k) (count_is names 1 n (drop 24 table)) in
    let nothing : length met.rest ≡ 0 = omega (arith, ap (λ (t : List ℕ). length t) table_is, length-append (zeros 24) (spelled rows ++ met.rest), length-append (spelled rows) met.rest) in
    let end : spelled rows ++ met.rest ≡ symbol_entries 1 found = ap (λ (t : List ℕ). spelled rows ++ t) (nil_from_length met.rest nothing) ∙ append-nil (spelled rows) ∙ are.entries in
    subst (AreSymbols bytes s) (ok_is found symbols a.2) (record { fills = are.fills; entries = table_is ∙ ap (λ (t : List ℕ). zeros 24 ++ t) end; named = are.named; new = are.new })

pub symbols_again : (bytes : List ℕ) (s : Sizes) (symbols : List Symbol) → symbols_of s bytes ≡ symbol_table symbols → names_bytes s bytes ≡ string_table (names_of symbols) → s.symbols ≡ 24 + 24 * length symbols
    → Fills 0 s.text symbols → AllByRecursion IsName (names_of symbols) → AreNew [] (names_of symbols) → s.text < 2 ^ 64 → length (names_bytes s bytes) < 2 ^ 32 → read_symbols bytes s ≡ Ok symbols
unfolding read_symbols all_entries_fields symbol_table string_table
symbols_again bytes s symbols table names count fills named new small low =
    let n : s.symbols / 24 - 1 ≡ length symbols = omega arith in
    let are = entries_again (names_bytes s bytes) s.text [] 1 0 symbols [] fills named new (ap (λ (t : List ℕ). drop 1 t) names) small low in
    let next : drop 24 (symbols_of s bytes) ≡ symbol_entries 1 symbols ++ [] = ap (λ (t : List ℕ). drop 24 t) table ∙ drop_at (zeros 24) (symbol_entries 1 symbols) 24 refl ∙ sym (append-nil (symbol_entries 1 symbols)) in
    let all : all_symbols bytes s ≡ symbols = ap (λ (k : ℕ). symbols_at (names_bytes s bytes) 1 k (drop 24 (symbols_of s bytes))) n ∙ ap (λ (t : List ℕ). symbols_at (names_bytes s bytes) 1 (length symbols) t) next ∙ are.read in
    let rows = entries_fields (names_bytes s bytes) s.text [] 1 0 symbols in
    let spelling : symbols_of s bytes ≡ spelled (undefined_fields ++ rows) ++ [] =
    table ∙ ap (λ (t : List ℕ). zeros 24 ++ t) (sym are.entries_are) ∙ ap (λ (t : List ℕ). t ++ spelled rows) (sym undefined_spelled) ∙ sym (spelled_append undefined_fields rows) ∙ sym (append-nil (spelled (undefined_fields ++ rows))) in
    let none : fields_fault (symbols_start s) (undefined_fields ++ rows) (symbols_of s bytes) ≡ None =
    ap (λ (t : List ℕ). fields_fault (symbols_start s) (undefined_fields ++ rows) t) spelling ∙ fields_again (symbols_start s) (undefined_fields ++ rows) [] (good_both undefined_fields rows refl are.good) in
    let read : List Symbol → Option ℕ → Result (List Symbol) ObjectFault = λ found byte. and_then (told 9 byte) (λ _. Ok found) in
    ap (λ (found : List Symbol). read found (fields_fault (symbols_start s) (undefined_fields ++ entries_fields (names_bytes s bytes) s.text [] 1 0 found) (symbols_of s bytes))) all ∙ ap (λ (byte : Option ℕ). read symbols byte) none

-- ---- names and gaps

pub record AreNamed (bytes : List ℕ) (s : Sizes) (symbols : List Symbol) : Type 0 where
  pub names : names_bytes s bytes ≡ string_table (names_of symbols)
  pub section_names : slice (section_names_start s) s.section_names bytes ≡ string_table section_names

pub names_found : (bytes : List ℕ) (s : Sizes) (symbols : List Symbol) (x : ⊤) → read_names bytes s symbols ≡ Ok x → AreNamed bytes s symbols
unfolding read_names
names_found bytes s symbols x e =
    let first : Option ℕ = differs (names_start s) (string_table (names_of symbols)) (names_bytes s bytes) in
    let second : Option ℕ = differs (section_names_start s) (string_table section_names) (slice (section_names_start s) s.section_names bytes) in
    let a = and_then_ok (told 10 first) (λ _. told 10 second) x e in
    record { names = differs_none _ _ _ (told_ok 10 first a.0 a.1); section_names = differs_none _ _ _ (told_ok 10 second x a.2) }

pub names_again : (bytes : List ℕ) (s : Sizes) (symbols : List Symbol) → AreNamed bytes s symbols → read_names bytes s symbols ≡ Ok tt
unfolding read_names
names_again bytes s symbols are = rw (are.names, are.section_names, differs_same (names_start s) (string_table (names_of symbols)), differs_same (section_names_start s) (string_table section_names)) refl

pub record AreGaps (bytes : List ℕ) (s : Sizes) : Type 0 where
  pub text : slice (text_end s) (gap 8 (text_end s)) bytes ≡ zeros (gap 8 (text_end s))
  pub frames : slice (frames_end s) (gap 8 (frames_end s)) bytes ≡ zeros (gap 8 (frames_end s))
  pub exits : slice (exits_end s) (gap 8 (exits_end s)) bytes ≡ zeros (gap 8 (exits_end s))
  pub last : slice (parts_end s) (gap 8 (parts_end s)) bytes ≡ zeros (gap 8 (parts_end s))

gap_found : (bytes : List ℕ) (at : ℕ) (x : ⊤) → read_gap bytes at ≡ Ok x → slice at (gap 8 at) bytes ≡ zeros (gap 8 at)
gap_found bytes at x e = differs_none at (zeros (gap 8 at)) (slice at (gap 8 at) bytes) (told_ok 11 (differs at (zeros (gap 8 at)) (slice at (gap 8 at) bytes)) x e)

gap_again : (bytes : List ℕ) (at : ℕ) → slice at (gap 8 at) bytes ≡ zeros (gap 8 at) → read_gap bytes at ≡ Ok tt
gap_again bytes at is = ap (λ (t : List ℕ). told 11 (differs at (zeros (gap 8 at)) t)) is ∙ ap (λ (byte : Option ℕ). told 11 byte) (differs_same at (zeros (gap 8 at)))

pub gaps_found : (bytes : List ℕ) (s : Sizes) (x : ⊤) → read_gaps bytes s ≡ Ok x → AreGaps bytes s
unfolding read_gaps
gaps_found bytes s x e =
    let a = and_then_ok (read_gap bytes (text_end s)) (λ _. and_then (read_gap bytes (frames_end s)) (λ _. and_then (read_gap bytes (exits_end s)) (λ _. read_gap bytes (parts_end s)))) x e in
    let b = and_then_ok (read_gap bytes (frames_end s)) (λ _. and_then (read_gap bytes (exits_end s)) (λ _. read_gap bytes (parts_end s))) x a.2 in
    let c = and_then_ok (read_gap bytes (exits_end s)) (λ _. read_gap bytes (parts_end s)) x b.2 in
    record { text = gap_found bytes (text_end s) a.0 a.1; frames = gap_found bytes (frames_end s) b.0 b.1; exits = gap_found bytes (exits_end s) c.0 c.1; last = gap_found bytes (parts_end s) x c.2 }

pub gaps_again : (bytes : List ℕ) (s : Sizes) → AreGaps bytes s → read_gaps bytes s ≡ Ok tt
unfolding read_gaps
gaps_again bytes s are = rw (gap_again bytes (text_end s) are.text, gap_again bytes (frames_end s) are.frames, gap_again bytes (exits_end s) are.exits, gap_again bytes (parts_end s) are.last) refl

-- ---- tables

pub lengths_are : (symbols : List Symbol) → lengths_of (extents_of symbols) ≡ text_sizes symbols
lengths_are [] = refl
lengths_are (symbol ∷ symbols) = ap (λ (t : List ℕ). symbol.size ∷ t) (lengths_are symbols)

joined : (from to : ℕ) (symbols : List Symbol) → Fills from to symbols → AreJoined from (extents_of symbols)
joined from to [] fills = tt
joined from to (symbol ∷ symbols) fills = (fills.0, joined (from + symbol.size) to symbols fills.3)

pub extents_are : (text : ℕ) (symbols : List Symbol) → Fills 0 text symbols → text < 2 ^ 26 → AreExtents (extents_of symbols)
extents_are text symbols fills few =
    record {
      joined = joined 0 text symbols fills;
      sizes = subst AreTextSizes (sym (lengths_are symbols)) (record { each = All-from_recursion _ _ (fills_each 0 text symbols fills); total = omega (arith, fills_sum 0 text symbols fills) });
    }

pub told_tables : (s : Sizes) (read : Result Tables TableFault) (tables : Tables) → tables_told s read ≡ Ok tables → read ≡ Ok tables
told_tables s (Ok x) tables e = let same : x ≡ tables = ok_is x tables e in let ok : Tables → Result Tables TableFault = λ t. Ok t in ap ok same
told_tables s (Err (table.Frames code byte)) tables e = absurd cc
told_tables s (Err (table.Exits code byte)) tables e = absurd cc
told_tables s (Err table.NoMemory) tables e = absurd cc

blr_found : (word : ℕ) → is_blr word ≡ true → IsBlr word
blr_found word e =
    let p = and_parts (leb 0xD63F0000 word && leb word 0xD63F03E0) (eqb (word % 32) 0) e in
    let q = and_parts (leb 0xD63F0000 word) (leb word 0xD63F03E0) p.0 in
    let low : 0xD63F0000 ≤ word = leb-true 0xD63F0000 word q.0 in
    let high : word ≤ 0xD63F03E0 = leb-true word 0xD63F03E0 q.1 in
    let whole : word % 32 ≡ 0 = eqb-true (word % 32) 0 p.1 in
    ((word - 0xD63F0000) / 32, omega arith, omega arith)

blr_again : (word : ℕ) → IsBlr word → is_blr word ≡ true
blr_again word is =
    let r : ℕ = is.0 in
    let most : r ≤ 31 = is.1 in
    let word_is : word ≡ 0xD63F0000 + 32 * r = is.2 in
    let low : leb 0xD63F0000 word ≡ true = le-leb 0xD63F0000 word (omega arith) in
    let high : leb word 0xD63F03E0 ≡ true = le-leb word 0xD63F03E0 (omega arith) in
    let whole : eqb (word % 32) 0 ≡ true = eq-eqb (word % 32) 0 (omega arith) in
    rw (low, high, whole) refl

word_found : (kind : SiteKind) (word : ℕ) → is_word_of kind word ≡ true → IsWordOf kind word
word_found Call word e = blr_found word e
word_found Exit word e = eqb-true word 0xD4200020 e
word_found Patchpoint word e = tt
word_found Trap word e = tt

word_again : (kind : SiteKind) (word : ℕ) → IsWordOf kind word → is_word_of kind word ≡ true
word_again Call word is = blr_again word is
word_again Exit word is = eq-eqb word 0xD4200020 is
word_again Patchpoint word is = refl
word_again Trap word is = refl

some_found : (kind : SiteKind) (word : Option ℕ) → some_word kind word ≡ true → IsSomeAnd word (IsWordOf kind)
some_found kind None e = absurd cc
some_found kind (Some word) e = word_found kind word e

some_again : (kind : SiteKind) (word : Option ℕ) → IsSomeAnd word (IsWordOf kind) → some_word kind word ≡ true
some_again kind None is = absurd is
some_again kind (Some word) is = word_again kind word is

words_ok : (b : Bool) (then : Option ℕ) (at : ℕ) → cond b then (Some at) ≡ None → (b ≡ true) × (then ≡ None)
words_ok true then at e = (refl, e)
words_ok false then at e = absurd cc

pub words_found : (at : ℕ) (text : List ℕ) (rows : List SiteRow) → words_fault at text rows ≡ None → AllByRecursion (HasItsWord text) rows
words_found at text [] e = tt
words_found at text (row ∷ rows) e =
    let p = words_ok (some_word row.site.kind (slice_get text (row.pc / 4))) (words_fault (at + 32 + 16 * length row.site.reps) text rows) at e in
    (some_found row.site.kind (slice_get text (row.pc / 4)) p.0, words_found (at + 32 + 16 * length row.site.reps) text rows p.1)

pub words_again : (at : ℕ) (text : List ℕ) (rows : List SiteRow) → AllByRecursion (HasItsWord text) rows → words_fault at text rows ≡ None
words_again at text [] all = refl
words_again at text (row ∷ rows) all =
    let is : some_word row.site.kind (slice_get text (row.pc / 4)) ≡ true = some_again row.site.kind (slice_get text (row.pc / 4)) all.0 in
    rw is (words_again (at + 32 + 16 * length row.site.reps) text rows all.1)
