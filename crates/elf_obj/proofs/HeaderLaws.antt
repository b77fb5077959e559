-- What is read from the file header and the section headers.
use Rattle.std.proofs.Common.{◌≡◌, ℕ, ◌+◌, ◌*◌, ◌%◌, ◌<◌, ◌≤◌, ◌^◌, Bool, true, false, cond, eqb, ltb, List, [], ◌∷◌, ◌++◌, Option, Some, None, Result, Ok, Err, length, take, drop, refl, sym, ap, subst, ◌∙◌, append_assoc, length-append, arith}
use Rattle.std.specs.Prelude.{◌&&◌, ◌||◌, not, ⊤}
use Rattle.std.specs.Int.{w64, from_le_bytes, to_le_bytes}
use Rattle.std.proofs.lemmas.Bool.{eqb-true, eq-eqb, and_parts, lt-ltb, ltb-true, ltb-false}
use Rattle.std.proofs.lemmas.Nat.{from_le_bytes-to_le_bytes_8}
use Rattle.std.proofs.lemmas.List.{drop-drop, drop-take, take-take, length-drop, nil_from_length, append-nil}
use Rattle.b3_base.specs.Fields.{halves, words, xwords}
use Rattle.elf_obj.specs.declared.field.Number.TheVariants.{Word, Long}
use Rattle.elf_obj.specs.declared.field.Field.{Field}
use Rattle.elf_obj.specs.declared.layout.Sizes.{Sizes}
use Rattle.elf_obj.specs.declared.fault.ObjectFault.{ObjectFault}
use Rattle.elf_obj.specs.declared.fault.ObjectFault.TheVariants.{Bad}
use Rattle.elf_obj.specs.Elf.{file_header, name_of}
use Rattle.elf_obj.specs.Sections.{zeros}
use Rattle.elf_obj.specs.Fields.{slice, wanted, offset, fields_fault, differs, and_then, told}
use Rattle.elf_obj.specs.Reading.{long_at, headers_start, header_fault, is_start, start_read, read_start, sizes_at, next_8, frames_start, exits_start, symbols_start, names_start, section_names_start, parts_end, header_fields, is_text_size, is_symbols_size, all_header_fields, read_sizes}
use Rattle.elf_obj.proofs.FieldRules.{spelled, all_good, spelled_append, good_append, good_both, AreMet, fields_none, fields_again, differs_none, differs_same, offset_small, offset_good}
use Rattle.elf_obj.proofs.Laid.{row_bytes, table_bytes}

abbrev sizes : ℕ → ℕ → ℕ → ℕ → ℕ → ℕ → Sizes
sizes a b c d e f = record { text = a; frames = b; exits = c; symbols = d; names = e; section_names = f }

-- the number that 8 bytes spell
pub long_is : (n : ℕ) → n < 2 ^ 64 → from_le_bytes w64 (to_le_bytes w64 n) ≡ n
long_is n small = from_le_bytes-to_le_bytes_8 n small

-- the value of a step that did not fail
pub and_then_ok : {A B : Type 0} (r : Result A ObjectFault) (f : A → Result B ObjectFault) (y : B) → and_then r f ≡ Ok y → (x : A) × (r ≡ Ok x) × (f x ≡ Ok y)
and_then_ok (Ok x) f y e = (x, refl, e)
and_then_ok (Err d) f y e = absurd cc

abbrev done : {A : Type 0} → A → Result A ObjectFault
done x = Ok x

pub ok_is : {A : Type 0} (x y : A) → done x ≡ done y → x ≡ y
ok_is x y e = cc

pub told_ok : (code : ℕ) (byte : Option ℕ) (x : ⊤) → told code byte ≡ Ok x → byte ≡ None
told_ok code None x e = refl
told_ok code (Some byte) x e = absurd cc

-- a condition that was met, and a fault where it wasn't
pub cond_ok : {A : Type 0} (b : Bool) (then : Result A ObjectFault) (fault : ObjectFault) (y : A) → cond b then (Err fault) ≡ Ok y → (b ≡ true) × (then ≡ Ok y)
cond_ok true then fault y e = (refl, e)
cond_ok false then fault y e = absurd cc

pub cond_not : {A : Type 0} (b : Bool) (fault : ObjectFault) (other : Result A ObjectFault) (y : A) → cond b (Err fault) other ≡ Ok y → (b ≡ false) × (other ≡ Ok y)
cond_not true fault other y e = absurd cc
cond_not false fault other y e = (refl, e)

-- ---- the file header

pub record IsStart (bytes : List ℕ) (start : ℕ) : Type 0 where
  pub header : slice 0 64 bytes ≡ file_header start
  pub aligned : start % 8 ≡ 0
  pub ends : start + 448 ≡ length bytes

start_read_ok : (bytes : List ℕ) (start : ℕ) (byte : Option ℕ) (x : ℕ) → start_read bytes start byte ≡ Ok x → (byte ≡ None) × (is_start bytes start ≡ true) × (start ≡ x)
start_read_ok bytes start None x e =
    let p = cond_ok (is_start bytes start) (Ok start) (Bad 7 40) x e in
    (refl, p.0, ok_is start x p.1)
start_read_ok bytes start (Some byte) x e = absurd cc

pub start_found : (bytes : List ℕ) (start : ℕ) → read_start bytes ≡ Ok start → IsStart bytes start
unfolding read_start
start_found bytes start e =
    let short = cond_not (ltb (length bytes) 64) (Bad 1 (length bytes)) (start_read bytes (headers_start bytes) (differs 0 (file_header (headers_start bytes)) (take 64 bytes))) start e in
    let p = start_read_ok bytes (headers_start bytes) (differs 0 (file_header (headers_start bytes)) (take 64 bytes)) start short.1 in
    let same : take 64 bytes ≡ file_header (headers_start bytes) = differs_none 0 (file_header (headers_start bytes)) (take 64 bytes) p.0 in
    let q = and_parts (eqb (headers_start bytes % 8) 0) (eqb (headers_start bytes + 448) (length bytes)) p.1 in
    let is : headers_start bytes ≡ start = p.2 in
    record {
      header = same ∙ ap file_header is;
      aligned = ap (λ (n : ℕ). n % 8) (sym is) ∙ eqb-true (headers_start bytes % 8) 0 q.0;
      ends = ap (λ (n : ℕ). n + 448) (sym is) ∙ eqb-true (headers_start bytes + 448) (length bytes) q.1;
    }

shoff_in : (start : ℕ) → take 8 (drop 40 (file_header start)) ≡ to_le_bytes w64 start
unfolding file_header halves words xwords
shoff_in start = refl

pub start_again : (bytes : List ℕ) (start : ℕ) → IsStart bytes start → start < 2 ^ 64 → read_start bytes ≡ Ok start
unfolding read_start
start_again bytes start is small =
    let header : take 64 bytes ≡ file_header start = is.header in
    let eight : take 8 (drop 40 bytes) ≡ take 8 (drop 40 (take 64 bytes)) = sym (take-take 8 24 (drop 40 bytes) (omega arith)) ∙ ap (λ (t : List ℕ). take 8 t) (sym (drop-take 40 24 bytes)) in
    let shoff : headers_start bytes ≡ start = ap (λ (t : List ℕ). from_le_bytes w64 t) (eight ∙ ap (λ (t : List ℕ). take 8 (drop 40 t)) header ∙ shoff_in start) ∙ long_is start small in
    let long : ltb (length bytes) 64 ≡ false = grind (arith, is.ends) in
    rw (long, shoff, header, differs_same 0 (file_header start), is.aligned, is.ends, eq-eqb (length bytes) (length bytes) refl) refl

-- ---- the section headers

-- the sizes are numbers of 64 bits
pub record AreSmallSizes (s : Sizes) : Type 0 where
  pub text : s.text < 2 ^ 64
  pub frames : s.frames < 2 ^ 64
  pub exits : s.exits < 2 ^ 64
  pub symbols : s.symbols < 2 ^ 64
  pub names : s.names < 2 ^ 64
  pub section_names : s.section_names < 2 ^ 64

pub same_sizes : (a b c d e f : ℕ) (s : Sizes) → a ≡ s.text → b ≡ s.frames → c ≡ s.exits → d ≡ s.symbols → e ≡ s.names → f ≡ s.section_names
    → sizes a b c d e f ≡ s
same_sizes a b c d e f s p q r t u v = rw (p, q, r, t, u, v) refl

row_spelled : (name kind flags link info align entsize start size : ℕ) (good : Bool) → start < 2 ^ 64 → spelled (header_fields name kind flags link info align entsize start size good) ≡ row_bytes name kind flags link info align entsize start size
unfolding row_bytes words xwords
row_spelled name kind flags link info align entsize start size good small = rw (offset_small start small) refl

null_spelled : spelled (header_fields 0 0 0 0 0 0 0 0 0 true) ≡ zeros 64
unfolding words xwords
null_spelled = refl

-- the starts of the sections are below 2^64
pub record HasSmallStarts (s : Sizes) : Type 0 where
  pub frames : frames_start s < 2 ^ 64
  pub exits : exits_start s < 2 ^ 64
  pub symbols : symbols_start s < 2 ^ 64
  pub names : names_start s < 2 ^ 64
  pub section_names : section_names_start s < 2 ^ 64

seven : (a b c d e f g : List Field) → spelled (a ++ b ++ c ++ d ++ e ++ f ++ g) ≡ spelled a ++ (spelled b ++ (spelled c ++ (spelled d ++ (spelled e ++ (spelled f ++ spelled g)))))
seven a b c d e f g = simp (spelled_append, append_assoc)

abbrev null_row : List Field
null_row = header_fields 0 0 0 0 0 0 0 0 0 true

abbrev text_row : Sizes → List Field
text_row s = header_fields (name_of 0) 1 6 0 0 4 0 64 s.text (is_text_size s)

abbrev frames_row : Sizes → List Field
frames_row s = header_fields (name_of 1) 1 0 0 0 8 0 (frames_start s) s.frames true

abbrev exits_row : Sizes → List Field
exits_row s = header_fields (name_of 2) 1 0 0 0 8 0 (exits_start s) s.exits true

abbrev symbols_row : Sizes → List Field
symbols_row s = header_fields (name_of 3) 2 0 5 1 8 24 (symbols_start s) s.symbols (is_symbols_size s)

abbrev names_row : Sizes → List Field
names_row s = header_fields (name_of 4) 3 0 0 0 1 0 (names_start s) s.names true

abbrev section_names_row : ℕ → Sizes → List Field
section_names_row start s = header_fields (name_of 5) 3 0 0 0 1 0 (section_names_start s) s.section_names (eqb (next_8 (parts_end s)) start)

pub table_spelled : (start : ℕ) (s : Sizes) → HasSmallStarts s → spelled (all_header_fields start s) ≡ table_bytes s
unfolding all_header_fields table_bytes
table_spelled start s small =
    let text : spelled (text_row s) ≡ row_bytes (name_of 0) 1 6 0 0 4 0 64 s.text = row_spelled (name_of 0) 1 6 0 0 4 0 64 s.text (is_text_size s) (omega arith) in
    let frames : spelled (frames_row s) ≡ row_bytes (name_of 1) 1 0 0 0 8 0 (frames_start s) s.frames = row_spelled (name_of 1) 1 0 0 0 8 0 (frames_start s) s.frames true small.frames in
    let exits : spelled (exits_row s) ≡ row_bytes (name_of 2) 1 0 0 0 8 0 (exits_start s) s.exits = row_spelled (name_of 2) 1 0 0 0 8 0 (exits_start s) s.exits true small.exits in
    let symbols : spelled (symbols_row s) ≡ row_bytes (name_of 3) 2 0 5 1 8 24 (symbols_start s) s.symbols = row_spelled (name_of 3) 2 0 5 1 8 24 (symbols_start s) s.symbols (is_symbols_size s) small.symbols in
    let names : spelled (names_row s) ≡ row_bytes (name_of 4) 3 0 0 0 1 0 (names_start s) s.names = row_spelled (name_of 4) 3 0 0 0 1 0 (names_start s) s.names true small.names in
    let last : spelled (section_names_row start s) ≡ row_bytes (name_of 5) 3 0 0 0 1 0 (section_names_start s) s.section_names = row_spelled (name_of 5) 3 0 0 0 1 0 (section_names_start s) s.section_names (eqb (next_8 (parts_end s)) start) small.section_names in
    seven null_row (text_row s) (frames_row s) (exits_row s) (symbols_row s) (names_row s) (section_names_row start s)
    ∙ ap (λ (t : List ℕ). t ++ (spelled (text_row s) ++ (spelled (frames_row s) ++ (spelled (exits_row s) ++ (spelled (symbols_row s) ++ (spelled (names_row s) ++ spelled (section_names_row start s))))))) null_spelled
    ∙ ap (λ (t : List ℕ). zeros 64 ++ (t ++ (spelled (frames_row s) ++ (spelled (exits_row s) ++ (spelled (symbols_row s) ++ (spelled (names_row s) ++ spelled (section_names_row start s))))))) text
    ∙ ap (λ (t : List ℕ). zeros 64 ++ (row_bytes (name_of 0) 1 6 0 0 4 0 64 s.text ++ (t ++ (spelled (exits_row s) ++ (spelled (symbols_row s) ++ (spelled (names_row s) ++ spelled (section_names_row start s))))))) frames
    ∙ ap (λ (t : List ℕ). zeros 64 ++ (row_bytes (name_of 0) 1 6 0 0 4 0 64 s.text ++ (row_bytes (name_of 1) 1 0 0 0 8 0 (frames_start s) s.frames ++ (t ++ (spelled (symbols_row s) ++ (spelled (names_row s) ++ spelled (section_names_row start s))))))) exits
    ∙ ap (λ (t : List ℕ). zeros 64 ++ (row_bytes (name_of 0) 1 6 0 0 4 0 64 s.text ++ (row_bytes (name_of 1) 1 0 0 0 8 0 (frames_start s) s.frames ++ (row_bytes (name_of 2) 1 0 0 0 8 0 (exits_start s) s.exits ++ (t ++ (spelled (names_row s) ++ spelled (section_names_row start s))))))) symbols
    ∙ ap (λ (t : List ℕ). zeros 64 ++ (row_bytes (name_of 0) 1 6 0 0 4 0 64 s.text ++ (row_bytes (name_of 1) 1 0 0 0 8 0 (frames_start s) s.frames ++ (row_bytes (name_of 2) 1 0 0 0 8 0 (exits_start s) s.exits ++ (row_bytes (name_of 3) 2 0 5 1 8 24 (symbols_start s) s.symbols ++ (t ++ spelled (section_names_row start s))))))) names
    ∙ ap (λ (t : List ℕ). zeros 64 ++ (row_bytes (name_of 0) 1 6 0 0 4 0 64 s.text ++ (row_bytes (name_of 1) 1 0 0 0 8 0 (frames_start s) s.frames ++ (row_bytes (name_of 2) 1 0 0 0 8 0 (exits_start s) s.exits ++ (row_bytes (name_of 3) 2 0 5 1 8 24 (symbols_start s) s.symbols ++ (row_bytes (name_of 4) 3 0 0 0 1 0 (names_start s) s.names ++ t)))))) last

-- what the section headers say, where none of their fields is at fault
pub record AreSizes (bytes : List ℕ) (start : ℕ) (s : Sizes) : Type 0 where
  pub is : s ≡ sizes_at start bytes
  pub text : is_text_size s ≡ true
  pub symbols : is_symbols_size s ≡ true
  pub ends : next_8 (parts_end s) ≡ start
  pub small : HasSmallStarts s
  pub table : drop start bytes ≡ table_bytes s

pub table_length : (s : Sizes) → length (table_bytes s) ≡ 448
unfolding table_bytes row_bytes words xwords
table_length s = refl

row_good : (name kind flags link info align entsize start size : ℕ) (good : Bool) → all_good (header_fields name kind flags link info align entsize start size good) ≡ true → (start < 2 ^ 64) × (good ≡ true)
row_good name kind flags link info align entsize start size good e =
    let p = and_parts (offset start).good (good && true) e in
    (offset_good start p.0, (and_parts good true p.1).0)

all_rest : (n : ℕ) (whole front rest : List ℕ) → whole ≡ front ++ rest → length whole ≡ n → length front ≡ n → whole ≡ front
all_rest n whole front rest is all long =
    let none : length rest ≡ 0 = omega (arith, ap (λ (t : List ℕ). length t) is, length-append front rest) in
    is ∙ ap (λ (t : List ℕ). front ++ t) (nil_from_length rest none) ∙ append-nil front

pub sizes_found : (bytes : List ℕ) (start : ℕ) (s : Sizes) → start + 448 ≡ length bytes → read_sizes bytes start ≡ Ok s → AreSizes bytes start s
unfolding read_sizes all_header_fields
sizes_found bytes start s ends e =
    let z : Sizes = sizes_at start bytes in
    let a = and_then_ok (told 8 (fields_fault start (all_header_fields start z) (drop start bytes))) (λ _. Ok z) s e in
    let none = told_ok 8 (fields_fault start (all_header_fields start z) (drop start bytes)) a.0 a.1 in
    let is : z ≡ s = ok_is z s a.2 in
    let met = fields_none start (all_header_fields start z) (drop start bytes) none in
    let g6 = good_append (null_row ++ text_row z ++ frames_row z ++ exits_row z ++ symbols_row z ++ names_row z) (section_names_row start z) met.good in
    let g5 = good_append (null_row ++ text_row z ++ frames_row z ++ exits_row z ++ symbols_row z) (names_row z) g6.0 in
    let g4 = good_append (null_row ++ text_row z ++ frames_row z ++ exits_row z) (symbols_row z) g5.0 in
    let g3 = good_append (null_row ++ text_row z ++ frames_row z) (exits_row z) g4.0 in
    let g2 = good_append (null_row ++ text_row z) (frames_row z) g3.0 in
    let g1 = good_append null_row (text_row z) g2.0 in
    let text = row_good (name_of 0) 1 6 0 0 4 0 64 z.text (is_text_size z) g1.1 in
    let frames = row_good (name_of 1) 1 0 0 0 8 0 (frames_start z) z.frames true g2.1 in
    let exits = row_good (name_of 2) 1 0 0 0 8 0 (exits_start z) z.exits true g3.1 in
    let symbols = row_good (name_of 3) 2 0 5 1 8 24 (symbols_start z) z.symbols (is_symbols_size z) g4.1 in
    let names = row_good (name_of 4) 3 0 0 0 1 0 (names_start z) z.names true g5.1 in
    let last = row_good (name_of 5) 3 0 0 0 1 0 (section_names_start z) z.section_names (eqb (next_8 (parts_end z)) start) g6.1 in
    let small : HasSmallStarts z = record { frames = frames.0; exits = exits.0; symbols = symbols.0; names = names.0; section_names = last.0 } in
    let long : length (drop start bytes) ≡ 448 = omega (arith, length-drop start bytes) in
    let spelling : spelled (all_header_fields start z) ≡ table_bytes z = table_spelled start z small in
    let front : length (spelled (all_header_fields start z)) ≡ 448 = ap (λ (t : List ℕ). length t) spelling ∙ table_length z in
    subst (AreSizes bytes start) is (record {
      is = refl;
      text = text.1;
      symbols = symbols.1;
      ends = eqb-true (next_8 (parts_end z)) start last.1;
      small = small;
      table = all_rest 448 (drop start bytes) (spelled (all_header_fields start z)) met.rest met.bytes_are long front ∙ spelling;
    })

-- the sizes that a table of section headers says
sizes_in : (start : ℕ) (bytes : List ℕ) (s : Sizes) → drop start bytes ≡ table_bytes s → AreSmallSizes s → sizes_at start bytes ≡ s
unfolding table_bytes row_bytes words xwords
sizes_in start bytes s is small =
    let at : (k : ℕ) → long_at (start + k) bytes ≡ from_le_bytes w64 (take 8 (drop k (table_bytes s))) = λ k. ap (λ (t : List ℕ). from_le_bytes w64 (take 8 t)) (sym (drop-drop k start bytes) ∙ ap (λ (t : List ℕ). drop k t) is) in
    let text : long_at (start + 96) bytes ≡ s.text = at 96 ∙ long_is s.text small.text in
    let frames : long_at (start + 160) bytes ≡ s.frames = at 160 ∙ long_is s.frames small.frames in
    let exits : long_at (start + 224) bytes ≡ s.exits = at 224 ∙ long_is s.exits small.exits in
    let symbols : long_at (start + 288) bytes ≡ s.symbols = at 288 ∙ long_is s.symbols small.symbols in
    let names : long_at (start + 352) bytes ≡ s.names = at 352 ∙ long_is s.names small.names in
    let last : long_at (start + 416) bytes ≡ s.section_names = at 416 ∙ long_is s.section_names small.section_names in
    same_sizes _ _ _ _ _ _ s text frames exits symbols names last

pub sizes_again : (bytes : List ℕ) (start : ℕ) (s : Sizes) → drop start bytes ≡ table_bytes s → AreSmallSizes s → HasSmallStarts s → is_text_size s ≡ true → is_symbols_size s ≡ true → next_8 (parts_end s) ≡ start → read_sizes bytes start ≡ Ok s
unfolding read_sizes all_header_fields
sizes_again bytes start s table few small text symbols ends =
    let is : sizes_at start bytes ≡ s = sizes_in start bytes s table few in
    let good : all_good (all_header_fields start s) ≡ true =
    rw (text, symbols, ends, eq-eqb start start refl, offset_small (frames_start s) small.frames, offset_small (exits_start s) small.exits, offset_small (symbols_start s) small.symbols, offset_small (names_start s) small.names, offset_small (section_names_start s) small.section_names) refl in
    let none : fields_fault start (all_header_fields start s) (drop start bytes) ≡ None =
    ap (λ (t : List ℕ). fields_fault start (all_header_fields start s) t) (table ∙ sym (table_spelled start s small) ∙ sym (append-nil (spelled (all_header_fields start s)))) ∙ fields_again start (all_header_fields start s) [] good in
    let sized : Sizes → Option ℕ → Result Sizes ObjectFault = λ z byte. and_then (told 8 byte) (λ _. Ok z) in
    ap (λ (z : Sizes). sized z (fields_fault start (all_header_fields start z) (drop start bytes))) is ∙ ap (λ (byte : Option ℕ). sized s byte) none
