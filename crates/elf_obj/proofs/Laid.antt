-- The parts of a file one behind the other: where the bytes say each part, they are the file, and the other way round.
use Rattle.std.proofs.Common.{◌≡◌, ℕ, ◌+◌, ◌-◌, ◌%◌, List, [], ◌∷◌, ◌++◌, length, take, drop, replicate, refl, sym, ap, ◌∙◌, append_assoc, length-append, arith}
use Rattle.std.proofs.lemmas.List.{take-append-drop, take_at, drop_at, drop-drop, length-replicate, append-nil}
use Rattle.b3_base.specs.Fields.{words, xwords}
use Rattle.exit_table.specs.Spelling.{frame_section, exit_section}
use Rattle.elf_obj.specs.declared.object.Object.{Object}
use Rattle.elf_obj.specs.declared.section.Section.{Section}
use Rattle.elf_obj.specs.declared.layout.Sizes.{Sizes}
use Rattle.elf_obj.specs.Good.{names_of}
use Rattle.elf_obj.specs.Sections.{gap, zeros, start_of, contents, section_header, section_headers}
use Rattle.elf_obj.specs.Elf.{section, string_table, symbol_table, section_names, name_of, sections_of, file_header, contents_of, contents_end, encode}
use Rattle.elf_obj.specs.Fields.{slice}
use Rattle.elf_obj.specs.Reading.{next_8, text_end, frames_start, frames_end, exits_start, exits_end, symbols_start, names_start, section_names_start, parts_end}
use Rattle.elf_obj.proofs.Sizes.{length_file_header}

pub peel : (a n : ℕ) (bytes p rest : List ℕ) → drop a bytes ≡ p ++ rest → length p ≡ n → (slice a n bytes ≡ p) × (drop (a + n) bytes ≡ rest)
peel a n bytes p rest is long =
    (ap (λ (t : List ℕ). take n t) is ∙ take_at p rest n long, sym (drop-drop n a bytes) ∙ ap (λ (t : List ℕ). drop n t) is ∙ drop_at p rest n long)

pub glue : (a n : ℕ) (bytes p rest : List ℕ) → slice a n bytes ≡ p → drop (a + n) bytes ≡ rest → drop a bytes ≡ p ++ rest
glue a n bytes p rest is behind =
    sym (take-append-drop n (drop a bytes)) ∙ ap (λ (t : List ℕ). t ++ drop n (drop a bytes)) is ∙ ap (λ (t : List ℕ). p ++ t) (drop-drop n a bytes ∙ behind)

-- how large the sections of an object are
abbrev pub sizes_of : Object → Sizes
sizes_of o =
    record {
      text = length (words o.text);
      frames = length (frame_section o.tables);
      exits = length (exit_section o.tables);
      symbols = length (symbol_table o.symbols);
      names = length (string_table (names_of o.symbols));
      section_names = length (string_table section_names);
    }

-- the header of a section of so many bytes
unfoldable pub row_bytes : ℕ → ℕ → ℕ → ℕ → ℕ → ℕ → ℕ → ℕ → ℕ → List ℕ
row_bytes name kind flags link info align entsize start size =
    words (name ∷ kind ∷ []) ++ xwords (flags ∷ 0 ∷ start ∷ size ∷ []) ++ words (link ∷ info ∷ []) ++ xwords (align ∷ entsize ∷ [])

-- the section headers of sections with these sizes
unfoldable pub table_bytes : Sizes → List ℕ
table_bytes s =
    zeros 64
    ++ (row_bytes (name_of 0) 1 6 0 0 4 0 64 s.text
    ++ (row_bytes (name_of 1) 1 0 0 0 8 0 (frames_start s) s.frames
    ++ (row_bytes (name_of 2) 1 0 0 0 8 0 (exits_start s) s.exits
    ++ (row_bytes (name_of 3) 2 0 5 1 8 24 (symbols_start s) s.symbols
    ++ (row_bytes (name_of 4) 3 0 0 0 1 0 (names_start s) s.names
    ++ row_bytes (name_of 5) 3 0 0 0 1 0 (section_names_start s) s.section_names)))))

-- what the parts of the file of an object are
pub record AreParts (bytes : List ℕ) (s : Sizes) (o : Object) : Type 0 where
  pub header : slice 0 64 bytes ≡ file_header (next_8 (parts_end s))
  pub text : slice 64 s.text bytes ≡ words o.text
  pub text_gap : slice (text_end s) (gap 8 (text_end s)) bytes ≡ zeros (gap 8 (text_end s))
  pub frames : slice (frames_start s) s.frames bytes ≡ frame_section o.tables
  pub frames_gap : slice (frames_end s) (gap 8 (frames_end s)) bytes ≡ zeros (gap 8 (frames_end s))
  pub exits : slice (exits_start s) s.exits bytes ≡ exit_section o.tables
  pub exits_gap : slice (exits_end s) (gap 8 (exits_end s)) bytes ≡ zeros (gap 8 (exits_end s))
  pub symbols : slice (symbols_start s) s.symbols bytes ≡ symbol_table o.symbols
  pub names : slice (names_start s) s.names bytes ≡ string_table (names_of o.symbols)
  pub section_names : slice (section_names_start s) s.section_names bytes ≡ string_table section_names
  pub gap : slice (parts_end s) (gap 8 (parts_end s)) bytes ≡ zeros (gap 8 (parts_end s))
  pub table : drop (next_8 (parts_end s)) bytes ≡ table_bytes s

-- the sections one behind the other
abbrev pub between : Sizes → Object → List ℕ → List ℕ
between s o rest =
    words o.text
    ++ (zeros (gap 8 (text_end s))
    ++ (frame_section o.tables
    ++ (zeros (gap 8 (frames_end s))
    ++ (exit_section o.tables
    ++ (zeros (gap 8 (exits_end s))
    ++ (symbol_table o.symbols
    ++ (string_table (names_of o.symbols)
    ++ (string_table section_names
    ++ rest))))))))

-- the parts one behind the other
abbrev pub laid : Sizes → Object → List ℕ
laid s o = file_header (next_8 (parts_end s)) ++ between s o (zeros (gap 8 (parts_end s)) ++ table_bytes s)

no_gap : (at : ℕ) → gap 1 at ≡ 0
no_gap at = omega arith

-- a section that is aligned to 1 has no gap before it
contents_1 : (at : ℕ) (s : Section) (rest : List Section) → s.align ≡ 1 → contents at (s ∷ rest) ≡ s.bytes ++ contents (at + length s.bytes) rest
contents_1 at s rest one =
    let none : gap s.align at ≡ 0 = ap (λ (n : ℕ). gap n at) one ∙ no_gap at in
    let here : start_of at s ≡ at = omega (arith, none) in
    ap (λ (n : ℕ). zeros n ++ s.bytes ++ contents (start_of at s + length s.bytes) rest) none ∙ ap (λ (n : ℕ). s.bytes ++ contents (n + length s.bytes) rest) here

headers_1 : (at : ℕ) (s : Section) (rest : List Section) → s.align ≡ 1 → section_headers at (s ∷ rest) ≡ section_header at s ++ section_headers (at + length s.bytes) rest
headers_1 at s rest one =
    let none : gap s.align at ≡ 0 = ap (λ (n : ℕ). gap n at) one ∙ no_gap at in
    let here : start_of at s ≡ at = omega (arith, none) in
    ap (λ (n : ℕ). section_header n s ++ section_headers (n + length s.bytes) rest) here

names_section : Object → Section
names_section o = section (name_of 4) 3 0 0 0 1 0 (string_table (names_of o.symbols))

section_names_section : Section
section_names_section = section (name_of 5) 3 0 0 0 1 0 (string_table section_names)

regroup : (t g1 f g2 e g3 y n s : List ℕ) → t ++ ((g1 ++ f) ++ ((g2 ++ e) ++ ((g3 ++ y) ++ (n ++ (s ++ []))))) ≡ t ++ (g1 ++ (f ++ (g2 ++ (e ++ (g3 ++ (y ++ (n ++ (s ++ []))))))))
regroup t g1 f g2 e g3 y n s = simp append_assoc

-- the bytes of the sections of an object
contents_are : (o : Object) → contents 64 (sections_of o) ≡ between (sizes_of o) o []
unfolding sections_of names_section section_names_section
contents_are o =
    let s = sizes_of o in
    let last : contents (section_names_start s) (section_names_section ∷ []) ≡ string_table section_names ++ [] = contents_1 (section_names_start s) section_names_section [] refl in
    let two : contents (names_start s) (names_section o ∷ section_names_section ∷ []) ≡ string_table (names_of o.symbols) ++ (string_table section_names ++ []) =
    contents_1 (names_start s) (names_section o) (section_names_section ∷ []) refl ∙ ap (λ (t : List ℕ). string_table (names_of o.symbols) ++ t) last in
    ap (λ (t : List ℕ). words o.text ++ ((zeros (gap 8 (text_end s)) ++ frame_section o.tables) ++ ((zeros (gap 8 (frames_end s)) ++ exit_section o.tables) ++ ((zeros (gap 8 (exits_end s)) ++ symbol_table o.symbols) ++ t)))) two
    ∙ regroup (words o.text) (zeros (gap 8 (text_end s))) (frame_section o.tables) (zeros (gap 8 (frames_end s))) (exit_section o.tables) (zeros (gap 8 (exits_end s))) (symbol_table o.symbols) (string_table (names_of o.symbols)) (string_table section_names)

headers_are : (o : Object) → zeros 64 ++ section_headers 64 (sections_of o) ≡ table_bytes (sizes_of o)
unfolding sections_of table_bytes row_bytes section_header names_section section_names_section words xwords name_of symbol_table frame_section string_table exit_section
headers_are o =
    let s = sizes_of o in
    let row : ℕ → Section → List ℕ = λ start x. row_bytes x.name x.kind x.flags x.link x.info x.align x.entsize start (length x.bytes) in
    let last : section_headers (section_names_start s) (section_names_section ∷ []) ≡ row (section_names_start s) section_names_section =
    headers_1 (section_names_start s) section_names_section [] refl ∙ append-nil (row (section_names_start s) section_names_section) in
    let two : section_headers (names_start s) (names_section o ∷ section_names_section ∷ []) ≡ row (names_start s) (names_section o) ++ row (section_names_start s) section_names_section =
    headers_1 (names_start s) (names_section o) (section_names_section ∷ []) refl ∙ ap (λ (t : List ℕ). row (names_start s) (names_section o) ++ t) last in
    ap (λ (t : List ℕ). zeros 64
    ++ (row_bytes (name_of 0) 1 6 0 0 4 0 64 s.text
    ++ (row_bytes (name_of 1) 1 0 0 0 8 0 (frames_start s) s.frames
    ++ (row_bytes (name_of 2) 1 0 0 0 8 0 (exits_start s) s.exits
    ++ (row_bytes (name_of 3) 2 0 5 1 8 24 (symbols_start s) s.symbols
    ++ t))))) two

length_between : (s : Sizes) (o : Object) → s ≡ sizes_of o → 64 + length (between s o []) ≡ parts_end s
length_between s o are = rw are (simp (length-append, length-replicate) (omega arith))

-- where the sections of an object end
ends_at : (o : Object) → contents_end o ≡ parts_end (sizes_of o)
ends_at o = ap (λ (t : List ℕ). 64 + length t) (contents_are o) ∙ length_between (sizes_of o) o refl

assemble : (h b g z t : List ℕ) → h ++ b ++ g ++ z ++ t ≡ h ++ (b ++ (g ++ (z ++ t)))
assemble h b g z t = simp append_assoc

between_behind : (s : Sizes) (o : Object) (rest : List ℕ) → between s o [] ++ rest ≡ between s o rest
between_behind s o rest = simp (append_assoc, append-nil)

pub encode_laid : (o : Object) → encode o ≡ laid (sizes_of o) o
unfolding encode
encode_laid o =
    let s = sizes_of o in
    let g : List ℕ = zeros (gap 8 (contents_end o)) in
    let header : List ℕ = file_header (contents_end o + gap 8 (contents_end o)) in
    assemble header (contents_of o) g (zeros 64) (section_headers 64 (sections_of o))
    ∙ ap (λ (t : List ℕ). header ++ (contents_of o ++ (g ++ t))) (headers_are o)
    ∙ ap (λ (t : List ℕ). header ++ (t ++ (g ++ table_bytes s))) (contents_are o)
    ∙ ap (λ (t : List ℕ). header ++ t) (between_behind s o (g ++ table_bytes s))
    ∙ ap (λ (n : ℕ). file_header (n + gap 8 n) ++ between s o (zeros (gap 8 n) ++ table_bytes s)) (ends_at o)

-- where the bytes are those parts, they are the file
pub are_laid : (bytes : List ℕ) (s : Sizes) (o : Object) → AreParts bytes s o → bytes ≡ laid s o
are_laid bytes s o p =
    let g = glue (parts_end s) (gap 8 (parts_end s)) bytes _ _ p.gap p.table in
    let n = glue (section_names_start s) s.section_names bytes _ _ p.section_names g in
    let m = glue (names_start s) s.names bytes _ _ p.names n in
    let y = glue (symbols_start s) s.symbols bytes _ _ p.symbols m in
    let g3 = glue (exits_end s) (gap 8 (exits_end s)) bytes _ _ p.exits_gap y in
    let e = glue (exits_start s) s.exits bytes _ _ p.exits g3 in
    let g2 = glue (frames_end s) (gap 8 (frames_end s)) bytes _ _ p.frames_gap e in
    let f = glue (frames_start s) s.frames bytes _ _ p.frames g2 in
    let g1 = glue (text_end s) (gap 8 (text_end s)) bytes _ _ p.text_gap f in
    let t = glue 64 s.text bytes _ _ p.text g1 in
    glue 0 64 bytes _ _ p.header t

-- the bytes of a file are those parts
pub laid_are : (bytes : List ℕ) (o : Object) → bytes ≡ laid (sizes_of o) o → AreParts bytes (sizes_of o) o
laid_are bytes o is =
    let s = sizes_of o in
    let h = peel 0 64 bytes _ _ is (length_file_header (next_8 (parts_end s))) in
    let t = peel 64 s.text bytes _ _ h.1 refl in
    let g1 = peel (text_end s) (gap 8 (text_end s)) bytes _ _ t.1 (length-replicate (gap 8 (text_end s)) 0) in
    let f = peel (frames_start s) s.frames bytes _ _ g1.1 refl in
    let g2 = peel (frames_end s) (gap 8 (frames_end s)) bytes _ _ f.1 (length-replicate (gap 8 (frames_end s)) 0) in
    let e = peel (exits_start s) s.exits bytes _ _ g2.1 refl in
    let g3 = peel (exits_end s) (gap 8 (exits_end s)) bytes _ _ e.1 (length-replicate (gap 8 (exits_end s)) 0) in
    let y = peel (symbols_start s) s.symbols bytes _ _ g3.1 refl in
    let m = peel (names_start s) s.names bytes _ _ y.1 refl in
    let n = peel (section_names_start s) s.section_names bytes _ _ m.1 refl in
    let g = peel (parts_end s) (gap 8 (parts_end s)) bytes _ _ n.1 (length-replicate (gap 8 (parts_end s)) 0) in
    record {
      header = h.0;
      text = t.0;
      text_gap = g1.0;
      frames = f.0;
      frames_gap = g2.0;
      exits = e.0;
      exits_gap = g3.0;
      symbols = y.0;
      names = m.0;
      section_names = n.0;
      gap = g.0;
      table = g.1;
    }
