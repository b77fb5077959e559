-- Reading the file of an object: its first fault, by the number and the byte, or the object.
use Rattle.std.specs.Prelude.{ℕ, ◌+◌, ◌-◌, ◌*◌, ◌/◌, ◌%◌, ◌^◌, Bool, true, false, ◌&&◌, ◌||◌, not, ◌==◌, nat_lt, nat_le, bytes_eq, if◌then◌else◌, List, [], ◌∷◌, ◌++◌, Option, Some, None, zero, suc, length, map, take, drop, slice_get, Result, Ok, Err, ⊤}
use Rattle.std.specs.Int.{w64, from_le_bytes}
use Rattle.std.specs.List.{list_any, list_all}
use Rattle.b3_base.specs.Fields.{fields}
use Rattle.b3_base.specs.declared.range.Range.{Range}
use Rattle.stackmap.specs.declared.site.SiteKind.{SiteKind}
use Rattle.stackmap.specs.declared.site.SiteKind.TheVariants.{Call, Patchpoint, Exit, Trap}
use Rattle.exit_table.specs.declared.tables.SiteRow.{SiteRow}
use Rattle.exit_table.specs.declared.tables.Tables.{Tables}
use Rattle.exit_table.specs.declared.fault.TableFault.{TableFault}
use Rattle.exit_table.specs.declared.fault.TableFault.TheVariants as table
use Rattle.exit_table.specs.Read.{read_tables}
use Rattle.b3_ir.specs.Names.{begins_name, may_stand_in_name}
use Rattle.elf_obj.specs.Fields.{slice, differs, wanted, offset, position, fields_fault, and_then, told}
use Rattle.elf_obj.specs.Good.{names_of}
use Rattle.elf_obj.specs.Sections.{gap, zeros}
use Rattle.elf_obj.specs.Elf.{string_table, section_names, name_of, file_header}
use Rattle.elf_obj.specs.declared.object.Symbol.{Symbol}
use Rattle.elf_obj.specs.declared.object.Object.{Object}
use Rattle.elf_obj.specs.declared.field.Number.TheVariants.{Byte, Half, Word, Long}
use Rattle.elf_obj.specs.declared.field.Field.{Field}
use Rattle.elf_obj.specs.declared.layout.Sizes.{Sizes}
use Rattle.elf_obj.specs.declared.fault.ObjectFault.{ObjectFault}
use Rattle.elf_obj.specs.declared.fault.ObjectFault.TheVariants.{Bad, NoMemory}

-- ---- the file header

-- the number in the 8 bytes from a byte on
abbrev pub long_at : ℕ → List ℕ → ℕ
long_at at bytes = from_le_bytes w64 (slice at 8 bytes)

-- where the section headers begin, as e_shoff says
abbrev pub headers_start : List ℕ → ℕ
headers_start bytes = long_at 40 bytes

-- the fault of the file header of which this is the first byte that is another: of EI_MAG0 to EI_MAG3, of the rest of
-- e_ident, of e_type, of e_machine, and of the fields behind
abbrev pub header_fault : ℕ → ObjectFault
header_fault byte =
    if nat_lt byte 4 then Bad 2 byte
    else if nat_lt byte 16 then Bad 3 byte
    else if nat_lt byte 18 then Bad 4 16
    else if nat_lt byte 20 then Bad 5 18
    else Bad 6 byte

-- the section headers end the file
abbrev pub is_start : List ℕ → ℕ → Bool
is_start bytes start = (start % 8 == 0) && (start + 448 == length bytes)

abbrev pub start_read : List ℕ → ℕ → Option ℕ → Result ℕ ObjectFault
start_read bytes start None = if is_start bytes start then Ok start else Err (Bad 7 40)
start_read bytes start (Some byte) = Err (header_fault byte)

-- where the section headers begin
unfoldable pub read_start : List ℕ → Result ℕ ObjectFault
read_start bytes =
    if nat_lt (length bytes) 64 then Err (Bad 1 (length bytes))
    else start_read bytes (headers_start bytes) (differs 0 (file_header (headers_start bytes)) (take 64 bytes))

-- ---- the section headers

-- what sh_size says of the sections, by the section headers from a byte on
abbrev pub sizes_at : ℕ → List ℕ → Sizes
sizes_at start bytes =
    record {
      text = long_at (start + 96) bytes;
      frames = long_at (start + 160) bytes;
      exits = long_at (start + 224) bytes;
      symbols = long_at (start + 288) bytes;
      names = long_at (start + 352) bytes;
      section_names = long_at (start + 416) bytes;
    }

-- the next multiple of 8
abbrev pub next_8 : ℕ → ℕ
next_8 at = at + gap 8 at

-- where the sections begin and end. These sums are whole numbers and pass 2^64.
abbrev pub text_end : Sizes → ℕ
text_end sizes = 64 + sizes.text

abbrev pub frames_start : Sizes → ℕ
frames_start sizes = next_8 (text_end sizes)

abbrev pub frames_end : Sizes → ℕ
frames_end sizes = frames_start sizes + sizes.frames

abbrev pub exits_start : Sizes → ℕ
exits_start sizes = next_8 (frames_end sizes)

abbrev pub exits_end : Sizes → ℕ
exits_end sizes = exits_start sizes + sizes.exits

abbrev pub symbols_start : Sizes → ℕ
symbols_start sizes = next_8 (exits_end sizes)

abbrev pub names_start : Sizes → ℕ
names_start sizes = symbols_start sizes + sizes.symbols

abbrev pub section_names_start : Sizes → ℕ
section_names_start sizes = names_start sizes + sizes.names

abbrev pub parts_end : Sizes → ℕ
parts_end sizes = section_names_start sizes + sizes.section_names

-- the header of a section (ELF-64, "Section header"): sh_name, sh_type, sh_flags, sh_addr, sh_offset, sh_size, sh_link,
-- sh_info, sh_addralign, sh_entsize
abbrev pub header_fields : ℕ → ℕ → ℕ → ℕ → ℕ → ℕ → ℕ → ℕ → ℕ → Bool → List Field
header_fields name kind flags link info align entsize start size good =
    wanted (Word name)
    ∷ wanted (Word kind)
    ∷ wanted (Long flags)
    ∷ wanted (Long 0)
    ∷ offset start
    ∷ (record { number = Long size; good = good })
    ∷ wanted (Word link)
    ∷ wanted (Word info)
    ∷ wanted (Long align)
    ∷ wanted (Long entsize)
    ∷ []

-- whole words, below 2^26 bytes, and none where there is no procedure
abbrev pub is_text_size : Sizes → Bool
is_text_size sizes = (sizes.text % 4 == 0) && nat_lt sizes.text (2 ^ 26) && (not (sizes.symbols == 24) || (sizes.text == 0))

-- the undefined symbol, and whole entries
abbrev pub is_symbols_size : Sizes → Bool
is_symbols_size sizes = (sizes.symbols % 24 == 0) && nat_le 24 sizes.symbols

-- the section headers, of sections with these sizes. Those that begin at a byte begin where the parts end.
unfoldable pub all_header_fields : ℕ → Sizes → List Field
all_header_fields start sizes =
    header_fields 0 0 0 0 0 0 0 0 0 true
    ++ header_fields (name_of 0) 1 6 0 0 4 0 64 sizes.text (is_text_size sizes)
    ++ header_fields (name_of 1) 1 0 0 0 8 0 (frames_start sizes) sizes.frames true
    ++ header_fields (name_of 2) 1 0 0 0 8 0 (exits_start sizes) sizes.exits true
    ++ header_fields (name_of 3) 2 0 5 1 8 24 (symbols_start sizes) sizes.symbols (is_symbols_size sizes)
    ++ header_fields (name_of 4) 3 0 0 0 1 0 (names_start sizes) sizes.names true
    ++ header_fields (name_of 5) 3 0 0 0 1 0 (section_names_start sizes) sizes.section_names (next_8 (parts_end sizes) == start)

-- how large the sections are, by the section headers from a byte on
unfoldable pub read_sizes : List ℕ → ℕ → Result Sizes ObjectFault
read_sizes bytes start =
    and_then (told 8 (fields_fault start (all_header_fields start (sizes_at start bytes)) (drop start bytes))) (λ _. Ok (sizes_at start bytes))

-- ---- the symbols

-- a name up to its zero byte, or all bytes
abbrev pub name_in : List ℕ → List ℕ
name_in [] = []
name_in (b ∷ bytes) = if b == 0 then [] else b ∷ name_in bytes

-- so many symbols as their entries say, and their names one behind the other from a byte of .strtab on
abbrev pub symbols_at : List ℕ → ℕ → ℕ → List ℕ → List Symbol
symbols_at names at zero entries = []
symbols_at names at (suc n) entries =
    record { name = name_in (drop at names); offset = long_at 8 entries; size = long_at 16 entries }
    ∷ symbols_at names (at + length (name_in (drop at names)) + 1) n (drop 24 entries)

abbrev pub is_name : List ℕ → Bool
is_name name = nat_le (length name) 255 && begins_name name && list_all may_stand_in_name name

-- a name at a byte of .strtab, which ends there with a zero byte, and which no procedure has that stands earlier
abbrev pub is_new_name : List ℕ → List (List ℕ) → ℕ → List ℕ → Bool
is_new_name names earlier at name = nat_lt (at + length name) (length names) && is_name name && not (list_any (λ other. bytes_eq name other) earlier)

-- whole words, at least one; and the last procedure ends where the text does
abbrev pub is_size : ℕ → ℕ → Bool → ℕ → Bool
is_size text start last size = nat_lt 0 size && (size % 4 == 0) && (not last || (start + size == text))

-- the entry of a procedure (ELF-64, "Symbol table"): st_name, st_info, st_other, st_shndx, st_value, st_size
abbrev pub entry_fields : ℕ → Bool → ℕ → ℕ → Bool → List Field
entry_fields at named start size good =
    position at named
    ∷ wanted (Byte 0x12)
    ∷ wanted (Byte 0)
    ∷ wanted (Half 1)
    ∷ offset start
    ∷ (record { number = Long size; good = good })
    ∷ []

abbrev pub is_last : List Symbol → Bool
is_last [] = true
is_last (symbol ∷ rest) = false

-- The entries of procedures of a text of so many bytes, in order. The names of those before stand up to byte `at` of
-- .strtab, and their bytes up to byte `start` of the text.
abbrev pub entries_fields : List ℕ → ℕ → List (List ℕ) → ℕ → ℕ → List Symbol → List Field
entries_fields names text earlier at start [] = []
entries_fields names text earlier at start (symbol ∷ rest) =
    entry_fields at (is_new_name names earlier at symbol.name) start symbol.size (is_size text start (is_last rest) symbol.size)
    ++ entries_fields names text (earlier ++ symbol.name ∷ []) (at + length symbol.name + 1) (start + symbol.size) rest

-- the undefined symbol
abbrev pub undefined_fields : List Field
undefined_fields = wanted (Word 0) ∷ wanted (Byte 0) ∷ wanted (Byte 0) ∷ wanted (Half 0) ∷ wanted (Long 0) ∷ wanted (Long 0) ∷ []

-- the bytes of a section
abbrev pub symbols_of : Sizes → List ℕ → List ℕ
symbols_of sizes bytes = slice (symbols_start sizes) sizes.symbols bytes

abbrev pub names_bytes : Sizes → List ℕ → List ℕ
names_bytes sizes bytes = slice (names_start sizes) sizes.names bytes

abbrev pub all_symbols : List ℕ → Sizes → List Symbol
all_symbols bytes sizes = symbols_at (names_bytes sizes bytes) 1 (sizes.symbols / 24 - 1) (drop 24 (symbols_of sizes bytes))

unfoldable pub all_entries_fields : List ℕ → Sizes → List Field
all_entries_fields bytes sizes = undefined_fields ++ entries_fields (names_bytes sizes bytes) sizes.text [] 1 0 (all_symbols bytes sizes)

unfoldable pub read_symbols : List ℕ → Sizes → Result (List Symbol) ObjectFault
read_symbols bytes sizes =
    and_then (told 9 (fields_fault (symbols_start sizes) (all_entries_fields bytes sizes) (symbols_of sizes bytes))) (λ _. Ok (all_symbols bytes sizes))

-- ---- names and gaps

unfoldable pub read_names : List ℕ → Sizes → List Symbol → Result ⊤ ObjectFault
read_names bytes sizes symbols =
    and_then (told 10 (differs (names_start sizes) (string_table (names_of symbols)) (names_bytes sizes bytes)))
    (λ _. told 10 (differs (section_names_start sizes) (string_table section_names) (slice (section_names_start sizes) sizes.section_names bytes)))

-- from a byte on up to the next multiple of 8
abbrev pub read_gap : List ℕ → ℕ → Result ⊤ ObjectFault
read_gap bytes at = told 11 (differs at (zeros (gap 8 at)) (slice at (gap 8 at) bytes))

unfoldable pub read_gaps : List ℕ → Sizes → Result ⊤ ObjectFault
read_gaps bytes sizes =
    and_then (read_gap bytes (text_end sizes)) (λ _.
    and_then (read_gap bytes (frames_end sizes)) (λ _.
    and_then (read_gap bytes (exits_end sizes)) (λ _.
    read_gap bytes (parts_end sizes))))

-- ---- the tables

-- the bytes of the text that the procedures have
abbrev pub extents_of : List Symbol → List Range
extents_of symbols = map (λ symbol. record { first = symbol.offset; len = symbol.size }) symbols

-- a fault of tables stands in its section
abbrev pub tables_told : Sizes → Result Tables TableFault → Result Tables ObjectFault
tables_told sizes (Ok tables) = Ok tables
tables_told sizes (Err (table.Frames code byte)) = Err (Bad 12 (frames_start sizes + byte))
tables_told sizes (Err (table.Exits code byte)) = Err (Bad 12 (exits_start sizes + byte))
tables_told sizes (Err table.NoMemory) = Err NoMemory

unfoldable pub tables_at : List ℕ → Sizes → List Symbol → Result Tables ObjectFault
tables_at bytes sizes symbols =
    tables_told sizes (read_tables (extents_of symbols) (slice (frames_start sizes) sizes.frames bytes) (slice (exits_start sizes) sizes.exits bytes))

-- BLR of some register (DDI 0487, C6.2)
abbrev pub is_blr : ℕ → Bool
is_blr word = nat_le 0xD63F_0000 word && nat_le word 0xD63F_03E0 && (word % 32 == 0)

-- what a site asks of the word of the text at its place: a call BLR, an exit BRK #1
abbrev pub is_word_of : SiteKind → ℕ → Bool
is_word_of Call word = is_blr word
is_word_of Exit word = word == 0xD420_0020
is_word_of Patchpoint word = true
is_word_of Trap word = true

abbrev pub some_word : SiteKind → Option ℕ → Bool
some_word kind None = false
some_word kind (Some word) = is_word_of kind word

-- the first site whose word is another, the first of them at byte `at`
abbrev pub words_fault : ℕ → List ℕ → List SiteRow → Option ℕ
words_fault at text [] = None
words_fault at text (row ∷ rows) = if some_word row.site.kind (slice_get text (row.pc / 4)) then words_fault (at + 32 + 16 * length row.site.reps) text rows else Some at

abbrev pub text_of : List ℕ → Sizes → List ℕ
text_of bytes sizes = fields (slice 64 sizes.text bytes)

-- the tables, and behind all that is at fault in them the words of the text at their sites
unfoldable pub read_all_tables : List ℕ → Sizes → List Symbol → Result Tables ObjectFault
read_all_tables bytes sizes symbols =
    and_then (tables_at bytes sizes symbols) (λ tables.
    and_then (told 12 (words_fault (exits_start sizes + 16) (text_of bytes sizes) tables.sites)) (λ _. Ok tables))

-- ---- the whole file

abbrev pub read_parts : List ℕ → Sizes → Result Object ObjectFault
read_parts bytes sizes =
    and_then (read_symbols bytes sizes) (λ symbols.
    and_then (read_names bytes sizes symbols) (λ _.
    and_then (read_gaps bytes sizes) (λ _.
    and_then (read_all_tables bytes sizes symbols) (λ tables. Ok (record { text = text_of bytes sizes; symbols = symbols; tables = tables })))))

unfoldable pub read_object : List ℕ → Result Object ObjectFault
read_object bytes =
    and_then (read_start bytes) (λ start.
    and_then (read_sizes bytes start) (λ sizes.
    read_parts bytes sizes))
