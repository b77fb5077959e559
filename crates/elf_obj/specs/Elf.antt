-- The file of an object: a relocatable ELF-64 file for AArch64 (System V ABI, "Object Files"; ELF
-- for the Arm 64-bit Architecture).
use Rattle.std.specs.Prelude.{◌≡◌, ℕ, ◌+◌, List, [], ◌∷◌, ◌++◌, length, take, codes}
use Rattle.std.specs.List.{flat_map}
use Rattle.b3_base.specs.Fields.{halves, words, xwords}
use Rattle.exit_table.specs.Spelling.{frame_section, exit_section}
use Rattle.elf_obj.specs.declared.section.Section.{Section}
use Rattle.elf_obj.specs.declared.object.Symbol.{Symbol}
use Rattle.elf_obj.specs.declared.object.Object.{Object}
use Rattle.elf_obj.specs.Good.{names_of}
use Rattle.elf_obj.specs.Sections.{gap, zeros, contents, section_headers}

-- names, in order, behind a zero byte, and each before one (ELF-64, "String table")
unfoldable pub string_table : List (List ℕ) → List ℕ
string_table names = 0 ∷ flat_map (λ name. name ++ 0 ∷ []) names

-- a global function of the text (ELF-64, "Symbol table"), whose name begins at a byte of .strtab
unfoldable pub symbol_entry : ℕ → Symbol → List ℕ
symbol_entry name symbol =
    words (name ∷ [])  -- st_name
    ++ 0x12 ∷ 0 ∷ []  -- st_info: STB_GLOBAL and STT_FUNC; st_other
    ++ halves (1 ∷ [])  -- st_shndx: .text
    ++ xwords (symbol.offset ∷ symbol.size ∷ [])  -- st_value, st_size

-- the entries of procedures, the name of the first of them at a byte of .strtab
abbrev pub symbol_entries : ℕ → List Symbol → List ℕ
symbol_entries name [] = []
symbol_entries name (symbol ∷ rest) = symbol_entry name symbol ++ symbol_entries (name + length symbol.name + 1) rest

-- the undefined symbol, and the procedures in order
unfoldable pub symbol_table : List Symbol → List ℕ
symbol_table symbols = zeros 24 ++ symbol_entries 1 symbols

-- the names of the sections from 1 to 6
unfoldable pub section_names : List (List ℕ)
section_names =
    codes ".text"
    ∷ codes ".b3.frames"
    ∷ codes ".b3.exits"
    ∷ codes ".symtab"
    ∷ codes ".strtab"
    ∷ codes ".shstrtab"
    ∷ []

-- the byte of .shstrtab at which a name begins, the names counted from 0: where the table of those
-- before it ends
unfoldable pub name_of : ℕ → ℕ
name_of index = length (string_table (take index section_names))

abbrev pub section : ℕ → ℕ → ℕ → ℕ → ℕ → ℕ → ℕ → List ℕ → Section
section name kind flags link info align entsize bytes = record { name = name; kind = kind; flags = flags; link = link; info = info; align = align; entsize = entsize; bytes = bytes }

-- the sections from 1 to 6. Types: 1 PROGBITS, 2 SYMTAB, 3 STRTAB. Flags: 6 ALLOC and EXECINSTR.
-- The symbol table links to the names of its symbols, and its first global symbol is 1.
unfoldable pub sections_of : Object → List Section
sections_of object =
    -- each: name, type, flags, link, info, alignment, size of an entry, bytes
    section (name_of 0) 1 6 0 0 4 0 (words object.text)
    ∷ section (name_of 1) 1 0 0 0 8 0 (frame_section object.tables)
    ∷ section (name_of 2) 1 0 0 0 8 0 (exit_section object.tables)
    ∷ section (name_of 3) 2 0 5 1 8 24 (symbol_table object.symbols)
    ∷ section (name_of 4) 3 0 0 0 1 0 (string_table (names_of object.symbols))
    ∷ section (name_of 5) 3 0 0 0 1 0 (string_table section_names)
    ∷ []

-- the file header (ELF-64, "ELF header") of a file whose section headers begin at a byte
unfoldable pub file_header : ℕ → List ℕ
file_header headers =
    0x7f ∷ 0x45 ∷ 0x4c ∷ 0x46 ∷ []  -- EI_MAG0 to EI_MAG3
    ++ 2 ∷ 1 ∷ 1 ∷ []  -- EI_CLASS: 64 bits; EI_DATA: least byte first; EI_VERSION
    ++ zeros 9  -- EI_OSABI: System V; EI_ABIVERSION; padding
    ++ halves (1 ∷ 183 ∷ [])  -- e_type: ET_REL; e_machine: EM_AARCH64
    ++ words (1 ∷ [])  -- e_version
    ++ xwords (0 ∷ 0 ∷ headers ∷ [])  -- e_entry, e_phoff, e_shoff
    ++ words (0 ∷ [])  -- e_flags
    ++ halves (64 ∷ 0 ∷ 0 ∷ 64 ∷ 7 ∷ 6 ∷ [])  -- e_ehsize, e_phentsize, e_phnum, e_shentsize, e_shnum, e_shstrndx

-- the file header has 64 bytes, and the sections begin after it
abbrev pub contents_of : Object → List ℕ
contents_of object = contents 64 (sections_of object)

abbrev pub contents_end : Object → ℕ
contents_end object = 64 + length (contents_of object)

-- the file header, the sections, and from the next multiple of 8 on the section headers, the first
-- of which is that of the null section
unfoldable pub encode : Object → List ℕ
encode object =
    file_header (contents_end object + gap 8 (contents_end object))
    ++ contents_of object
    ++ zeros (gap 8 (contents_end object))
    ++ zeros 64
    ++ section_headers 64 (sections_of object)

-- the bytes are the file of the object, to the last
abbrev pub Holds : List ℕ → Object → Type 0
Holds bytes object = bytes ≡ encode object
