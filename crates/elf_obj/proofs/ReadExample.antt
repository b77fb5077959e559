-- The file of one procedure read by the definition, whole and with damages.
use Rattle.std.proofs.Common.{◌≡◌, ℕ, List, [], ◌∷◌, ◌++◌, Result, Ok, Err, take, drop, set, map, refl, length}
use Rattle.std.specs.Prelude.{codes}
use Rattle.stackmap.specs.declared.site.Returns.TheVariants as returns
use Rattle.exit_table.specs.declared.tables.Tables.{Tables}
use Rattle.elf_obj.specs.declared.object.Symbol.{Symbol}
use Rattle.elf_obj.specs.declared.object.Object.{Object}
use Rattle.elf_obj.specs.declared.fault.ObjectFault.{ObjectFault}
use Rattle.elf_obj.specs.declared.fault.ObjectFault.TheVariants.{Bad, NoMemory}
use Rattle.b3_base.specs.Fields.{halves, words, xwords, fields}
use Rattle.exit_table.specs.Spelling.{frame_spelling, frame_section, site_spelling, exit_section}
use Rattle.exit_table.specs.Reading.{mark_at, whole, rows}
use Rattle.exit_table.specs.FrameReading.{is_clear, slot_at, saved_at, header_at, frame_at, frames_at}
use Rattle.exit_table.specs.ExitReading.{place_at, site_from, site_at, sites_at}
use Rattle.exit_table.specs.Read.{read_tables}
use Rattle.elf_obj.specs.Sections.{section_header}
use Rattle.elf_obj.specs.Elf.{string_table, symbol_entry, symbol_table, section_names, name_of, sections_of, file_header, encode}
use Rattle.elf_obj.specs.Reading.{read_start, all_header_fields, read_sizes, all_entries_fields, read_symbols, read_names, read_gaps, tables_at, read_all_tables, read_object}

one : Object
one = record {
  text = 0xA9BF7BFD ∷ 0xD65F03C0 ∷ [];
  symbols = record { name = codes "f"; offset = 0; size = 8 } ∷ [];
  tables = record { frames = record { bytes = 16; returns = returns.W64; slots = []; saved = [] } ∷ []; sites = [] };
}

is_read : read_object (encode one) ≡ Ok one
unfolding one read_start all_header_fields read_sizes all_entries_fields read_symbols read_names read_gaps tables_at read_all_tables read_object string_table symbol_entry symbol_table section_names name_of sections_of file_header encode section_header halves words xwords fields frame_spelling frame_section site_spelling exit_section mark_at whole rows is_clear slot_at saved_at header_at frame_at frames_at place_at site_from site_at sites_at read_tables
is_read = refl

after : ℕ × ℕ → Result Object ObjectFault
after damage = read_object (set (encode one) damage.0 damage.1)

fault : ℕ → ℕ → Result Object ObjectFault
fault code byte = Err (Bad code byte)

are_refused : map after ((0, 0) ∷ (4, 1) ∷ (12, 5) ∷ (17, 1) ∷ (19, 1) ∷ (60, 8) ∷ (63, 1) ∷ (40, 0) ∷ (232, 1) ∷ (304, 7) ∷ (328, 4) ∷ (328, 6) ∷ (520, 49) ∷ (392, 33) ∷ (648, 53) ∷ (648, 55) ∷ (144, 2) ∷ (148, 17) ∷ (169, 48) ∷ (170, 103) ∷ (168, 1) ∷ (180, 0) ∷ (226, 1) ∷ (76, 3) ∷ (112, 1) ∷ (520, 24) ∷ []) ≡ fault 2 0 ∷ fault 3 4 ∷ fault 3 12 ∷ fault 4 16 ∷ fault 5 18 ∷ fault 6 60 ∷ fault 6 63 ∷ fault 7 40 ∷ fault 8 232 ∷ fault 8 304 ∷ fault 9 160 ∷ fault 8 328 ∷ fault 8 520 ∷ fault 8 448 ∷ fault 8 648 ∷ fault 10 225 ∷ fault 9 144 ∷ fault 9 148 ∷ fault 9 144 ∷ fault 9 144 ∷ fault 10 168 ∷ fault 10 180 ∷ fault 11 226 ∷ fault 12 76 ∷ fault 12 120 ∷ fault 8 328 ∷ []
unfolding one after fault read_start all_header_fields read_sizes all_entries_fields read_symbols read_names read_gaps tables_at read_all_tables read_object string_table symbol_entry symbol_table section_names name_of sections_of file_header encode section_header halves words xwords fields frame_spelling frame_section site_spelling exit_section mark_at whole rows is_clear slot_at saved_at header_at frame_at frames_at place_at site_from site_at sites_at read_tables
are_refused = refl

is_cut : read_object (take 63 (encode one)) ≡ fault 1 63
unfolding one fault read_start all_header_fields read_sizes all_entries_fields read_symbols read_names read_gaps tables_at read_all_tables read_object string_table symbol_entry symbol_table section_names name_of sections_of file_header encode section_header halves words xwords fields frame_spelling frame_section site_spelling exit_section mark_at whole rows is_clear slot_at saved_at header_at frame_at frames_at place_at site_from site_at sites_at read_tables
is_cut = refl

has_more : read_object (encode one ++ 0 ∷ []) ≡ fault 7 40
unfolding one fault read_start all_header_fields read_sizes all_entries_fields read_symbols read_names read_gaps tables_at read_all_tables read_object string_table symbol_entry symbol_table section_names name_of sections_of file_header encode section_header halves words xwords fields frame_spelling frame_section site_spelling exit_section mark_at whole rows is_clear slot_at saved_at header_at frame_at frames_at place_at site_from site_at sites_at read_tables
has_more = refl
