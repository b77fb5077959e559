use Rattle.std.proofs.Common.{◌≡◌, ◌+◌, ◌*◌, ◌<◌, ◌≤◌, ◌^◌, ◌∙◌, sym, ap, ℕ, List, length, sum_by, Ok, arith}
use Rattle.b3_base.proofs.FieldLaws.{AreBytes}
use Rattle.exit_table.specs.declared.tables.SiteRow.{SiteRow}
use Rattle.exit_table.specs.declared.tables.Tables.{Tables}
use Rattle.elf_obj.specs.declared.object.Symbol.{Symbol}
use Rattle.elf_obj.specs.declared.layout.Sizes.{Sizes}
use Rattle.elf_obj.specs.Good.{Fills}
use Rattle.elf_obj.specs.Reading.{exits_start, parts_end, tables_at}
use Rattle.elf_obj.proofs.Sizes.{length-exit_section}
use Rattle.elf_obj.proofs.ReadLaws.{slice_length, extents_are}
use Rattle.elf_obj.proofs.FileLaws.{tables_found}
use Rattle.elf_obj.proofs.reader.read_all_tables.Goals as goal

pub tables_at-requires-clause-extents : goal.tables_at-requires-clause-extents
tables_at-requires-clause-extents c = extents_are c.args.sizes.text c.args.symbols.now c.requires.fills c.requires.few

ends : (bytes : List ℕ) (s : Sizes) (symbols : List Symbol) (tables : Tables) (start : ℕ) (sites : List SiteRow) → AreBytes bytes → length bytes < 2 ^ 63 → parts_end s ≤ length bytes → Fills 0 s.text symbols → s.text < 2 ^ 26 → tables_at bytes s symbols ≡ Ok tables → start ≡ exits_start s → sites ≡ tables.sites
    → start + 16 + sum_by (λ row. 32 + 16 * length row.site.reps) sites < 2 ^ 64
ends bytes s symbols tables start sites are short inside fills few read start_is sites_are =
    let found = tables_found bytes s symbols tables are fills few read in
    let long = ap (λ (t : List ℕ). length t) found.exits_spelled in
    omega (arith, long, length-exit_section tables, slice_length (exits_start s) s.exits bytes (omega (arith, inside)), ap (λ (t : List SiteRow). sum_by (λ row. 32 + 16 * length row.site.reps) t) sites_are)

pub words_fault-requires : goal.words_fault-requires
words_fault-requires c =
    ends c.args.bytes.now c.args.sizes c.args.symbols.now c.in_ok-tables.tables c.exits_start.result c.as_slice-2.result.now (λ i. omega (arith, c.type_inv.bytes i)) (omega arith) c.requires.within c.requires.fills c.requires.few c.in_ok-tables.ensures c.exits_start.ensures.is c.as_slice-2.ensures
