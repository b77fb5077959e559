use Rattle.std.proofs.Common.{◌≡◌, ◌+◌, ◌-◌, ◌*◌, ◌/◌, ◌%◌, ◌≤◌, ◌∙◌, true, eqb, leb, sym, ap, Option, ℕ, List, length, drop, arith}
use Rattle.std.specs.Prelude.{◌&&◌}
use Rattle.std.proofs.lemmas.Bool.{and_parts, eqb-true, leb-true}
use Rattle.std.proofs.lemmas.List.{length-drop}
use Rattle.std.proofs.lemmas.Result.{IfOk-weaker}
use Rattle.elf_obj.specs.declared.layout.Sizes.{Sizes}
use Rattle.elf_obj.specs.Fields.{slice}
use Rattle.elf_obj.specs.Reading.{symbols_start, names_start, parts_end, is_symbols_size, symbols_of, names_bytes}
use Rattle.elf_obj.proofs.ReadLaws.{slice_length}
use Rattle.elf_obj.proofs.SymbolReads.{all_fault, undefined_stops, undefined_goes_on}
use Rattle.elf_obj.proofs.reader.symbols_fault.Goals as goal

part_is : (start at size : ℕ) (bytes piece : List ℕ) → at ≡ start → piece ≡ slice at size bytes → piece ≡ slice start size bytes
part_is start at size bytes piece at_is is = is ∙ ap (λ (n : ℕ). slice n size bytes) at_is

long : (bytes : List ℕ) (s : Sizes) (entries behind : List ℕ) → parts_end s ≤ length bytes → is_symbols_size s ≡ true → entries ≡ symbols_of s bytes → behind ≡ drop 24 entries → 24 * (s.symbols / 24 - 1) ≤ length behind
long bytes s entries behind inside size is behind_is =
    let p = and_parts (eqb (s.symbols % 24) 0) (leb 24 s.symbols) size in
    let whole : s.symbols % 24 ≡ 0 = eqb-true (s.symbols % 24) 0 p.0 in
    let least : 24 ≤ s.symbols = leb-true 24 s.symbols p.1 in
    let all : length entries ≡ s.symbols = ap (λ (t : List ℕ). length t) is ∙ slice_length (symbols_start s) s.symbols bytes (omega (arith, inside)) in
    let rest : length behind ≡ length entries - 24 = ap (λ (t : List ℕ). length t) behind_is ∙ length-drop 24 entries in
    omega arith

pub entries_fault-requires-clause-long : goal.entries_fault-requires-clause-long
entries_fault-requires-clause-long c =
    long c.args.bytes.now c.args.sizes c.part-entries.result.now c.behind.result.now c.requires.within c.requires.whole
    (part_is (symbols_start c.args.sizes) c.symbols_start.result c.args.sizes.symbols c.args.bytes.now c.part-entries.result.now c.symbols_start.ensures.is c.part-entries.ensures) c.behind.ensures

pub returns-in-Some : goal.returns-in-Some
returns-in-Some c =
    undefined_stops c.args.bytes.now c.args.sizes c.symbols_start-at.result c.in-Some.byte c.undefined_fields.result c.part-entries.result.now c.symbols_start-at.ensures.is c.undefined_fields.ensures
    (part_is (symbols_start c.args.sizes) c.symbols_start.result c.args.sizes.symbols c.args.bytes.now c.part-entries.result.now c.symbols_start.ensures.is c.part-entries.ensures) (sym c.in-Some.is ∙ c.fields_fault.ensures)

pub returns : goal.returns
returns c =
    let more = undefined_goes_on c.args.bytes.now c.args.sizes c.symbols_start-at.result c.undefined_fields.result c.part-entries.result.now c.behind.result.now c.part-names.result.now c.symbols_start-at.ensures.is c.undefined_fields.ensures
    (part_is (symbols_start c.args.sizes) c.symbols_start.result c.args.sizes.symbols c.args.bytes.now c.part-entries.result.now c.symbols_start.ensures.is c.part-entries.ensures) c.behind.ensures
    (part_is (names_start c.args.sizes) c.names_start.result c.args.sizes.names c.args.bytes.now c.part-names.result.now c.names_start.ensures.is c.part-names.ensures) (sym c.in-None.is ∙ c.fields_fault.ensures) in
    IfOk-weaker c.entries_fault.result _ _ (λ byte e. e ∙ more) c.entries_fault.ensures
