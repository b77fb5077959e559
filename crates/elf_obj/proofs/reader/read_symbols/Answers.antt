use Rattle.std.proofs.Common.{◌≡◌, ◌+◌, ◌<◌, ◌^◌, ◌∙◌, sym, ap, subst, ℕ, List, length, sum_by, arith}
use Rattle.std.specs.List.{AllByRecursion}
use Rattle.elf_obj.specs.declared.object.Symbol.{Symbol}
use Rattle.elf_obj.specs.Fields.{slice}
use Rattle.elf_obj.specs.Reading.{symbols_start, names_start}
use Rattle.elf_obj.proofs.SymbolReads.{all_small, these_are}
use Rattle.elf_obj.proofs.reader.read_symbols.Goals as goal

part_is : (start at size : ℕ) (bytes piece : List ℕ) → at ≡ start → piece ≡ slice at size bytes → piece ≡ slice start size bytes
part_is start at size bytes piece at_is is = is ∙ ap (λ (n : ℕ). slice n size bytes) at_is

pub symbols_at-requires-clause-small : goal.symbols_at-requires-clause-small
symbols_at-requires-clause-small c =
    let all = all_small c.args.bytes.now c.args.sizes c.requires.within c.requires.text c.requires.whole (sym c.in_ok-byte.ensures ∙ c.in-None.is) in
    let these = these_are c.args.bytes.now c.args.sizes c.part-entries.result.now c.behind.result.now c.part-names.result.now
    (part_is (symbols_start c.args.sizes) c.symbols_start.result c.args.sizes.symbols c.args.bytes.now c.part-entries.result.now c.symbols_start.ensures.is c.part-entries.ensures) c.behind.ensures
    (part_is (names_start c.args.sizes) c.names_start.result c.args.sizes.names c.args.bytes.now c.part-names.result.now c.names_start.ensures.is c.part-names.ensures) in
    subst (AllByRecursion (λ symbol. symbol.offset + symbol.size < 2 ^ 32)) (sym these) all.small

pub symbols_at-requires-clause-ends : goal.symbols_at-requires-clause-ends
symbols_at-requires-clause-ends c =
    let all = all_small c.args.bytes.now c.args.sizes c.requires.within c.requires.text c.requires.whole (sym c.in_ok-byte.ensures ∙ c.in-None.is) in
    let these = these_are c.args.bytes.now c.args.sizes c.part-entries.result.now c.behind.result.now c.part-names.result.now
    (part_is (symbols_start c.args.sizes) c.symbols_start.result c.args.sizes.symbols c.args.bytes.now c.part-entries.result.now c.symbols_start.ensures.is c.part-entries.ensures) c.behind.ensures
    (part_is (names_start c.args.sizes) c.names_start.result c.args.sizes.names c.args.bytes.now c.part-names.result.now c.names_start.ensures.is c.part-names.ensures) in
    subst (λ (symbols : List Symbol). 1 + sum_by (λ symbol. length symbol.name + 1) symbols < 2 ^ 63) (sym these) all.ends
