-- What a good object promises of its sizes.
use Rattle.std.proofs.Common.{◌≡◌, ℕ, ◌+◌, ◌*◌, ◌%◌, ◌^◌, ◌<◌, ◌≤◌, List, [], ◌∷◌, length, sum, sum_by, arith}
use Rattle.std.specs.Prelude.{All}
use Rattle.std.specs.List.{AllByRecursion}
use Rattle.std.proofs.lemmas.List.Elements.{recursion_from_All, All-from_recursion}
use Rattle.std.proofs.lemmas.List.Sums.{sum_by-cons}
use Rattle.exit_table.specs.Good.{IsWritable}
use Rattle.elf_obj.specs.declared.object.Symbol.{Symbol}
use Rattle.elf_obj.specs.declared.object.Object.{Object}
use Rattle.elf_obj.specs.declared.section.Section.{Section}
use Rattle.b3_ir.specs.Names.{IsName}
use Rattle.elf_obj.specs.Good.{names_of, sizes_of, Fills, IsGood}
use Rattle.elf_obj.specs.Elf.{sections_of}

-- the sizes of procedures that fill a text sum up to it
pub fills_sum : (from to : ℕ) (symbols : List Symbol) → Fills from to symbols → from + sum (sizes_of symbols) ≡ to
fills_sum from to [] fills = omega (arith, fills)
fills_sum from to (symbol ∷ rest) fills = rw (sum_by-cons (λ x. x) symbol.size (sizes_of rest)) (omega (arith, fills_sum (from + symbol.size) to rest fills.3))

pub fills_each : (from to : ℕ) (symbols : List Symbol) → Fills from to symbols → AllByRecursion (λ size. (0 < size) × (size % 4 ≡ 0)) (sizes_of symbols)
fills_each from to [] fills = tt
fills_each from to (symbol ∷ rest) fills = ((fills.1, fills.2), fills_each (from + symbol.size) to rest fills.3)

-- they are at most its words
pub fills_few : (from to : ℕ) (symbols : List Symbol) → Fills from to symbols → from + 4 * length symbols ≤ to
fills_few from to [] fills = omega (arith, fills)
fills_few from to (symbol ∷ rest) fills = omega (arith, fills.1, fills.2, fills_few (from + symbol.size) to rest fills.3)

-- a name and the byte behind it are at most 256 bytes
pub name_length : (name : List ℕ) → IsName name → length name + 1 ≤ 256
name_length name named = omega (arith, named.short)

pub names_sum : (symbols : List Symbol) → AllByRecursion IsName (names_of symbols) → sum_by (λ symbol. length symbol.name + 1) symbols ≤ 256 * length symbols
names_sum [] all = omega arith
names_sum (symbol ∷ rest) all = rw (sum_by-cons (λ (symbol : Symbol). length symbol.name + 1) symbol rest) (omega (arith, name_length symbol.name all.0, names_sum rest all.1))

-- the tables of a good object are those of its text
pub writable : (object : Object) → IsGood object → IsWritable object.tables
writable object good =
    let words : length object.text < 2 ^ 24 = good.few_words in
    record {
      sizes = sizes_of object.symbols;
      are_sizes = record { each = All-from_recursion _ _ (fills_each 0 _ object.symbols good.fills); total = omega (arith, fills_sum 0 _ object.symbols good.fills) };
      good = good.tables;
      few = good.few_places;
    }

-- a field of 32 bits says where a name begins
pub few_names : (object : Object) → IsGood object → 1 + sum_by (λ symbol. length symbol.name + 1) object.symbols < 2 ^ 32
few_names object good =
    let words : length object.text < 2 ^ 24 = good.few_words in
    omega (arith, names_sum object.symbols (recursion_from_All _ _ good.names), fills_few 0 _ object.symbols good.fills)

-- each section has an alignment
pub aligned : (object : Object) → All (λ section. 0 < section.align) (sections_of object)
unfolding sections_of
aligned object =
    let each : AllByRecursion (λ section. 0 < section.align) (sections_of object) = (omega arith, (omega arith, (omega arith, (omega arith, (omega arith, (omega arith, tt)))))) in
    All-from_recursion (λ (section : Section). 0 < section.align) (sections_of object) each
