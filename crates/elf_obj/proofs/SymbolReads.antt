-- The symbols as the code reads them: the undefined one, and those behind it.
use Rattle.std.proofs.Common.{◌≡◌, ℕ, ◌+◌, ◌-◌, ◌*◌, ◌/◌, ◌<◌, ◌≤◌, ◌^◌, true, List, [], ◌∷◌, ◌++◌, Option, Some, None, Result, Ok, length, sum_by, drop, refl, sym, ap, subst, ◌∙◌, arith}
use Rattle.std.specs.List.{AllByRecursion}
use Rattle.elf_obj.specs.declared.object.Symbol.{Symbol}
use Rattle.elf_obj.specs.declared.layout.Sizes.{Sizes}
use Rattle.elf_obj.specs.declared.field.Field.{Field}
use Rattle.elf_obj.specs.declared.fault.ObjectFault.{ObjectFault}
use Rattle.elf_obj.specs.Good.{Fills}
use Rattle.elf_obj.specs.Fields.{fields_fault, and_then, told}
use Rattle.elf_obj.specs.Reading.{symbols_start, names_start, parts_end, is_text_size, is_symbols_size, symbols_at, entries_fields, undefined_fields, symbols_of, names_bytes, all_symbols, all_entries_fields, read_symbols}
use Rattle.elf_obj.proofs.Bounds.{fills_few, names_sum}
use Rattle.elf_obj.proofs.FieldRules.{widths, fields_go_on, fields_stop}
use Rattle.elf_obj.proofs.SymbolLaws.{fills_le}
use Rattle.elf_obj.proofs.ReadLaws.{AreSymbols, symbols_found}
use Rattle.elf_obj.proofs.FileLaws.{text_parts}

abbrev pub all_fault : List ℕ → Sizes → Option ℕ
all_fault bytes s = fields_fault (symbols_start s) (all_entries_fields bytes s) (symbols_of s bytes)

pub undefined_stops : (bytes : List ℕ) (s : Sizes) (at byte : ℕ) (fields : List Field) (entries : List ℕ) → at ≡ symbols_start s → fields ≡ undefined_fields → entries ≡ symbols_of s bytes → Some byte ≡ fields_fault at fields entries → Some byte ≡ all_fault bytes s
unfolding all_entries_fields
undefined_stops bytes s at byte fields entries at_is are is e =
    let e2 : Some byte ≡ fields_fault (symbols_start s) undefined_fields (symbols_of s bytes) = e ∙ ap (λ (n : ℕ). fields_fault n fields entries) at_is ∙ ap (λ (f : List Field). fields_fault (symbols_start s) f entries) are ∙ ap (λ (t : List ℕ). fields_fault (symbols_start s) undefined_fields t) is in
    sym (fields_stop (symbols_start s) byte undefined_fields (entries_fields (names_bytes s bytes) s.text [] 1 0 (all_symbols bytes s)) (symbols_of s bytes) (sym e2))

pub undefined_goes_on : (bytes : List ℕ) (s : Sizes) (at : ℕ) (fields : List Field) (entries behind names : List ℕ) → at ≡ symbols_start s → fields ≡ undefined_fields → entries ≡ symbols_of s bytes → behind ≡ drop 24 entries → names ≡ names_bytes s bytes → None ≡ fields_fault at fields entries
    → fields_fault (at + 24) (entries_fields names s.text [] 1 0 (symbols_at names 1 (s.symbols / 24 - 1) behind)) behind ≡ all_fault bytes s
unfolding all_entries_fields widths
undefined_goes_on bytes s at fields entries behind names at_is are is behind_is names_are e =
    let e2 : fields_fault (symbols_start s) undefined_fields (symbols_of s bytes) ≡ None = sym (e ∙ ap (λ (n : ℕ). fields_fault n fields entries) at_is ∙ ap (λ (f : List Field). fields_fault (symbols_start s) f entries) are ∙ ap (λ (t : List ℕ). fields_fault (symbols_start s) undefined_fields t) is) in
    let rest : behind ≡ drop 24 (symbols_of s bytes) = behind_is ∙ ap (λ (t : List ℕ). drop 24 t) is in
    let n : ℕ = s.symbols / 24 - 1 in
    ap (λ (k : ℕ). fields_fault (k + 24) (entries_fields names s.text [] 1 0 (symbols_at names 1 n behind)) behind) at_is
    ∙ ap (λ (t : List ℕ). fields_fault (symbols_start s + 24) (entries_fields t s.text [] 1 0 (symbols_at t 1 n behind)) behind) names_are
    ∙ ap (λ (t : List ℕ). fields_fault (symbols_start s + 24) (entries_fields (names_bytes s bytes) s.text [] 1 0 (symbols_at (names_bytes s bytes) 1 n t)) t) rest
    ∙ sym (fields_go_on (symbols_start s) undefined_fields (entries_fields (names_bytes s bytes) s.text [] 1 0 (all_symbols bytes s)) (symbols_of s bytes) e2)

each_small : (from to : ℕ) (symbols : List Symbol) → Fills from to symbols → to < 2 ^ 26 → AllByRecursion (λ symbol. symbol.offset + symbol.size < 2 ^ 32) symbols
each_small from to [] fills few = tt
each_small from to (symbol ∷ symbols) fills few = (omega (arith, fills.0, fills_le (from + symbol.size) to symbols fills.3), each_small (from + symbol.size) to symbols fills.3 few)

pub record AreSmallSymbols (symbols : List Symbol) : Type 0 where
  pub small : AllByRecursion (λ symbol. symbol.offset + symbol.size < 2 ^ 32) symbols
  pub ends : 1 + sum_by (λ symbol. length symbol.name + 1) symbols < 2 ^ 63

pub read_all : (bytes : List ℕ) (s : Sizes) → all_fault bytes s ≡ None → read_symbols bytes s ≡ Ok (all_symbols bytes s)
unfolding read_symbols
read_all bytes s none = ap (λ (byte : Option ℕ). and_then (told 9 byte) (λ _. Ok (all_symbols bytes s))) none

pub all_small : (bytes : List ℕ) (s : Sizes) → parts_end s ≤ length bytes → is_text_size s ≡ true → is_symbols_size s ≡ true → all_fault bytes s ≡ None → AreSmallSymbols (all_symbols bytes s)
all_small bytes s inside text whole none =
    let are = symbols_found bytes s (all_symbols bytes s) (omega (arith, inside)) text whole (read_all bytes s none) in
    let few : s.text < 2 ^ 26 = (text_parts s text).1 in
    record {
      small = each_small 0 s.text (all_symbols bytes s) are.fills few;
      ends = omega (arith, names_sum (all_symbols bytes s) are.named, fills_few 0 s.text (all_symbols bytes s) are.fills);
    }

-- the symbols as they are read
pub these_are : (bytes : List ℕ) (s : Sizes) (entries behind names : List ℕ) → entries ≡ symbols_of s bytes → behind ≡ drop 24 entries → names ≡ names_bytes s bytes → symbols_at names 1 (s.symbols / 24 - 1) behind ≡ all_symbols bytes s
these_are bytes s entries behind names is behind_is names_are =
    ap (λ (t : List ℕ). symbols_at t 1 (s.symbols / 24 - 1) behind) names_are ∙ ap (λ (t : List ℕ). symbols_at (names_bytes s bytes) 1 (s.symbols / 24 - 1) t) (behind_is ∙ ap (λ (t : List ℕ). drop 24 t) is)
