use Rattle.std.proofs.Common.{◌≡◌, ℕ, List, [], ◌∷◌, ◌++◌, arith}
use Rattle.std.specs.List.{flat_map}
use Rattle.std.proofs.lemmas.Grind.{common_steps}
use Rattle.std.proofs.lemmas.List.Folds.{flat_map-map}
use Rattle.elf_obj.specs.declared.object.Symbol.{Symbol}
use Rattle.elf_obj.specs.Good.{names_of}
use Rattle.elf_obj.specs.Elf.{string_table}
use Rattle.elf_obj.proofs.parts.names_bytes.Goals as goal

named : (symbols : List Symbol) → string_table (names_of symbols) ≡ 0 ∷ flat_map (λ symbol. symbol.name ++ 0 ∷ []) symbols
unfolding string_table
named symbols = rw (flat_map-map (λ (name : List ℕ). name ++ 0 ∷ []) (λ (symbol : Symbol). symbol.name) symbols)

pub returns : goal.returns
returns c = rw (named c.args.symbols.now) (grind (arith, common_steps, c.loop-symbol.invariant))
