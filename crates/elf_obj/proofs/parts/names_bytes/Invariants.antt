use Rattle.std.proofs.Common.{◌≡◌, [], ◌∷◌, ◌++◌, take}
use Rattle.std.specs.List.{flat_map}
use Rattle.elf_obj.proofs.parts.names_bytes.Given as goal

abbrev pub invariant-loop-symbol : goal.invariant-loop-symbol
invariant-loop-symbol l = l.out ≡ 0 ∷ flat_map (λ symbol. symbol.name ++ 0 ∷ []) (take l.symbol-index l.symbol-items)
