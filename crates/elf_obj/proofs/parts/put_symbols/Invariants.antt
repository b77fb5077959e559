use Rattle.std.proofs.Common.{◌≡◌, ◌+◌, ◌++◌, length, drop, sum_by}
use Rattle.elf_obj.specs.Elf.{symbol_entries}
use Rattle.elf_obj.proofs.parts.put_symbols.Given as goal

abbrev pub invariant-loop-symbol : goal.invariant-loop-symbol
invariant-loop-symbol l =
    (l.out ++ symbol_entries l.name (drop l.symbol-index l.symbol-items) ≡ l.initial.out ++ symbol_entries 1 l.symbol-items)
    × (l.name + sum_by (λ symbol. length symbol.name + 1) (drop l.symbol-index l.symbol-items) ≡ 1 + sum_by (λ symbol. length symbol.name + 1) l.symbol-items)
