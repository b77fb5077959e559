use Rattle.std.proofs.Common.{◌≡◌, ◌+◌, ◌*◌, ◌-◌, ◌^◌, ◌<◌, ◌≤◌, ◌++◌, length, sum_by}
use Rattle.std.specs.List.{AllByRecursion}
use Rattle.elf_obj.specs.Reading.{symbols_at}
use Rattle.elf_obj.proofs.symbols.symbols_at.Given as goal

abbrev pub invariant-loop : goal.invariant-loop
invariant-loop l =
    (l.symbols ++ symbols_at l.names l.name_at (l.count - l.counter) l.left ≡ symbols_at l.names 1 l.count l.entries)
    × (24 * (l.count - l.counter) ≤ length l.left)
    × AllByRecursion (λ symbol. symbol.offset + symbol.size < 2 ^ 32) (symbols_at l.names l.name_at (l.count - l.counter) l.left)
    × (l.name_at + sum_by (λ symbol. length symbol.name + 1) (symbols_at l.names l.name_at (l.count - l.counter) l.left) < 2 ^ 63)
