use Rattle.std.proofs.Common.{◌≡◌, ◌+◌, ◌*◌, ◌-◌, ◌^◌, ◌≤◌, [], length, map}
use Rattle.elf_obj.proofs.EntryLoop.{fault_from}
use Rattle.elf_obj.proofs.symbols.entries_fault.Given as goal

abbrev pub invariant-loop-i : goal.invariant-loop-i
invariant-loop-i l =
    (fault_from l.names l.text (map (λ other. other.now) l.earlier.keys) l.at l.name_at l.start (l.count - l.i) l.left ≡ fault_from l.names l.text [] l.first 1 0 l.count l.entries)
    × (l.at + length l.left ≡ l.first + length l.entries)
    × (24 * (l.count - l.i) ≤ length l.left)
    × (l.name_at ≤ length l.names + 1)
    × (l.start ≤ 2 ^ 64 * l.i)
    × (l.i ≤ l.count)
