use Rattle.std.proofs.Common.{◌≡◌, ◌+◌, length, drop}
use Rattle.elf_obj.specs.Fields.{differs}
use Rattle.elf_obj.proofs.field.differs.Given as goal

abbrev pub invariant-loop-byte : goal.invariant-loop-byte
invariant-loop-byte l =
    (differs l.at (drop l.byte-index l.wanted) l.left ≡ differs l.initial.at l.wanted l.bytes)
    × (l.at + length l.left ≡ l.initial.at + length l.bytes)
