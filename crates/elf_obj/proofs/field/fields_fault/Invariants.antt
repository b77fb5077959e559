use Rattle.std.proofs.Common.{◌≡◌, ◌+◌, length, drop}
use Rattle.elf_obj.specs.Fields.{fields_fault}
use Rattle.elf_obj.proofs.field.fields_fault.Given as goal

abbrev pub invariant-loop-field : goal.invariant-loop-field
invariant-loop-field l =
    (fields_fault l.at (drop l.field-index l.fields) l.left ≡ fields_fault l.initial.at l.fields l.bytes)
    × (l.at + length l.left ≡ l.initial.at + length l.bytes)
