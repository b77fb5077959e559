use Rattle.std.proofs.Common.{◌≡◌, ◌+◌, length, drop}
use Rattle.elf_obj.specs.Sections.{contents}
use Rattle.elf_obj.proofs.file.end_of.Given as goal

abbrev pub invariant-loop-section : goal.invariant-loop-section
invariant-loop-section l = l.at + length (contents l.at (drop l.section-index l.section-items)) ≡ 64 + length (contents 64 l.section-items)
