use Rattle.std.proofs.Common.{◌≡◌, ◌++◌, length, drop}
use Rattle.elf_obj.specs.Sections.{contents, section_headers}
use Rattle.elf_obj.proofs.file.put_sections.Given as goal

abbrev pub invariant-loop-section : goal.invariant-loop-section
invariant-loop-section l =
    (l.out ++ contents (length l.out) (drop l.section-index l.section-items) ≡ l.initial.out ++ contents (length l.initial.out) l.section-items)
    × (l.headers ++ section_headers (length l.out) (drop l.section-index l.section-items) ≡ l.initial.headers ++ section_headers (length l.initial.out) l.section-items)
