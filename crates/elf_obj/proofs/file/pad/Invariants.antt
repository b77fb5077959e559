use Rattle.std.proofs.Common.{◌≡◌, ◌++◌}
use Rattle.elf_obj.specs.Sections.{zeros}
use Rattle.elf_obj.proofs.file.pad.Given as goal

abbrev pub invariant-loop : goal.invariant-loop
invariant-loop l = l.out ≡ l.initial.out ++ zeros l.counter
