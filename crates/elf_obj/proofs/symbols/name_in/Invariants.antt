use Rattle.std.proofs.Common.{◌≡◌, ◌++◌, take, drop}
use Rattle.elf_obj.specs.Reading.{name_in}
use Rattle.elf_obj.proofs.symbols.name_in.Given as goal

abbrev pub invariant-loop-i : goal.invariant-loop-i
invariant-loop-i l = name_in l.bytes ≡ take l.i l.bytes ++ name_in (drop l.i l.bytes)
