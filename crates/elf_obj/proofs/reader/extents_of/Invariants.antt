use Rattle.std.proofs.Common.{◌≡◌, take}
use Rattle.elf_obj.specs.Reading.{extents_of}
use Rattle.elf_obj.proofs.reader.extents_of.Given as goal

abbrev pub invariant-loop-symbol : goal.invariant-loop-symbol
invariant-loop-symbol l = l.extents ≡ extents_of (take l.symbol-index l.symbols)
