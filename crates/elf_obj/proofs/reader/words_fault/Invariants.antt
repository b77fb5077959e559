use Rattle.std.proofs.Common.{◌≡◌, ◌+◌, ◌*◌, length, sum_by, drop}
use Rattle.elf_obj.specs.Reading.{words_fault}
use Rattle.elf_obj.proofs.reader.words_fault.Given as goal

abbrev pub invariant-loop-row : goal.invariant-loop-row
invariant-loop-row l =
    (words_fault l.at l.text (drop l.row-index l.sites) ≡ words_fault l.first l.text l.sites)
    × (l.at + sum_by (λ row. 32 + 16 * length row.site.reps) (drop l.row-index l.sites) ≡ l.first + sum_by (λ row. 32 + 16 * length row.site.reps) l.sites)
