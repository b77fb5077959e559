-- How large the file of an object may be.
use Rattle.std.specs.Prelude.{ℕ, ◌+◌, ◌*◌, length, sum_by}
use Rattle.elf_obj.specs.declared.object.Object.{Object}

-- A word of the text has 4 bytes, a frame 16 and 8 for each slot and saved register, a site 32 and
-- 16 for each word that it reports, and a procedure 25 and those of its name. The headers, the
-- names of the sections and the gaps have at most 654.
abbrev pub size_bound : Object → ℕ
size_bound object =
    654
    + 4 * length object.text
    + sum_by (λ frame. 16 + 8 * length frame.slots + 8 * length frame.saved) object.tables.frames
    + sum_by (λ row. 32 + 16 * length row.site.reps) object.tables.sites
    + sum_by (λ symbol. 25 + length symbol.name) object.symbols
