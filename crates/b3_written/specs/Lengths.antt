-- How many bytes the canonical line of a row may have.
use Rattle.std.specs.Prelude.{ℕ, ◌+◌, ◌*◌, length}
use Rattle.b3_rows.specs.Successors.{case_count}
use Rattle.b3_rows.specs.declared.row.Row.{Row}
use Rattle.b3_rows.specs.declared.row.Row.TheVariants as rows

-- the most of a row in its range, without the LF at its end. A name has 255 bytes, a number 10 digits, a word 20
-- characters, a child with its constraint and the comma and the blank behind it 38, and the items of a stackmap 476
abbrev pub most_bytes : Row → ℕ
most_bytes (rows.Header name) = 265
most_bytes (rows.Slot number bytes) = 42
most_bytes (rows.Heading number) = 14
most_bytes (rows.ValueRow v) = 522 + 38 * length v.children + 22 * case_count v.body
most_bytes rows.NoSuccessors = 13
most_bytes (rows.One target) = 25
most_bytes (rows.Two a b) = 48
most_bytes (rows.Many targets) = 26 + 13 * length targets
most_bytes row = 0
