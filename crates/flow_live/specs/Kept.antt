-- What is kept of liveness: rows for the names into each block and, after these, out of each.
use Rattle.std.specs.Prelude.{◌≡◌, ℕ, ◌+◌, ◌^◌, ◌<◌, ◌≤◌, true, length}
use Rattle.std.specs.FinSet as set
use Rattle.bit_rows.specs.BitRows.{BitRows, row_of}

-- where there are blocks and names, there are rows for both, and no row has anything but names
pub record IsKept (blocks names : ℕ) (rows : BitRows) : Type 0 where
  pub all : 0 < blocks → 0 < names → blocks + blocks ≤ length rows.sets
  pub bits : 0 < blocks → 0 < names → rows.bits ≡ names
  pub few : 0 < blocks → 0 < names → blocks ≤ 2 ^ 32
  pub within : (row name : ℕ) → set.contains (row_of rows row) name ≡ true → name < names
