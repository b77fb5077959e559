-- Rows of bits as contracts see them: each row is a set of numbers.
use Rattle.std.specs.Prelude.{ℕ, List, slice_index_or, slice_set, refl}
use Rattle.std.specs.Ordering.{nat_cmp}
use Rattle.std.specs.Coded.{Coded, code_by, coded×, coded_ℕ, coded_list}
use Rattle.std.specs.FinSet as set

-- a set of bits, by their numbers
abbrev pub BitSet : Type 0
BitSet = set.FinSet nat_cmp

-- rows that each have room for the bits below `bits`
pub record BitRows : Type 0 where
  pub bits : ℕ
  pub sets : List BitSet

-- the set in a row
abbrev pub row_of : BitRows → ℕ → BitSet
row_of rows row = slice_index_or rows.sets row set.empty

-- the same rows, but for one that is this set
abbrev pub with_row : BitRows → ℕ → BitSet → BitRows
with_row rows row members = record rows { sets = slice_set rows.sets row members }

-- rows are stored as the pair of their fields
abbrev pub bit_rows_code : Coded BitRows
bit_rows_code =
    code_by (ℕ × List BitSet) (coded× coded_ℕ (coded_list (set.code coded_ℕ))) (λ r. (r.bits, r.sets)) (λ p. record { bits = p.0; sets = p.1 }) (λ _. refl)
