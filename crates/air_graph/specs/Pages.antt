-- No public clause cites this module. A set of numbers by bits in pages of 4096.
use Rattle.std.specs.Prelude.{◌≡◌, ℕ, ◌*◌, ◌/◌, ◌%◌, ◌≤◌, Bool, List, [], length, slice_index_or, refl}
use Rattle.std.specs.Coded.{Coded, code_by, coded×, coded_ℕ}
use Rattle.std.specs.FinSet as set
use Rattle.bit_rows.specs.BitRows.{BitSet}
use Rattle.bit_rows.specs.Words.{is_one, passing}

-- numbers below `bits`
pub record PagedBits : Type 0 where
  pub bits : ℕ
  pub members : BitSet

-- they are stored as the pair of their fields
abbrev pub paged_bits_code : Coded PagedBits
paged_bits_code =
    code_by (ℕ × BitSet) (coded× coded_ℕ (set.code coded_ℕ)) (λ p. (p.bits, p.members))
    (λ p. record { bits = p.0; members = p.1 }) (λ _. refl)

-- whether the number is a bit of its page
abbrev pub is_in_pages : List (List ℕ) → ℕ → Bool
is_in_pages pages q = is_one (slice_index_or pages (q / 4096) []) 0 (q % 4096)

unfoldable pub members_in : List (List ℕ) → ℕ → BitSet
members_in pages bits = passing (is_in_pages pages) bits

-- there is a page for each number
pub record ArePages (pages : List (List ℕ)) (bits : ℕ) : Type 0 where
  pub room : bits ≤ 4096 * length pages
