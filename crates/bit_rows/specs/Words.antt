-- The words of 64 bits that rows are kept in, and what each kernel does to them.
use Rattle.std.specs.Prelude.{◌≡◌, ℕ, zero, suc, ◌+◌, ◌*◌, ◌/◌, ◌%◌, ◌^◌, ◌<◌, ◌≤◌, ◌⊎◌, ◌↔◌, ◌==◌, Bool, true, cond, List, map, slice_index, bit_and, bit_xor, count_ones, Contains}
use Rattle.std.specs.Int.{bit_at}
use Rattle.std.specs.List.{range_with_len}
use Rattle.std.specs.List.Sorted.{IsStrictlyIncreasing}
use Rattle.std.specs.FinSet as set
use Rattle.bit_rows.specs.BitRows.{BitSet}

-- whether bit q is set in the words from place `at` on, lowest bit first
abbrev pub is_one : List ℕ → ℕ → ℕ → Bool
is_one words at q = bit_at (slice_index words (at + q / 64)) (q % 64) == 1

-- the numbers below n that pass p
unfoldable pub passing : (ℕ → Bool) → ℕ → BitSet
passing p zero = set.empty
passing p (suc n) = cond (p n) (set.insert (passing p n) n) (passing p n)

-- the set that n words from place `at` on hold
unfoldable pub kept : List ℕ → ℕ → ℕ → BitSet
unfolding passing
kept words at n = passing (is_one words at) (64 * n)

-- the sets of all rows, each of `stride` words
abbrev pub sets_of : List ℕ → ℕ → ℕ → List BitSet
sets_of words stride rows = map (λ row. kept words (row * stride) stride) (range_with_len 0 rows)

-- the ones of n words from place `at` on
unfoldable pub ones_from : List ℕ → ℕ → ℕ → ℕ
ones_from words at zero = 0
ones_from words at (suc n) = ones_from words at n + count_ones (slice_index words (at + n))

-- what is left of x without the bits of y
abbrev pub without : ℕ → ℕ → ℕ
without x y = bit_xor x (bit_and x y)

-- n words from a on become f of themselves and the words from b on, and no other word changes
pub record Merges (f : ℕ → ℕ → ℕ) (old new : List ℕ) (a b n : ℕ) : Type 0 where
  pub inside : (j : ℕ) → j < n → slice_index new (a + j) ≡ f (slice_index old (a + j)) (slice_index old (b + j))
  pub below : (i : ℕ) → i < a → slice_index new i ≡ slice_index old i
  pub above : (i : ℕ) → a + n ≤ i → slice_index new i ≡ slice_index old i

-- two runs of n words are the same run or share no word
pub record Apart (a b n : ℕ) : Type 0 where
  pub runs : (a ≡ b) ⊎ ((a + n ≤ b) ⊎ (b + n ≤ a))

-- f gives nothing on the words from a on and those from b on, word by word
abbrev pub Nothing : (ℕ → ℕ → ℕ) → List ℕ → ℕ → ℕ → ℕ → Type 0
Nothing f words a b n = (j : ℕ) → j < n → f (slice_index words (a + j)) (slice_index words (b + j)) ≡ 0

-- what a union adds to x, 0 where it adds nothing
abbrev pub added : ℕ → ℕ → ℕ
added x y = without y x

-- no word changes but n words from `at` on
pub record KeepsOthers (old new : List ℕ) (at n : ℕ) : Type 0 where
  pub below : (i : ℕ) → i < at → slice_index new i ≡ slice_index old i
  pub above : (i : ℕ) → at + n ≤ i → slice_index new i ≡ slice_index old i

-- words for all rows, with room for the bits of each
pub record FillsWords (words rows stride bits : ℕ) : Type 0 where
  pub all : words ≡ rows * stride
  pub room : bits ≤ 64 * stride
  pub few : words ≤ 2 ^ 34

-- the list has the numbers below n that pass p, in rising order
pub record Lists (p : ℕ → Bool) (n : ℕ) (list : List ℕ) : Type 0 where
  pub below : (q : ℕ) → Contains list q → q < n
  pub is : (q : ℕ) → q < n → Contains list q ↔ (p q ≡ true)
  pub rising : IsStrictlyIncreasing list
