-- Rows of words as sets.
use Rattle.std.proofs.Common.{◌≡◌, ◌≢◌, ℕ, zero, suc, ◌+◌, ◌-◌, ◌*◌, ◌/◌, ◌%◌, ◌^◌, ◌<◌, ◌≤◌, inl, inr, ◌↔◌, Bool, true, false, not, ◌&&◌, ◌||◌, ltb, eqb, arith, sym, ◌∙◌, ap, refl, nat_eq, List, length, slice_index, slice_index_or, get_or, set as put, bit_or, bit_and, min, max, Fits, w64, get_or-set_same, get_or-set_other, length-set}
use Rattle.std.proofs.lemmas.Bool.{false≢true, cases_lt, cases_order, cases_eq, lt-ltb, le-ltb, eq-eqb, ne_eqb}
use Rattle.std.proofs.lemmas.List.FromFn.{fill_by_all, get_or-map-range_with_len, length-map-range_with_len}
use Rattle.std.proofs.lemmas.Nat.{row_fits, and_le_l, or_lt, xor_lt, le_or_l}
use Rattle.std.proofs.lemmas.Nat.Bits.{bit_at_or, bit_at_and, bit_at_xor, bit_at-lt, bit_at-zero, same_from_bits_below, bit_at_set_same, bit_at_set_other, bit_at_clear_same, bit_at_clear_other}
use Rattle.std.specs.Ordering.{nat_cmp}
use Rattle.std.specs.Cmp.{nat_cmp_total}
use Rattle.std.specs.Int.{bit_at, bit_not}
use Rattle.std.specs.FinSet as set
use Rattle.bit_rows.specs.BitRows.{BitSet, BitRows, row_of, with_row}
use Rattle.std.proofs.lemmas.Grind.{get_or-set_at}
use Rattle.std.proofs.lemmas.List.{set-get_or}
use Rattle.std.proofs.lemmas.Simd.{length-replicate, get_or-replicate}
use Rattle.std.specs.Prelude.{replicate}
use mathlib.Core.Bool.{and-false}
use Rattle.b3_base.proofs.Bits.{one_max}
use Rattle.bit_rows.specs.Words.{FillsWords, KeepsOthers, is_one, kept, sets_of, ones_from, without, added, Merges, Apart, Nothing}
use Rattle.bit_rows.proofs.Sets.{ap2, contains-passing, passing-same, len-passing, count_below, count_below-same, count_below-join, count_word, contains-insert_nat, contains-remove_nat}

pub contains-kept : (words : List ℕ) (at n q : ℕ) → set.contains (kept words at n) q ≡ (ltb q (64 * n) && is_one words at q)
unfolding kept
contains-kept words at n q = contains-passing (is_one words at) (64 * n) q

-- a row is the set whose members are its bits
pub kept_is : (words : List ℕ) (at n : ℕ) (s : BitSet) → ((q : ℕ) → (ltb q (64 * n) && is_one words at q) ≡ set.contains s q) → kept words at n ≡ s
kept_is words at n s same = set.same_set nat_cmp_total set.nat_cmp-IsAntisymmetric (kept words at n) s (λ q. contains-kept words at n q ∙ same q)

pub kept-same : (old new : List ℕ) (at n : ℕ) → ((i : ℕ) → at ≤ i → i < at + n → slice_index new i ≡ slice_index old i) → kept new at n ≡ kept old at n
unfolding kept
kept-same old new at n same =
    passing-same (is_one new at) (is_one old at) (64 * n) (λ q h. ap (λ w. nat_eq (bit_at w (q % 64)) 1) (same (at + q / 64) (omega arith) (omega arith)))

pub row-of : (words : List ℕ) (stride rows row : ℕ) → row < rows → slice_index_or (sets_of words stride rows) row set.empty ≡ kept words (row * stride) stride
row-of words stride rows row h = get_or-map-range_with_len (λ r. kept words (r * stride) stride) 0 rows row row set.empty h (omega arith)

pub length-sets : (words : List ℕ) (stride rows : ℕ) → length (sets_of words stride rows) ≡ rows
length-sets words stride rows = length-map-range_with_len (λ r. kept words (r * stride) stride) 0 rows

-- a row that becomes another set, with all words outside it as they were
pub sets-change : (old new : List ℕ) (stride rows row : ℕ) (s : BitSet) → row < rows
    → kept new (row * stride) stride ≡ s
    → ((i : ℕ) → i < row * stride → slice_index new i ≡ slice_index old i)
    → ((i : ℕ) → row * stride + stride ≤ i → slice_index new i ≡ slice_index old i)
    → sets_of new stride rows ≡ put (sets_of old stride rows) row s
sets-change old new stride rows row s h here below above =
    sym (fill_by_all (λ r. kept new (r * stride) stride) (put (sets_of old stride rows) row s) rows set.empty
    (length-set (sets_of old stride rows) row s ∙ length-sets old stride rows)
    (λ r lt. elim (cases_order r row) [
      | inl e ↦ ap (λ x. get_or (put (sets_of old stride rows) row s) x set.empty) e
          ∙ get_or-set_same (sets_of old stride rows) row s set.empty (omega (arith, length-sets old stride rows))
          ∙ sym (ap (λ x. kept new (x * stride) stride) e ∙ here)
      | inr other ↦
          let ne : r ≢ row = elim other [ inl a ↦ λ e. omega arith | inr a ↦ λ e. omega arith ] in
          get_or-set_other (sets_of old stride rows) row r s set.empty ne ∙ row-of old stride rows r lt
          ∙ sym (kept-same old new (r * stride) stride (λ i ge lt'. elim other [
            | inl less ↦ below i (omega (arith, row_fits r stride row stride less (omega arith)))
            | inr more ↦ above i (omega (arith, row_fits row stride r stride more (omega arith)))
          ]))
    ]))

-- ---- one bit

pub one_set : (words : List ℕ) (at bit q : ℕ) → at + bit / 64 < length words
    → is_one (put words (at + bit / 64) (bit_or (slice_index words (at + bit / 64)) (1 * 2 ^ (bit % 64) % 2 ^ 64))) at q ≡ (eqb q bit || is_one words at q)
one_set words at bit q h =
    let new : ℕ = bit_or (slice_index words (at + bit / 64)) (1 * 2 ^ (bit % 64) % 2 ^ 64) in
    elim (cases_eq (q / 64) (bit / 64)) [
      | inl e ↦
          let here : slice_index (put words (at + bit / 64) new) (at + q / 64) ≡ new = get_or-set_at words (at + bit / 64) (at + q / 64) new 0 (omega arith) h in
          elim (cases_eq (q % 64) (bit % 64)) [
            | inl e' ↦ ap2 (λ w k. nat_eq (bit_at w k) 1) here e' ∙ ap (λ d. nat_eq d 1) (bit_at_set_same w64 (slice_index words (at + bit / 64)) (bit % 64) (omega arith))
                ∙ sym (ap (λ b. b || is_one words at q) (eq-eqb q bit (omega arith)))
            | inr ne ↦ ap (λ w. nat_eq (bit_at w (q % 64)) 1) here ∙ ap (λ d. nat_eq d 1) (bit_at_set_other w64 (slice_index words (at + bit / 64)) (bit % 64) (omega arith) (q % 64) ne)
                ∙ ap (λ i. nat_eq (bit_at (slice_index words i) (q % 64)) 1) (omega arith)
                ∙ sym (ap (λ b. b || is_one words at q) (ne_eqb q bit (λ x. ne (ap (λ y. y % 64) x))))
          ]
      | inr ne ↦
          ap (λ w. nat_eq (bit_at w (q % 64)) 1) (get_or-set_other words (at + bit / 64) (at + q / 64) new 0 (λ x. ne (omega arith)))
          ∙ sym (ap (λ b. b || is_one words at q) (ne_eqb q bit (λ x. ne (ap (λ y. y / 64) x))))
    ]

pub one_cleared : (words : List ℕ) (at bit q : ℕ) → at + bit / 64 < length words
    → is_one (put words (at + bit / 64) (bit_and (slice_index words (at + bit / 64)) (bit_not w64 (1 * 2 ^ (bit % 64) % 2 ^ 64)))) at q ≡ (not (eqb q bit) && is_one words at q)
one_cleared words at bit q h =
    let new : ℕ = bit_and (slice_index words (at + bit / 64)) (bit_not w64 (1 * 2 ^ (bit % 64) % 2 ^ 64)) in
    elim (cases_eq (q / 64) (bit / 64)) [
      | inl e ↦
          let here : slice_index (put words (at + bit / 64) new) (at + q / 64) ≡ new = get_or-set_at words (at + bit / 64) (at + q / 64) new 0 (omega arith) h in
          elim (cases_eq (q % 64) (bit % 64)) [
            | inl e' ↦ ap2 (λ w k. nat_eq (bit_at w k) 1) here e' ∙ ap (λ d. nat_eq d 1) (bit_at_clear_same w64 (slice_index words (at + bit / 64)) (bit % 64) (omega arith))
                ∙ sym (ap (λ b. not b && is_one words at q) (eq-eqb q bit (omega arith)))
            | inr ne ↦ ap (λ w. nat_eq (bit_at w (q % 64)) 1) here ∙ ap (λ d. nat_eq d 1) (bit_at_clear_other w64 (slice_index words (at + bit / 64)) (bit % 64) (omega arith) (q % 64) (omega arith) ne)
                ∙ ap (λ i. nat_eq (bit_at (slice_index words i) (q % 64)) 1) (omega arith)
                ∙ sym (ap (λ b. not b && is_one words at q) (ne_eqb q bit (λ x. ne (ap (λ y. y % 64) x))))
          ]
      | inr ne ↦
          ap (λ w. nat_eq (bit_at w (q % 64)) 1) (get_or-set_other words (at + bit / 64) (at + q / 64) new 0 (λ x. ne (omega arith)))
          ∙ sym (ap (λ b. not b && is_one words at q) (ne_eqb q bit (λ x. ne (ap (λ y. y / 64) x))))
    ]

-- ---- runs of words as sets

pub one_at : (words : List ℕ) (at j i : ℕ) → i < 64 → is_one words at (64 * j + i) ≡ nat_eq (bit_at (slice_index words (at + j)) i) 1
one_at words at j i h =
    let d : (64 * j + i) / 64 ≡ j = omega arith in
    let m : (64 * j + i) % 64 ≡ i = omega arith in
    ap2 (λ x y. nat_eq (bit_at (slice_index words (at + x)) y) 1) d m

one_less : (x y : ℕ) → x < 2 → y < 2 → nat_eq ((x + min x y) % 2) 1 ≡ (nat_eq x 1 && not (nat_eq y 1))
one_less zero zero hx hy = refl
one_less zero (suc zero) hx hy = refl
one_less (suc zero) zero hx hy = refl
one_less (suc zero) (suc zero) hx hy = refl
one_less (suc (suc x)) y hx hy = absurd (omega arith)
one_less x (suc (suc y)) hx hy = absurd (omega arith)

one_min : (x y : ℕ) → x < 2 → y < 2 → nat_eq (min x y) 1 ≡ (nat_eq x 1 && nat_eq y 1)
one_min zero zero hx hy = refl
one_min zero (suc zero) hx hy = refl
one_min (suc zero) zero hx hy = refl
one_min (suc zero) (suc zero) hx hy = refl
one_min (suc (suc x)) y hx hy = absurd (omega arith)
one_min x (suc (suc y)) hx hy = absurd (omega arith)

-- a run whose bits are op of two runs' bits is the set that op makes of their sets
kept_by : (op : Bool → Bool → Bool) → op false false ≡ false → (make : BitSet → BitSet → BitSet)
    → ((s t : BitSet) (q : ℕ) → set.contains (make s t) q ≡ op (set.contains s q) (set.contains t q))
    → (old new : List ℕ) (a b n : ℕ) → ((q : ℕ) → q < 64 * n → is_one new a q ≡ op (is_one old a q) (is_one old b q))
    → kept new a n ≡ make (kept old a n) (kept old b n)
kept_by op none make law old new a b n bits =
    kept_is new a n (make (kept old a n) (kept old b n)) (λ q.
    let right : set.contains (make (kept old a n) (kept old b n)) q ≡ op (ltb q (64 * n) && is_one old a q) (ltb q (64 * n) && is_one old b q) =
    law (kept old a n) (kept old b n) q ∙ ap2 op (contains-kept old a n q) (contains-kept old b n q) in
    elim (cases_lt q (64 * n)) [
      | inl lt ↦ ap (λ t. t && is_one new a q) (lt-ltb q (64 * n) lt) ∙ bits q lt
          ∙ sym (right ∙ ap (λ t. op (t && is_one old a q) (t && is_one old b q)) (lt-ltb q (64 * n) lt))
      | inr ge ↦ ap (λ t. t && is_one new a q) (le-ltb q (64 * n) ge)
          ∙ sym (right ∙ ap (λ t. op (t && is_one old a q) (t && is_one old b q)) (le-ltb q (64 * n) ge) ∙ none)
    ])

pub kept-union : (old new : List ℕ) (a b n : ℕ) → Merges bit_or old new a b n → kept new a n ≡ set.union (kept old a n) (kept old b n)
kept-union old new a b n m =
    kept_by (λ x y. x || y) refl set.union (set.contains-union nat_cmp_total) old new a b n (λ q h.
    ap (λ w. nat_eq (bit_at w (q % 64)) 1) (m.inside (q / 64) (omega arith))
    ∙ ap (λ d. nat_eq d 1) (bit_at_or (slice_index old (a + q / 64)) (slice_index old (b + q / 64)) (q % 64))
    ∙ one_max (bit_at (slice_index old (a + q / 64)) (q % 64)) (bit_at (slice_index old (b + q / 64)) (q % 64)) (bit_at-lt (slice_index old (a + q / 64)) (q % 64)) (bit_at-lt (slice_index old (b + q / 64)) (q % 64)))

-- a bit of x without y
bit_without : (x y i : ℕ) → bit_at (without x y) i ≡ (bit_at x i + min (bit_at x i) (bit_at y i)) % 2
bit_without x y i = bit_at_xor x (bit_and x y) i ∙ ap (λ d. (bit_at x i + d) % 2) (bit_at_and x y i)

pub kept-difference : (old new : List ℕ) (a b n : ℕ) → Merges without old new a b n → kept new a n ≡ set.difference (kept old a n) (kept old b n)
kept-difference old new a b n m =
    kept_by (λ x y. x && not y) refl set.difference (set.contains-difference nat_cmp_total) old new a b n (λ q h.
    ap (λ w. nat_eq (bit_at w (q % 64)) 1) (m.inside (q / 64) (omega arith))
    ∙ ap (λ d. nat_eq d 1) (bit_without (slice_index old (a + q / 64)) (slice_index old (b + q / 64)) (q % 64))
    ∙ one_less (bit_at (slice_index old (a + q / 64)) (q % 64)) (bit_at (slice_index old (b + q / 64)) (q % 64)) (bit_at-lt (slice_index old (a + q / 64)) (q % 64)) (bit_at-lt (slice_index old (b + q / 64)) (q % 64)))

-- nothing is added to x where each bit of y is in x already, and else something is
added-none : (x y : ℕ) → Fits w64 x → Fits w64 y → ((i : ℕ) → i < 64 → nat_eq (bit_at (bit_or x y) i) 1 ≡ nat_eq (bit_at x i) 1) → added x y ≡ 0
added-none x y fx fy same =
    same_from_bits_below 64 (added x y) 0 (xor_lt 64 y (bit_and y x) fy.fits (omega (arith, and_le_l y x, fy.fits))) (omega arith) (λ i h.
    bit_without y x i
    ∙ none (bit_at x i) (bit_at y i) (bit_at-lt x i) (bit_at-lt y i) (sym (ap (λ d. nat_eq d 1) (bit_at_or x y i)) ∙ same i h)
    ∙ sym (bit_at-zero i))
  where
    none : (a b : ℕ) → a < 2 → b < 2 → nat_eq (max a b) 1 ≡ nat_eq a 1 → (b + min b a) % 2 ≡ 0
    none zero zero ha hb e = refl
    none zero (suc zero) ha hb e = absurd (false≢true (sym e))
    none (suc zero) zero ha hb e = refl
    none (suc zero) (suc zero) ha hb e = refl
    none (suc (suc a)) b ha hb e = absurd (omega arith)
    none a (suc (suc b)) ha hb e = absurd (omega arith)

or-of_added : (x y : ℕ) → Fits w64 x → Fits w64 y → added x y ≡ 0 → bit_or x y ≡ x
or-of_added x y fx fy e =
    same_from_bits_below 64 (bit_or x y) x (or_lt 64 x y fx.fits fy.fits) fx.fits (λ i h.
    bit_at_or x y i
    ∙ all (bit_at x i) (bit_at y i) (bit_at-lt x i) (bit_at-lt y i) (sym (bit_without y x i) ∙ ap (λ w. bit_at w i) e ∙ bit_at-zero i))
  where
    all : (a b : ℕ) → a < 2 → b < 2 → (b + min b a) % 2 ≡ 0 → max a b ≡ a
    all zero zero ha hb e = refl
    all zero (suc zero) ha hb e = absurd (omega arith)
    all (suc zero) zero ha hb e = refl
    all (suc zero) (suc zero) ha hb e = refl
    all (suc (suc a)) b ha hb e = absurd (omega arith)
    all a (suc (suc b)) ha hb e = absurd (omega arith)

-- where the words of a union fit, so did those before it
fits_before : (old new : List ℕ) (a b n : ℕ) → ((i : ℕ) → Fits w64 (get_or new i 0)) → Merges bit_or old new a b n → (i : ℕ) → Fits w64 (get_or old i 0)
fits_before old new a b n fits m i =
    elim (cases_lt i a) [
      | inl below ↦ record { fits = omega (arith, (fits i).fits, m.below i below) }
      | inr from ↦ elim (cases_lt i (a + n)) [
        | inl inside ↦
            let j : ℕ = i - a in
            let at : a + j ≡ i = omega arith in
            let here : slice_index new i ≡ bit_or (slice_index old i) (slice_index old (b + j)) =
            ap (slice_index new) (sym at) ∙ m.inside j (omega arith) ∙ ap (λ k. bit_or (slice_index old k) (slice_index old (b + j))) at in
            record { fits = omega (arith, (fits i).fits, here, le_or_l (slice_index old i) (slice_index old (b + j))) }
        | inr above ↦ record { fits = omega (arith, (fits i).fits, m.above i above) }
      ]
    ]

-- a union leaves a run's set as it was exactly where it adds nothing
pub union_still : (old new : List ℕ) (a b n : ℕ) → ((i : ℕ) → Fits w64 (get_or new i 0)) → Merges bit_or old new a b n
    → Nothing added old a b n ↔ (kept new a n ≡ kept old a n)
union_still old new a b n fits_new m =
    let fits = fits_before old new a b n fits_new m in (
      λ none. kept-same old new a n (λ i ge lt.
          let j : ℕ = i - a in
          let at : a + j ≡ i = omega arith in
          ap (slice_index new) (sym at) ∙ m.inside j (omega arith)
          ∙ or-of_added (slice_index old (a + j)) (slice_index old (b + j)) (fits (a + j)) (fits (b + j)) (none j (omega arith)) ∙ ap (slice_index old) at),
      λ same j h.
          added-none (slice_index old (a + j)) (slice_index old (b + j)) (fits (a + j)) (fits (b + j)) (λ i lt.
          let q : ℕ = 64 * j + i in
          let inside : ltb q (64 * n) ≡ true = lt-ltb q (64 * n) (omega arith) in
          let new_bit : set.contains (kept new a n) q ≡ is_one new a q = contains-kept new a n q ∙ ap (λ t. t && is_one new a q) inside in
          let old_bit : set.contains (kept old a n) q ≡ is_one old a q = contains-kept old a n q ∙ ap (λ t. t && is_one old a q) inside in
          ap (λ w. nat_eq (bit_at w i) 1) (sym (m.inside j h)) ∙ sym (one_at new a j i lt)
          ∙ sym new_bit ∙ ap (λ s. set.contains s q) same ∙ old_bit ∙ one_at old a j i lt),
    )

-- two runs have no number in common exactly where their words have no bit in common
pub meet_none : (words : List ℕ) (a b n : ℕ) → ((i : ℕ) → Fits w64 (get_or words i 0))
    → Nothing bit_and words a b n ↔ (set.intersection (kept words a n) (kept words b n) ≡ set.empty)
meet_none words a b n fits =
    let both : (q : ℕ) → set.contains (set.intersection (kept words a n) (kept words b n)) q ≡ ((ltb q (64 * n) && is_one words a q) && (ltb q (64 * n) && is_one words b q)) =
    λ q. set.contains-intersection nat_cmp_total (kept words a n) (kept words b n) q ∙ ap2 (λ x y. x && y) (contains-kept words a n q) (contains-kept words b n q) in (
      λ none. set.same_set nat_cmp_total set.nat_cmp-IsAntisymmetric (set.intersection (kept words a n) (kept words b n)) set.empty (λ q.
          both q
          ∙ elim (cases_lt q (64 * n)) [
            | inl lt ↦ ap (λ t. (t && is_one words a q) && (t && is_one words b q)) (lt-ltb q (64 * n) lt)
                ∙ sym (one_min (bit_at (slice_index words (a + q / 64)) (q % 64)) (bit_at (slice_index words (b + q / 64)) (q % 64)) (bit_at-lt (slice_index words (a + q / 64)) (q % 64)) (bit_at-lt (slice_index words (b + q / 64)) (q % 64)))
                ∙ ap (λ d. nat_eq d 1) (sym (bit_at_and (slice_index words (a + q / 64)) (slice_index words (b + q / 64)) (q % 64)) ∙ ap (λ w. bit_at w (q % 64)) (none (q / 64) (omega arith)) ∙ bit_at-zero (q % 64))
            | inr ge ↦ ap (λ t. (t && is_one words a q) && (t && is_one words b q)) (le-ltb q (64 * n) ge)
          ]
          ∙ sym (set.contains-empty nat_cmp q)),
      λ empty j h.
          same_from_bits_below 64 (bit_and (slice_index words (a + j)) (slice_index words (b + j))) 0
          (omega (arith, and_le_l (slice_index words (a + j)) (slice_index words (b + j)), (fits (a + j)).fits)) (omega arith) (λ i lt.
          let q : ℕ = 64 * j + i in
          let inside : ltb q (64 * n) ≡ true = lt-ltb q (64 * n) (omega arith) in
          let x : ℕ = bit_at (slice_index words (a + j)) i in
          let y : ℕ = bit_at (slice_index words (b + j)) i in
          let none : (nat_eq x 1 && nat_eq y 1) ≡ false =
          sym (both q ∙ ap (λ t. (t && is_one words a q) && (t && is_one words b q)) inside ∙ ap2 (λ s t. s && t) (one_at words a j i lt) (one_at words b j i lt))
          ∙ ap (λ s. set.contains s q) empty ∙ set.contains-empty nat_cmp q in
          bit_at_and (slice_index words (a + j)) (slice_index words (b + j)) i
          ∙ zero_of (min x y) (omega (arith, bit_at-lt (slice_index words (a + j)) i)) (one_min x y (bit_at-lt (slice_index words (a + j)) i) (bit_at-lt (slice_index words (b + j)) i) ∙ none)
          ∙ sym (bit_at-zero i)),
    )
  where
    zero_of : (d : ℕ) → d < 2 → nat_eq d 1 ≡ false → d ≡ 0
    zero_of zero h e = refl
    zero_of (suc zero) h e = absurd (false≢true (sym e))
    zero_of (suc (suc d)) h e = absurd (omega arith)

count_run : (words : List ℕ) (at n : ℕ) → ((i : ℕ) → Fits w64 (get_or words i 0)) → count_below (is_one words at) (64 * n) ≡ ones_from words at n
unfolding ones_from
count_run words at zero fits = refl
count_run words at (suc n) fits =
    count_below-join (is_one words at) (64 * n) 64 (64 * suc n) (omega arith)
    ∙ ap2 (λ x y. x + y) (count_run words at n fits)
    (count_below-same (λ i. is_one words at (64 * n + i)) (λ i. nat_eq (bit_at (slice_index words (at + n)) i) 1) 64 (λ i h. one_at words at n i h)
    ∙ count_word 64 (slice_index words (at + n)) (fits (at + n)).fits)

-- a run has as many numbers as its words have ones
pub len-kept : (words : List ℕ) (at n : ℕ) → ((i : ℕ) → Fits w64 (get_or words i 0)) → ones_from words at n ≡ set.len (kept words at n)
unfolding kept
len-kept words at n fits = sym (len-passing (is_one words at) (64 * n) ∙ count_run words at n fits)

-- the runs of two rows are one run or apart
pub rows_apart : (r s stride : ℕ) → Apart (r * stride) (s * stride) stride
rows_apart r s stride =
    record {
      runs = elim (cases_order r s) [
        | inl e ↦ inl (ap (λ x. x * stride) e)
        | inr other ↦ elim other [
          | inl less ↦ inr (inl (row_fits r stride s stride less (omega arith)))
          | inr more ↦ inr (inr (row_fits s stride r stride more (omega arith)))
        ]
      ];
    }

-- ---- rows as their value

-- the value of rows of words
abbrev pub seen : List ℕ → ℕ → ℕ → ℕ → BitRows
seen words stride rows bits = record { bits = bits; sets = sets_of words stride rows }

swap_and : (a b c : Bool) → (a && (b && c)) ≡ (b && (a && c))
swap_and true b c = refl
swap_and false true c = refl
swap_and false false c = refl

module _ (words : List ℕ) (stride rows bits : ℕ) (v : BitRows) (e : seen words stride rows bits ≡ v) where
  pub row_ok : (row : ℕ) → row < length v.sets → row < rows
  row_ok row h = omega (arith, length-sets words stride rows, ap (λ (r : BitRows). length r.sets) e)

  pub bit_ok : (bit : ℕ) → bit < v.bits → bit < bits
  bit_ok bit h = omega (arith, ap (λ (r : BitRows). r.bits) e)

  pub row-seen : (row : ℕ) → row < length v.sets → kept words (row * stride) stride ≡ row_of v row
  row-seen row h = sym (row-of words stride rows row (row_ok row h)) ∙ ap (λ r. row_of r row) e

  pub row_within : (n row : ℕ) → row < length v.sets → FillsWords n rows stride bits → row * stride + stride ≤ n
  row_within n row h fills = omega (arith, fills.all, row_fits row stride rows stride (row_ok row h) (omega arith))

  pub row_changed : (new : List ℕ) (row : ℕ) (s : BitSet) → row < length v.sets
      → kept new (row * stride) stride ≡ s → KeepsOthers words new (row * stride) stride
      → seen new stride rows bits ≡ with_row v row s
  row_changed new row s h here others =
      ap (λ (l : List BitSet). let r : BitRows = record { bits = bits; sets = l } in r) (sets-change words new stride rows row s (row_ok row h) here others.below others.above)
      ∙ ap (λ r. with_row r row s) e

  -- a row keeps its set exactly where all rows keep theirs
  pub row_still : (new : List ℕ) (row : ℕ) → row < length v.sets → KeepsOthers words new (row * stride) stride
      → (kept new (row * stride) stride ≡ kept words (row * stride) stride) ↔ (seen new stride rows bits ≡ v)
  row_still new row h others = (
    λ same. row_changed new row (row_of v row) h (same ∙ row-seen row h) others ∙ with_row_itself row,
    λ same. sym (row-of new stride rows row (row_ok row h)) ∙ ap (λ r. row_of r row) same ∙ sym (row-seen row h),
  )
    where
      with_row_itself : (row : ℕ) → with_row v row (row_of v row) ≡ v
      with_row_itself row = ap (λ (l : List BitSet). let r : BitRows = record { bits = v.bits; sets = l } in r) (set-get_or v.sets row set.empty)

  with_bits : (new : List ℕ) (row bit : ℕ) (s : BitSet) → row < length v.sets → bit < v.bits → bits ≤ 64 * stride
      → ((q : ℕ) → (ltb q (64 * stride) && is_one new (row * stride) q) ≡ set.contains s q)
      → ((i : ℕ) → i ≢ row * stride + bit / 64 → slice_index new i ≡ slice_index words i)
      → seen new stride rows bits ≡ with_row v row s
  with_bits new row bit s h b room is others =
      let low = bit_ok bit b in
      row_changed new row s h (kept_is new (row * stride) stride s is)
      (record { below = λ i lt. others i (λ e. omega arith); above = λ i ge. others i (λ e. omega arith) })

  pub row_with_bit : (new : List ℕ) (row bit : ℕ) → row < length v.sets → bit < v.bits → bits ≤ 64 * stride
      → ((q : ℕ) → is_one new (row * stride) q ≡ (eqb q bit || is_one words (row * stride) q))
      → ((i : ℕ) → i ≢ row * stride + bit / 64 → slice_index new i ≡ slice_index words i)
      → seen new stride rows bits ≡ with_row v row (set.insert (row_of v row) bit)
  row_with_bit new row bit h b room is others =
      let low = bit_ok bit b in
      with_bits new row bit (set.insert (row_of v row) bit) h b room (λ q.
      ap (λ t. ltb q (64 * stride) && t) (is q)
      ∙ elim (cases_eq q bit) [
        | inl e ↦ ap2 (λ s t. s && (t || is_one words (row * stride) q)) (lt-ltb q (64 * stride) (omega arith)) (eq-eqb q bit e) ∙ sym (ap (λ t. t || set.contains (row_of v row) q) (eq-eqb q bit e))
        | inr ne ↦ ap (λ t. ltb q (64 * stride) && (t || is_one words (row * stride) q)) (ne_eqb q bit ne)
            ∙ sym (contains-kept words (row * stride) stride q) ∙ ap (λ s. set.contains s q) (row-seen row h)
            ∙ sym (ap (λ t. t || set.contains (row_of v row) q) (ne_eqb q bit ne))
      ]
      ∙ sym (contains-insert_nat (row_of v row) bit q)) others

  pub row_without_bit : (new : List ℕ) (row bit : ℕ) → row < length v.sets → bit < v.bits → bits ≤ 64 * stride
      → ((q : ℕ) → is_one new (row * stride) q ≡ (not (eqb q bit) && is_one words (row * stride) q))
      → ((i : ℕ) → i ≢ row * stride + bit / 64 → slice_index new i ≡ slice_index words i)
      → seen new stride rows bits ≡ with_row v row (set.remove (row_of v row) bit)
  row_without_bit new row bit h b room is others =
      with_bits new row bit (set.remove (row_of v row) bit) h b room (λ q.
      ap (λ t. ltb q (64 * stride) && t) (is q)
      ∙ swap_and (ltb q (64 * stride)) (not (eqb q bit)) (is_one words (row * stride) q)
      ∙ ap (λ t. not (eqb q bit) && t) (sym (contains-kept words (row * stride) stride q) ∙ ap (λ s. set.contains s q) (row-seen row h))
      ∙ sym (contains-remove_nat (row_of v row) bit q)) others

abbrev pub none_of : ℕ → List ℕ
none_of n = replicate n 0

zeros : (n i : ℕ) → slice_index (none_of n) i ≡ 0
zeros zero i = refl
zeros (suc n) zero = refl
zeros (suc n) (suc i) = zeros n i

-- words that are all 0 hold empty sets
pub sets-zeros : (n stride rows : ℕ) → sets_of (none_of n) stride rows ≡ replicate rows set.empty
sets-zeros n stride rows =
    sym (fill_by_all (λ r. kept (none_of n) (r * stride) stride) (replicate rows set.empty) rows set.empty (length-replicate rows set.empty)
    (λ r h. get_or-replicate rows r set.empty set.empty h
    ∙ sym (kept_is (none_of n) (r * stride) stride set.empty (λ q.
    ap (λ w. ltb q (64 * stride) && nat_eq (bit_at w (q % 64)) 1) (zeros n (r * stride + q / 64))
    ∙ ap (λ d. ltb q (64 * stride) && nat_eq d 1) (bit_at-zero (q % 64))
    ∙ and-false (ltb q (64 * stride)) ∙ sym (set.contains-empty nat_cmp q)))))
