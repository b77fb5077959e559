-- Which registers a site may change, by its bits.
use Rattle.std.proofs.Common.{◌≡◌, ◌≢◌, ℕ, ◌+◌, ◌-◌, ◌*◌, ◌/◌, ◌%◌, ◌^◌, ◌≤◌, ◌<◌, ◌⊎◌, min, inl, inr, refl, sym, ap, ◌∙◌, arith}
use Rattle.std.specs.Prelude.{IsBitSet, ◌↔◌, bit_and}
use Rattle.std.specs.Int.{bit_at}
use Rattle.std.proofs.lemmas.Bool.{cases_lt, cases_order}
use Rattle.std.proofs.lemmas.Nat.{pow_pos}
use Rattle.std.proofs.lemmas.Nat.Bits.{and_pow, bit_at-lt, bit_at-zero, bit_at_and, bit_at_above, bit_at_ones, bit_at-pow_other, bit_at_cat_low, bit_at_cat_high, same_from_bits}

bit_cases : (n r : ℕ) → (bit_at n r ≡ 0) ⊎ (bit_at n r ≡ 1)
bit_cases n r =
    let two : bit_at n r < 2 = bit_at-lt n r in
    elim (cases_lt 0 (bit_at n r)) [ inl some ↦ inr (omega arith) | inr none ↦ inl (omega arith) ]

-- a bit that is set is 1
not_set : (n r : ℕ) → bit_at n r ≡ 0 → bit_and n (2 ^ r) ≡ 0
not_set n r zero = let product : 0 * 2 ^ r ≡ 0 = omega arith in and_pow n r ∙ ap (λ (k : ℕ). k * 2 ^ r) zero ∙ product

set_is : (n r : ℕ) → IsBitSet n r → bit_at n r ≡ 1
set_is n r set = elim (bit_cases n r) [ inl zero ↦ absurd (set (not_set n r zero)) | inr one ↦ one ]

is_set : (n r : ℕ) → bit_at n r ≡ 1 → IsBitSet n r
is_set n r one = λ e.
    let same : bit_and n (2 ^ r) ≡ 1 * 2 ^ r = and_pow n r ∙ ap (λ (k : ℕ). k * 2 ^ r) one in
    let positive : 0 < 2 ^ r = pow_pos r in
    omega (arith, e, same)

-- ---- a call changes x0 to x18 and x30

abbrev OfCall : ℕ → Type 0
OfCall r = (r ≤ 18) ⊎ (r ≡ 30)

of_call_bit : (r : ℕ) → OfCall r → bit_at 0x4007FFFF r ≡ 1
of_call_bit r (inl le) = bit_at_cat_low 2048 19 524287 r (omega arith) ∙ bit_at_ones 19 r (omega arith)
of_call_bit r (inr is) = ap (λ (k : ℕ). bit_at 0x4007FFFF k) is

bit_of_call : (r : ℕ) → bit_at 0x4007FFFF r ≡ 1 → OfCall r
bit_of_call r one =
    elim (cases_lt r 19) [
      | inl lt ↦ inl (omega arith)
      | inr le ↦ elim (cases_order r 30) [
        | inl same ↦ inr same
        | inr other ↦
            let differs : r - 19 ≢ 11 = λ e. elim other [ inl lt ↦ absurd (omega arith) | inr gt ↦ absurd (omega arith) ] in
            let high : bit_at 0x4007FFFF r ≡ bit_at 2048 (r - 19) = bit_at_cat_high 2048 19 524287 r (omega arith) le in
            let zero : bit_at 0x4007FFFF r ≡ 0 = high ∙ bit_at-pow_other 11 (r - 19) differs in
            absurd (omega arith)
      ]
    ]

pub call_clobbers : (n : ℕ) → n ≡ 0x4007FFFF → (r : ℕ) → IsBitSet n r ↔ OfCall r
call_clobbers n is r = rw is ((λ set. bit_of_call r (set_is 0x4007FFFF r set)), (λ of. is_set 0x4007FFFF r (of_call_bit r of)))

pub clobbers_call : (n : ℕ) → ((r : ℕ) → IsBitSet n r ↔ OfCall r) → n ≡ 0x4007FFFF
clobbers_call n each = same_from_bits n 0x4007FFFF (λ r.
    elim (bit_cases 0x4007FFFF r) [
      | inl zero ↦ elim (bit_cases n r) [
        | inl none ↦ none ∙ sym zero
        | inr one ↦ let there : bit_at 0x4007FFFF r ≡ 1 = of_call_bit r ((each r).0 (is_set n r one)) in absurd (omega arith)
      ]
      | inr one ↦ set_is n r ((each r).1 (bit_of_call r one)) ∙ sym one
    ])

-- ---- a patchpoint changes neither x18 nor x29

abbrev OfPatchpoint : ℕ → Type 0
OfPatchpoint r = (r ≤ 17) ⊎ ((19 ≤ r) × (r ≤ 28)) ⊎ (r ≡ 30)

-- a bit of a number is clear where it is set in a mask that leaves nothing
masked : (n r : ℕ) → bit_and n 0x20040000 ≡ 0 → bit_at 0x20040000 r ≡ 1 → bit_at n r ≡ 0
masked n r none one =
    let both : min (bit_at n r) 1 ≡ 0 = ap (λ (k : ℕ). min (bit_at n r) k) (sym one) ∙ sym (bit_at_and n 0x20040000 r) ∙ ap (λ (k : ℕ). bit_at k r) none ∙ bit_at-zero r in
    elim (bit_cases n r) [ inl zero ↦ zero | inr set ↦ let two : min 1 1 ≡ 0 = ap (λ (k : ℕ). min k 1) (sym set) ∙ both in absurd (omega arith) ]

pub patchpoint_clobbers : (n : ℕ) → n < 2 ^ 31 → bit_and n 0x20040000 ≡ 0 → (r : ℕ) → IsBitSet n r → OfPatchpoint r
patchpoint_clobbers n lt none r set =
    let one : bit_at n r ≡ 1 = set_is n r set in
    elim (cases_lt r 31) [
      | inr above ↦ let zero : bit_at n r ≡ 0 = bit_at_above n 31 r lt above in absurd (omega arith)
      | inl below ↦ elim (cases_order r 18) [
        | inl is ↦ let zero : bit_at n 18 ≡ 0 = masked n 18 none refl in let same : bit_at n r ≡ bit_at n 18 = ap (λ (k : ℕ). bit_at n k) is in absurd (omega arith)
        | inr not_18 ↦ elim not_18 [
          | inl low ↦ inl (omega arith)
          | inr high ↦ elim (cases_order r 29) [
            | inl is ↦ let zero : bit_at n 29 ≡ 0 = masked n 29 none refl in let same : bit_at n r ≡ bit_at n 29 = ap (λ (k : ℕ). bit_at n k) is in absurd (omega arith)
            | inr not_29 ↦ elim not_29 [ inl less ↦ inr (inl (omega arith, omega arith)) | inr more ↦ inr (inr (omega arith)) ]
          ]
        ]
      ]
    ]

of_patchpoint : (r : ℕ) → OfPatchpoint r → (r ≤ 30) × (r ≢ 18) × (r ≢ 29)
of_patchpoint r (inl le) = (omega arith, λ e. absurd (omega arith), λ e. absurd (omega arith))
of_patchpoint r (inr (inl both)) = (omega arith, λ e. absurd (omega arith), λ e. absurd (omega arith))
of_patchpoint r (inr (inr is)) = (omega arith, λ e. absurd (omega arith), λ e. absurd (omega arith))

-- the mask has these two bits alone
mask_bit : (r : ℕ) → r ≢ 18 → r ≢ 29 → bit_at 0x20040000 r ≡ 0
mask_bit r not_18 not_29 =
    elim (cases_lt r 19) [
      | inl lt ↦ bit_at_cat_low 1024 19 262144 r lt ∙ bit_at-pow_other 18 r not_18
      | inr le ↦
          let differs : r - 19 ≢ 10 = λ e. not_29 (omega arith) in
          bit_at_cat_high 1024 19 262144 r (omega arith) le ∙ bit_at-pow_other 10 (r - 19) differs
    ]

unset : (n r : ℕ) → (IsBitSet n r → ⊥) → bit_at n r ≡ 0
unset n r h = elim (bit_cases n r) [ inl zero ↦ zero | inr one ↦ absurd (h (is_set n r one)) ]

-- a number without a bit from 31 on is below 2^31
below_31 : (n : ℕ) → ((r : ℕ) → 31 ≤ r → bit_at n r ≡ 0) → n < 2 ^ 31
below_31 n none =
    let a : ℕ = n / 2147483648 in
    let b : ℕ = n % 2147483648 in
    let low : b < 2 ^ 31 = omega arith in
    let whole : a * 2 ^ 31 + b ≡ n = omega arith in
    let high : (i : ℕ) → bit_at a i ≡ bit_at 0 i = λ i.
    let there : bit_at (a * 2 ^ 31 + b) (31 + i) ≡ bit_at a (31 + i - 31) = bit_at_cat_high a 31 b (31 + i) low (omega arith) in
    let place : 31 + i - 31 ≡ i = omega arith in
    sym (ap (λ (k : ℕ). bit_at a k) place) ∙ sym there ∙ ap (λ (k : ℕ). bit_at k (31 + i)) whole ∙ none (31 + i) (omega arith) ∙ sym (bit_at-zero i) in
    let zero : a ≡ 0 = same_from_bits a 0 high in
    omega arith

pub clobbers_patchpoint : (n : ℕ) → ((r : ℕ) → IsBitSet n r → OfPatchpoint r) → (n < 2 ^ 31) × (bit_and n 0x20040000 ≡ 0)
clobbers_patchpoint n each =
    let lt : n < 2 ^ 31 = below_31 n (λ r le. unset n r (λ set. let most : r ≤ 30 = (of_patchpoint r (each r set)).0 in absurd (omega arith))) in
    let none : (r : ℕ) → bit_at (bit_and n 0x20040000) r ≡ bit_at 0 r = λ r.
    let and : bit_at (bit_and n 0x20040000) r ≡ min (bit_at n r) (bit_at 0x20040000 r) = bit_at_and n 0x20040000 r in
    and ∙ elim (bit_cases n r) as (λ _. min (bit_at n r) (bit_at 0x20040000 r) ≡ bit_at 0 r) [
      | inl zero ↦ ap (λ (k : ℕ). min k (bit_at 0x20040000 r)) zero ∙ let none : min 0 (bit_at 0x20040000 r) ≡ 0 = omega arith in none ∙ sym (bit_at-zero r)
      | inr one ↦
          let of = of_patchpoint r (each r (is_set n r one)) in
          ap (λ (k : ℕ). min (bit_at n r) k) (mask_bit r of.1 of.2) ∙ let none : min (bit_at n r) 0 ≡ 0 = omega arith in none ∙ sym (bit_at-zero r)
    ] in
    (lt, same_from_bits (bit_and n 0x20040000) 0 none)
