-- Words as sets of registers.
use Rattle.std.proofs.Common.{◌≡◌, ℕ, ◌<◌, ◌≤◌, ◌^◌, ◌+◌, ◌-◌, ◌*◌, ◌%◌, ◌⊎◌, ◌↔◌, ap, ◌||◌, Bool, true, false, nat_eq, max, min, refl, arith, bit_and, bit_or, inl, inr, sym, ◌∙◌}
use Rattle.std.specs.Int.{bit_at, IsBitSet, w32}
use Rattle.std.proofs.lemmas.Nat.{pow_pos}
use Rattle.std.proofs.lemmas.Bool.{cases_eq, cases_lt, eq-eqb}
use Rattle.std.proofs.lemmas.Nat.Bits.{and_pow, bit_at_ones, bit_at_ones_above, bit_at-lt, bit_at-zero, bit_at_above, bit_at_and, bit_at_or, bit_at_set_same, bit_at_set_other, same_from_bits}
use mathlib.Core.Bool.{or-true, or-false}
use Rattle.b3_base.proofs.Bits.{one_max, bit_cases, bit_from_set, set_from_bit}
use Rattle.stackmap.specs.Registers.{has}

pub has-or : (a b r : ℕ) → has (bit_or a b) r ≡ (has a r || has b r)
has-or a b r = rw (bit_at_or a b r) (one_max _ _ (bit_at-lt a r) (bit_at-lt b r))

nat_eq-refl : (k : ℕ) → nat_eq k k ≡ true
nat_eq-refl k = eq-eqb k k refl

nat_eq-other : (k q : ℕ) → (q ≡ k → ⊥) → nat_eq q k ≡ false
nat_eq-other k q ne = grind arith

pub has-with : (set r q : ℕ) → r < 32 → has (bit_or set (1 * 2 ^ r % 4294967296)) q ≡ (has set q || nat_eq q r)
has-with set r q within =
    elim (cases_eq q r) [
      | inl e ↦ rw (e, bit_at_set_same w32 set r within, nat_eq-refl r) (sym (or-true (has set r)))
      | inr ne ↦ rw (bit_at_set_other w32 set r within q ne, nat_eq-other r q ne) (sym (or-false (has set q)))
    ]

-- a set of 32 bits has no further member
pub has_none_above : (set r : ℕ) → set < 2 ^ 32 → 32 ≤ r → has set r ≡ false
has_none_above set r small above = rw (bit_at_above set 32 r small above)

-- by their members
pub same_from_has : (a b : ℕ) → ((r : ℕ) → has a r ≡ has b r) → a ≡ b
same_from_has a b same = same_from_bits a b (λ r. same_bit _ _ (bit_at-lt a r) (bit_at-lt b r) (same r))
  where
    same_bit : (x y : ℕ) → x < 2 → y < 2 → nat_eq x 1 ≡ nat_eq y 1 → x ≡ y
    same_bit x y hx hy e = grind arith

-- and by their common members
pub disjoint_from_and : (a b : ℕ) → bit_and a b ≡ 0 → (r : ℕ) → has a r ≡ true → has b r ≡ false
disjoint_from_and a b none r in_a =
    not_both _ _ (bit_at-lt a r) (bit_at-lt b r) (sym (bit_at_and a b r) ∙ rw none (bit_at-zero r)) in_a
  where
    not_both : (x y : ℕ) → x < 2 → y < 2 → min x y ≡ 0 → nat_eq x 1 ≡ true → nat_eq y 1 ≡ false
    not_both x y hx hy e hit = grind arith

pub and_from_disjoint : (a b : ℕ) → ((r : ℕ) → has a r ≡ true → has b r ≡ false) → bit_and a b ≡ 0
and_from_disjoint a b apart =
    same_from_bits _ 0 (λ r. bit_at_and a b r ∙ zero_of _ _ (bit_at-lt a r) (bit_at-lt b r) (apart r) ∙ sym (bit_at-zero r))
  where
    zero_of : (x y : ℕ) → x < 2 → y < 2 → (nat_eq x 1 ≡ true → nat_eq y 1 ≡ false) → min x y ≡ 0
    zero_of x y hx hy h = elim (bit_cases x hx) [
      | inl ex ↦ omega arith
      | inr ex ↦ elim (bit_cases y hy) [ inl ey ↦ omega arith | inr ey ↦ absurd (clash x y ex ey h) ]
    ]
      where
        clash : (x y : ℕ) → x ≡ 1 → y ≡ 1 → (nat_eq x 1 ≡ true → nat_eq y 1 ≡ false) → ⊥
        clash x y ex ey h = let k : nat_eq y 1 ≡ false = h (eq-eqb x 1 ex) in let k2 : nat_eq y 1 ≡ true = eq-eqb y 1 ey in cc

-- ---- the set of the registers below a number, one more at a time

pub below_more : (set next r : ℕ) → set ≡ 2 ^ r - 1 → ((q : ℕ) → IsBitSet next q ↔ (IsBitSet set q ⊎ (q ≡ r))) → next ≡ 2 ^ (r + 1) - 1
below_more set next r is adds = same_from_bits next (2 ^ (r + 1) - 1) bit
  where
    old : (q : ℕ) → bit_at set q ≡ bit_at (2 ^ r - 1) q
    old q = ap (λ (n : ℕ). bit_at n q) is

    one : (q : ℕ) → q < r + 1 → bit_at next q ≡ 1
    one q less = bit_from_set next q ((adds q).1 (elim (cases_eq q r) [
      | inl e ↦ inr e
      | inr ne ↦ inl (set_from_bit set q (old q ∙ bit_at_ones r q (omega arith)))
    ]))

    none : (q : ℕ) → r + 1 ≤ q → bit_at next q ≡ 0
    none q above = elim (bit_cases (bit_at next q) (bit_at-lt next q)) [
      | inl e ↦ e
      | inr e ↦ elim ((adds q).0 (set_from_bit next q e)) [
        | inl was ↦ absurd (let h : 0 ≡ 1 = sym (bit_at_ones_above r q (omega arith)) ∙ sym (old q) ∙ bit_from_set set q was in cc)
        | inr here ↦ absurd (omega arith)
      ]
    ]

    bit : (q : ℕ) → bit_at next q ≡ bit_at (2 ^ (r + 1) - 1) q
    bit q = elim (cases_lt q (r + 1)) [
      | inl less ↦ one q less ∙ sym (bit_at_ones (r + 1) q less)
      | inr above ↦ none q above ∙ sym (bit_at_ones_above (r + 1) q above)
    ]
