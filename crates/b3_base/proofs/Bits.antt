-- One bit of a word, as 1 and as a member.
use Rattle.std.proofs.Common.{◌≡◌, ◌⊎◌, ℕ, zero, suc, ◌*◌, ◌<◌, ◌^◌, ◌||◌, nat_eq, max, inl, inr, refl, ap, ◌∙◌, bit_and, arith}
use Rattle.std.specs.Int.{bit_at, IsBitSet}
use Rattle.std.proofs.lemmas.Bool.{cases_eq}
use Rattle.std.proofs.lemmas.Nat.{pow_pos}
use Rattle.std.proofs.lemmas.Nat.Bits.{and_pow, bit_at-lt}

-- a number below 2
pub bit_cases : (x : ℕ) → x < 2 → (x ≡ 0) ⊎ (x ≡ 1)
bit_cases x h = elim (cases_eq x 0) [ inl e ↦ inl e | inr ne ↦ inr (omega arith) ]

pub one_max : (x y : ℕ) → x < 2 → y < 2 → nat_eq (max x y) 1 ≡ (nat_eq x 1 || nat_eq y 1)
one_max zero zero hx hy = refl
one_max zero (suc zero) hx hy = refl
one_max (suc zero) zero hx hy = refl
one_max (suc zero) (suc zero) hx hy = refl
one_max (suc (suc x)) y hx hy = absurd (omega arith)
one_max x (suc (suc y)) hx hy = absurd (omega arith)

pub set_from_bit : (n k : ℕ) → bit_at n k ≡ 1 → IsBitSet n k
set_from_bit n k one e =
    let same : bit_and n (2 ^ k) ≡ 1 * 2 ^ k = and_pow n k ∙ ap (λ (b : ℕ). b * 2 ^ k) one in
    let positive : 0 < 2 ^ k = pow_pos k in
    omega (arith, e, same)

pub bit_from_set : (n k : ℕ) → IsBitSet n k → bit_at n k ≡ 1
bit_from_set n k set =
    elim (bit_cases (bit_at n k) (bit_at-lt n k)) [
      | inl e ↦ absurd (set (and_pow n k ∙ ap (λ (b : ℕ). b * 2 ^ k) e ∙ zero_times (2 ^ k)))
      | inr e ↦ e
    ]
  where
    zero_times : (m : ℕ) → 0 * m ≡ 0
    zero_times m = omega arith
