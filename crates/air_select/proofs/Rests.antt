-- The remainder is the dividend less the product of the quotient and the divisor, modulo the width.
use Rattle.std.proofs.Common.{◌≡◌, ◌≢◌, ℕ, ℤ, pos, negsuc, zero, suc, ◌+◌, ◌≤◌, ◌-◌, ◌*◌, ◌/◌, ◌%◌, ◌^◌, ◌<◌, Bool, true, false, ◌&&◌, refl, sym, ap, ◌∙◌, subst, arith, nat_eq, ⊎_elim, div-le_self, mul_comm}
use Rattle.std.specs.Prelude.{◌+ℤ◌, ◌*ℤ◌, neg_ℤ, if◌then◌else◌}
use Rattle.std.specs.Int.{cast_signed, cast_unsigned, int_wrap, w32, w64}
use Rattle.std.specs.Int.RustNames.{FitsSigned, int_div, int_rem}
use Rattle.std.proofs.Math.IntN.{nat_abs, ◌-ℤ◌}
use Rattle.std.proofs.Math.Nat.{div-lt_self, mod-le}
use Rattle.std.proofs.lemmas.Bool.{cases_eq, cases_lt, eq-eqb, eqb-true, le-ltb, lt-ltb, and_parts}
use Rattle.std.proofs.lemmas.Int.{int_wrap-sub_right, int_wrap_fits, ints, of_z-to_z, to_z-of_z, quot-rem, wrapping_mul-bits, wrapping_sub-bits}
use Rattle.b3_base.specs.Arithmetic.{low}
use Rattle.b3_base.specs.Signed.{signed, unsigned}
use Rattle.b3_base.specs.Word as words
use Rattle.b3_base.specs.declared.word.Width.{Width as Wide}
use Rattle.b3_base.specs.declared.word.Width.TheVariants.{W32, W64}
use Rattle.b3_meaning.specs.Opcodes.{DivisionByZero, Gives, LeastByMinusOne, Undefines, chilled, difference, is_least_by_minus_one, least, left_over, product, remainder, unless_zero}
use Rattle.a64_inst.specs.StepData.{quotient}
use Rattle.air_select.proofs.OneOp.{chilled_is, undefined_gives}

-- a signed number of at most this size
abbrev pub Sized : ℕ → ℤ → Type 0
Sized most (pos n) = n < most
Sized most (negsuc n) = n < most

minus : (x q r : ℤ) → q +ℤ r ≡ x → x -ℤ q ≡ r
minus x q r e = omega (arith, ints)

-- the quotient of two signed words is one, but that of the least by -1
neg_fits_32 : (n : ℕ) → n ≤ 2 ^ 31 → FitsSigned w32 (neg_ℤ (pos n))
neg_fits_32 zero le = record { sfits = omega arith }
neg_fits_32 (suc n) le = record { sfits = omega arith }

quotient_fits_32 : (z k : ℤ) → Sized (2 ^ 31) z → (z ≡ negsuc (2 ^ 31 - 1) → k ≡ negsuc 0 → ⊥) → FitsSigned w32 (int_div z k)
quotient_fits_32 (pos a) (pos b) size not_extreme = let less = div-le_self a b in record { sfits = omega arith }
quotient_fits_32 (pos a) (negsuc b) size not_extreme = let less = div-le_self a (suc b) in neg_fits_32 (a / suc b) (omega arith)
quotient_fits_32 (negsuc a) (pos b) size not_extreme = let less = div-le_self (suc a) b in neg_fits_32 (suc a / b) (omega arith)
quotient_fits_32 (negsuc a) (negsuc zero) size not_extreme =
    ⊎_elim
    (λ (same : a ≡ 2 ^ 31 - 1). absurd (not_extreme (ap negsuc same) refl))
    (λ (other : a ≢ 2 ^ 31 - 1). let less = div-le_self (suc a) 1 in record { sfits = omega arith })
    (cases_eq a (2 ^ 31 - 1))
quotient_fits_32 (negsuc a) (negsuc (suc b)) size not_extreme =
    let less : suc a / suc (suc b) < suc a = div-lt_self {n = suc a} {k = suc (suc b)} (omega arith) (omega arith) in
    record { sfits = omega arith }

rest_fits_32 : (z k : ℤ) → Sized (2 ^ 31) z → FitsSigned w32 (int_rem z k)
rest_fits_32 (pos a) k size = let less : a % nat_abs k ≤ a = mod-le a (nat_abs k) in record { sfits = omega arith }
rest_fits_32 (negsuc a) k size = let less : suc a % nat_abs k ≤ suc a = mod-le (suc a) (nat_abs k) in neg_fits_32 (suc a % nat_abs k) (omega arith)

core_32 : (x y : ℕ) → x < 2 ^ 32 → y < 2 ^ 32 → FitsSigned w32 (int_div (cast_signed w32 x) (cast_signed w32 y))
    → cast_unsigned w32 (int_div (cast_signed w32 x) (cast_signed w32 y)) < 2 ^ 32
    → cast_unsigned w32 (int_rem (cast_signed w32 x) (cast_signed w32 y)) < 2 ^ 32
    → FitsSigned w32 (int_rem (cast_signed w32 x) (cast_signed w32 y))
    → (x + (2 ^ 32 - cast_unsigned w32 (int_div (cast_signed w32 x) (cast_signed w32 y)) * y % 2 ^ 32)) % 2 ^ 32
    ≡ cast_unsigned w32 (int_rem (cast_signed w32 x) (cast_signed w32 y))
core_32 x y px py fq lq lr fr =
    let q = cast_unsigned w32 (int_div (cast_signed w32 x) (cast_signed w32 y)) in
    let n = q * y % 2 ^ 32 in
    let d = (x + (2 ^ 32 - n)) % 2 ^ 32 in
    let z = cast_signed w32 x in
    let k = cast_signed w32 y in
    let n_lt : n < 2 ^ 32 = omega arith in
    let d_lt : d < 2 ^ 32 = omega arith in
    let product_is : cast_signed w32 n ≡ int_wrap w32 (int_div z k *ℤ k) =
    wrapping_mul-bits w32 q y lq py ∙ ap (λ i. int_wrap w32 (i *ℤ k)) (to_z-of_z w32 (int_div z k) fq) in
    let signed_is : cast_signed w32 d ≡ int_wrap w32 (int_rem z k) =
    wrapping_sub-bits w32 x n px n_lt ∙ ap (λ i. int_wrap w32 (z -ℤ i)) product_is ∙ int_wrap-sub_right w32 z (int_div z k *ℤ k)
    ∙ ap (int_wrap w32) (minus z (int_div z k *ℤ k) (int_rem z k) (quot-rem z k)) in
    sym (of_z-to_z w32 d d_lt) ∙ ap (cast_unsigned w32) (signed_is ∙ int_wrap_fits w32 (int_rem z k) fr)

unsigned_32 : (z : ℤ) → FitsSigned w32 z → cast_unsigned w32 z < 2 ^ 32
unsigned_32 (pos n) f = let small = f.sfits in omega arith
unsigned_32 (negsuc n) f = omega arith

sized_32 : (x : ℕ) → x < 2 ^ 32 → Sized (2 ^ 31) (cast_signed w32 x)
sized_32 x lt =
    ⊎_elim
    (λ (low : x < 2 ^ 31). rw (lt-ltb x (2 ^ 31) low) low)
    (λ (high : 2 ^ 31 ≤ x). rw (le-ltb x (2 ^ 31) high) (omega arith))
    (cases_lt x (2 ^ 31))

rest_32 : (x y : ℕ) → x < 2 ^ 32 → y < 2 ^ 32 → (cast_signed w32 x ≡ negsuc (2 ^ 31 - 1) → cast_signed w32 y ≡ negsuc 0 → ⊥)
    → (cast_unsigned w32 (int_div (cast_signed w32 x) (cast_signed w32 y)) < 2 ^ 32)
    × ((x + (2 ^ 32 - cast_unsigned w32 (int_div (cast_signed w32 x) (cast_signed w32 y)) * y % 2 ^ 32)) % 2 ^ 32 ≡ cast_unsigned w32
    (int_rem (cast_signed w32 x) (cast_signed w32 y)))
rest_32 x y px py not_extreme =
    let fq = quotient_fits_32 (cast_signed w32 x) (cast_signed w32 y) (sized_32 x px) not_extreme in
    let fr = rest_fits_32 (cast_signed w32 x) (cast_signed w32 y) (sized_32 x px) in
    let lq = unsigned_32 (int_div (cast_signed w32 x) (cast_signed w32 y)) fq in
    (lq, core_32 x y px py fq lq (unsigned_32 (int_rem (cast_signed w32 x) (cast_signed w32 y)) fr) fr)

least_32 : (x : ℕ) → x < 2 ^ 32 → cast_signed w32 x ≡ negsuc (2 ^ 31 - 1) → x ≡ 2 ^ 31
least_32 x lt e = sym (of_z-to_z w32 x lt) ∙ ap (cast_unsigned w32) e

minus_one_32 : (x : ℕ) → x < 2 ^ 32 → cast_signed w32 x ≡ negsuc 0 → x ≡ 2 ^ 32 - 1
minus_one_32 x lt e = sym (of_z-to_z w32 x lt) ∙ ap (cast_unsigned w32) e

neg_fits_64 : (n : ℕ) → n ≤ 2 ^ 63 → FitsSigned w64 (neg_ℤ (pos n))
neg_fits_64 zero le = record { sfits = omega arith }
neg_fits_64 (suc n) le = record { sfits = omega arith }

quotient_fits_64 : (z k : ℤ) → Sized (2 ^ 63) z → (z ≡ negsuc (2 ^ 63 - 1) → k ≡ negsuc 0 → ⊥) → FitsSigned w64 (int_div z k)
quotient_fits_64 (pos a) (pos b) size not_extreme = let less = div-le_self a b in record { sfits = omega arith }
quotient_fits_64 (pos a) (negsuc b) size not_extreme = let less = div-le_self a (suc b) in neg_fits_64 (a / suc b) (omega arith)
quotient_fits_64 (negsuc a) (pos b) size not_extreme = let less = div-le_self (suc a) b in neg_fits_64 (suc a / b) (omega arith)
quotient_fits_64 (negsuc a) (negsuc zero) size not_extreme =
    ⊎_elim
    (λ (same : a ≡ 2 ^ 63 - 1). absurd (not_extreme (ap negsuc same) refl))
    (λ (other : a ≢ 2 ^ 63 - 1). let less = div-le_self (suc a) 1 in record { sfits = omega arith })
    (cases_eq a (2 ^ 63 - 1))
quotient_fits_64 (negsuc a) (negsuc (suc b)) size not_extreme =
    let less : suc a / suc (suc b) < suc a = div-lt_self {n = suc a} {k = suc (suc b)} (omega arith) (omega arith) in
    record { sfits = omega arith }

rest_fits_64 : (z k : ℤ) → Sized (2 ^ 63) z → FitsSigned w64 (int_rem z k)
rest_fits_64 (pos a) k size = let less : a % nat_abs k ≤ a = mod-le a (nat_abs k) in record { sfits = omega arith }
rest_fits_64 (negsuc a) k size = let less : suc a % nat_abs k ≤ suc a = mod-le (suc a) (nat_abs k) in neg_fits_64 (suc a % nat_abs k) (omega arith)

core_64 : (x y : ℕ) → x < 2 ^ 64 → y < 2 ^ 64 → FitsSigned w64 (int_div (cast_signed w64 x) (cast_signed w64 y))
    → cast_unsigned w64 (int_div (cast_signed w64 x) (cast_signed w64 y)) < 2 ^ 64
    → cast_unsigned w64 (int_rem (cast_signed w64 x) (cast_signed w64 y)) < 2 ^ 64
    → FitsSigned w64 (int_rem (cast_signed w64 x) (cast_signed w64 y))
    → (x + (2 ^ 64 - cast_unsigned w64 (int_div (cast_signed w64 x) (cast_signed w64 y)) * y % 2 ^ 64)) % 2 ^ 64
    ≡ cast_unsigned w64 (int_rem (cast_signed w64 x) (cast_signed w64 y))
core_64 x y px py fq lq lr fr =
    let q = cast_unsigned w64 (int_div (cast_signed w64 x) (cast_signed w64 y)) in
    let n = q * y % 2 ^ 64 in
    let d = (x + (2 ^ 64 - n)) % 2 ^ 64 in
    let z = cast_signed w64 x in
    let k = cast_signed w64 y in
    let n_lt : n < 2 ^ 64 = omega arith in
    let d_lt : d < 2 ^ 64 = omega arith in
    let product_is : cast_signed w64 n ≡ int_wrap w64 (int_div z k *ℤ k) =
    wrapping_mul-bits w64 q y lq py ∙ ap (λ i. int_wrap w64 (i *ℤ k)) (to_z-of_z w64 (int_div z k) fq) in
    let signed_is : cast_signed w64 d ≡ int_wrap w64 (int_rem z k) =
    wrapping_sub-bits w64 x n px n_lt ∙ ap (λ i. int_wrap w64 (z -ℤ i)) product_is ∙ int_wrap-sub_right w64 z (int_div z k *ℤ k)
    ∙ ap (int_wrap w64) (minus z (int_div z k *ℤ k) (int_rem z k) (quot-rem z k)) in
    sym (of_z-to_z w64 d d_lt) ∙ ap (cast_unsigned w64) (signed_is ∙ int_wrap_fits w64 (int_rem z k) fr)

unsigned_64 : (z : ℤ) → FitsSigned w64 z → cast_unsigned w64 z < 2 ^ 64
unsigned_64 (pos n) f = let small = f.sfits in omega arith
unsigned_64 (negsuc n) f = omega arith

sized_64 : (x : ℕ) → x < 2 ^ 64 → Sized (2 ^ 63) (cast_signed w64 x)
sized_64 x lt =
    ⊎_elim
    (λ (low : x < 2 ^ 63). rw (lt-ltb x (2 ^ 63) low) low)
    (λ (high : 2 ^ 63 ≤ x). rw (le-ltb x (2 ^ 63) high) (omega arith))
    (cases_lt x (2 ^ 63))

rest_64 : (x y : ℕ) → x < 2 ^ 64 → y < 2 ^ 64 → (cast_signed w64 x ≡ negsuc (2 ^ 63 - 1) → cast_signed w64 y ≡ negsuc 0 → ⊥)
    → (cast_unsigned w64 (int_div (cast_signed w64 x) (cast_signed w64 y)) < 2 ^ 64)
    × ((x + (2 ^ 64 - cast_unsigned w64 (int_div (cast_signed w64 x) (cast_signed w64 y)) * y % 2 ^ 64)) % 2 ^ 64 ≡ cast_unsigned w64
    (int_rem (cast_signed w64 x) (cast_signed w64 y)))
rest_64 x y px py not_extreme =
    let fq = quotient_fits_64 (cast_signed w64 x) (cast_signed w64 y) (sized_64 x px) not_extreme in
    let fr = rest_fits_64 (cast_signed w64 x) (cast_signed w64 y) (sized_64 x px) in
    let lq = unsigned_64 (int_div (cast_signed w64 x) (cast_signed w64 y)) fq in
    (lq, core_64 x y px py fq lq (unsigned_64 (int_rem (cast_signed w64 x) (cast_signed w64 y)) fr) fr)

least_64 : (x : ℕ) → x < 2 ^ 64 → cast_signed w64 x ≡ negsuc (2 ^ 63 - 1) → x ≡ 2 ^ 63
least_64 x lt e = sym (of_z-to_z w64 x lt) ∙ ap (cast_unsigned w64) e

minus_one_64 : (x : ℕ) → x < 2 ^ 64 → cast_signed w64 x ≡ negsuc 0 → x ≡ 2 ^ 64 - 1
minus_one_64 x lt e = sym (of_z-to_z w64 x lt) ∙ ap (cast_unsigned w64) e

-- ---- the remainders of B3

-- the quotient is a word, and the dividend less its product with the divisor is the remainder
pub record IsRest (width : Wide) (q x y w : ℕ) : Type 0 where
  pub small : q < 2 ^ words.bits width
  pub rest : nat_eq y 0 ≡ false → difference width x (product width q y) ≡ w
  pub zero_quotient : nat_eq y 0 ≡ true → q ≡ 0
  pub zero_rest : nat_eq y 0 ≡ true → w ≡ 0

not_extreme : (width : Wide) (x y : ℕ) → is_least_by_minus_one width x y ≡ false → x ≡ least width → y ≡ 2 ^ words.bits width - 1 → ⊥
not_extreme width x y e ex ey =
    let bad : true ≡ false = sym (ap (λ b. b && nat_eq y (2 ^ words.bits width - 1)) (eq-eqb x (least width) ex) ∙ eq-eqb y (2 ^ words.bits width - 1) ey)
    ∙ e in cc

ordinary : (width : Wide) (x y : ℕ) → x < 2 ^ words.bits width → y < 2 ^ words.bits width → is_least_by_minus_one width x y ≡ false
    → (unsigned width (int_div (signed width x) (signed width y)) < 2 ^ words.bits width)
    × (difference width x (product width (unsigned width (int_div (signed width x) (signed width y))) y) ≡ remainder width x y)
ordinary W32 x y px py e = rest_32 x y px py (λ a b. not_extreme W32 x y e (least_32 x px a) (minus_one_32 y py b))
ordinary W64 x y px py e = rest_64 x y px py (λ a b. not_extreme W64 x y e (least_64 x px a) (minus_one_64 y py b))

extreme : (width : Wide) → difference width (least width)
    (product width (quotient width true (least width) (2 ^ words.bits width - 1)) (2 ^ words.bits width - 1)) ≡ 0
extreme W32 = refl
extreme W64 = refl

least_small : (width : Wide) → quotient width true (least width) (2 ^ words.bits width - 1) < 2 ^ words.bits width
least_small W32 = omega arith
least_small W64 = omega arith

some_limit : (width : Wide) → 0 < 2 ^ words.bits width
some_limit W32 = omega arith
some_limit W64 = omega arith

gives_is : (a b : ℕ) → Gives a ≡ Gives b → a ≡ b
gives_is a b e = cc

pub rest_is : (width : Wide) (chill : Bool) (x y w : ℕ) → x < 2 ^ words.bits width → y < 2 ^ words.bits width → left_over width chill x y ≡ Gives w
    → IsRest width (quotient width true x y) x y w
rest_is width chill x y w px py e = go (nat_eq y 0) refl (is_least_by_minus_one width x y) refl e
  where
    go : (zero : Bool) → nat_eq y 0 ≡ zero → (extremes : Bool) → is_least_by_minus_one width x y ≡ extremes
        → (if zero then chilled chill 0 DivisionByZero else if extremes then chilled chill 0 LeastByMinusOne else Gives (remainder width x y)) ≡ Gives w
        → IsRest width (quotient width true x y) x y w
    go true ez extremes ee e =
        let none : quotient width true x y ≡ 0 = rw ez refl in
        record {
          small = subst (λ n. n < 2 ^ words.bits width) (sym none) (some_limit width);
          rest = λ other. absurd (let bad : true ≡ false = sym ez ∙ other in cc);
          zero_quotient = λ same. none;
          zero_rest = λ same. sym (chilled_is chill 0 w DivisionByZero e);
        }
    go false ez true ee e =
        let parts = and_parts (nat_eq x (least width)) (nat_eq y (2 ^ words.bits width - 1)) ee in
        let ex : x ≡ least width = eqb-true x (least width) parts.0 in
        let ey : y ≡ 2 ^ words.bits width - 1 = eqb-true y (2 ^ words.bits width - 1) parts.1 in
        record {
          small = subst (λ n. quotient width true n y < 2 ^ words.bits width) (sym ex)
              (subst (λ n. quotient width true (least width) n < 2 ^ words.bits width) (sym ey) (least_small width));
          rest = λ other.
              ap (λ n. difference width n (product width (quotient width true n y) y)) ex
              ∙ ap (λ n. difference width (least width) (product width (quotient width true (least width) n) n)) ey
              ∙ extreme width ∙ chilled_is chill 0 w LeastByMinusOne e;
          zero_quotient = λ same. absurd (let bad : true ≡ false = sym same ∙ ez in cc);
          zero_rest = λ same. absurd (let bad : true ≡ false = sym same ∙ ez in cc);
        }
    go false ez false ee e =
        let plain : quotient width true x y ≡ unsigned width (int_div (signed width x) (signed width y)) = rw ez refl in
        let are = ordinary width x y px py ee in
        record {
          small = subst (λ n. n < 2 ^ words.bits width) (sym plain) are.0;
          rest = λ other. ap (λ n. difference width x (product width n y)) plain ∙ are.1 ∙ gives_is (remainder width x y) w e;
          zero_quotient = λ same. absurd (let bad : true ≡ false = sym same ∙ ez in cc);
          zero_rest = λ same. absurd (let bad : true ≡ false = sym same ∙ ez in cc);
        }

at_most : (a b c : ℕ) → a ≤ b → b < c → a < c
at_most a b c le lt = omega arith

unsigned_rest : (width : Wide) (x p r : ℕ) → x < 2 ^ words.bits width → p + r ≡ x → difference width x (low width p) ≡ r
unsigned_rest W32 x p r lt e = omega arith
unsigned_rest W64 x p r lt e = omega arith

quotient_parts : (x y : ℕ) → (y ≡ 0 → ⊥) → x / y * y + x % y ≡ x
quotient_parts x y some = let positive : 0 < y = omega arith in omega (arith, mul_comm (x / y) y)

no_zero : (y : ℕ) → nat_eq y 0 ≡ false → y ≡ 0 → ⊥
no_zero y e same = let bad : true ≡ false = sym (eq-eqb y 0 same) ∙ e in cc

pub unsigned_rest_is : (width : Wide) (x y w : ℕ) → x < 2 ^ words.bits width → unless_zero y (x % y) ≡ Gives w → IsRest width (quotient width false x y) x y w
unsigned_rest_is width x y w px e = go (nat_eq y 0) refl e
  where
    go : (zero : Bool) → nat_eq y 0 ≡ zero → (if zero then Undefines DivisionByZero else Gives (x % y)) ≡ Gives w
        → IsRest width (quotient width false x y) x y w
    go true ez e = absurd (undefined_gives DivisionByZero w e)
    go false ez e =
        let plain : quotient width false x y ≡ x / y = rw ez refl in
        let less : x / y ≤ x = div-le_self x y in
        record {
          small = subst (λ n. n < 2 ^ words.bits width) (sym plain) (at_most (x / y) x (2 ^ words.bits width) less px);
          rest = λ other.
              ap (λ n. difference width x (product width n y)) plain
              ∙ unsigned_rest width x (x / y * y) (x % y) px (quotient_parts x y (no_zero y ez)) ∙ gives_is (x % y) w e;
          zero_quotient = λ same. absurd (let bad : true ≡ false = sym same ∙ ez in cc);
          zero_rest = λ same. absurd (let bad : true ≡ false = sym same ∙ ez in cc);
        }
