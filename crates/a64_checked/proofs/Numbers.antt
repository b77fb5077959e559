-- Signed sums, differences and products, and what is left of them in a width.
use Rattle.std.proofs.Common.{◌≡◌, ℕ, suc, ℤ, pos, negsuc, ◌+ℤ◌, ◌*ℤ◌, neg_ℤ, ◌+◌, ◌-◌, ◌*◌, ◌/◌, ◌%◌, ◌^◌, ◌<◌, ◌≤◌, true, false, refl, sym, ap, ◌∙◌, arith, nat_eq}
use Rattle.std.specs.Prelude.{nat_le, nat_lt, if◌then◌else◌}
use Rattle.std.specs.Int.{cast_signed, cast_unsigned, int_wrap, w32, w64, w128}
use Rattle.std.specs.Int.RustNames.{unsigned_abs}
use Rattle.std.proofs.lemmas.Bool.Decides.{nat_tests}
use Rattle.std.proofs.lemmas.Int.{ints, of_z-to_z, wrapping_add-bits, wrapping_sub-bits, wrapping_mul-bits, unsigned_abs-mul}
use Rattle.std.proofs.lemmas.Nat.{mul-le}
use Rattle.b3_base.specs.Arithmetic.{mul_high, sign_extended}
use Rattle.b3_base.specs.Signed.{is_signed, signed, unsigned, complement}
use Rattle.b3_base.specs.Word.{bits}
use Rattle.b3_base.specs.declared.word.Width.{Width}
use Rattle.b3_base.specs.declared.word.Width.TheVariants.{W32, W64}
use Rattle.a64_inst.specs.Values.{shifted, sum_of}

-- a number modulo another one
abbrev pub wrapped : ℕ → ℤ → ℕ
wrapped m (pos n) = n % m
wrapped m (negsuc n) = m - 1 - n % m

wraps_64 : (z : ℤ) → int_wrap w64 z ≡ cast_signed w64 (wrapped (2 ^ 64) z)
unfolding int_wrap
wraps_64 (pos n) = refl
wraps_64 (negsuc n) = refl

wraps_32 : (z : ℤ) → int_wrap w32 z ≡ cast_signed w32 (wrapped (2 ^ 32) z)
unfolding int_wrap
wraps_32 (pos n) = refl
wraps_32 (negsuc n) = refl

wrapped_64-lt : (z : ℤ) → wrapped (2 ^ 64) z < 2 ^ 64
wrapped_64-lt (pos n) = omega arith
wrapped_64-lt (negsuc n) = omega arith

wrapped_32-lt : (z : ℤ) → wrapped (2 ^ 32) z < 2 ^ 32
wrapped_32-lt (pos n) = omega arith
wrapped_32-lt (negsuc n) = omega arith

-- a word is what is left of the number that it wraps to
left_64 : (n : ℕ) (z : ℤ) → n < 2 ^ 64 → cast_signed w64 n ≡ int_wrap w64 z → n ≡ wrapped (2 ^ 64) z
left_64 n z small e =
    sym (of_z-to_z w64 n small) ∙ ap (cast_unsigned w64) (e ∙ wraps_64 z) ∙ of_z-to_z w64 (wrapped (2 ^ 64) z) (wrapped_64-lt z)

left_32 : (n : ℕ) (z : ℤ) → n < 2 ^ 32 → cast_signed w32 n ≡ int_wrap w32 z → n ≡ wrapped (2 ^ 32) z
left_32 n z small e =
    sym (of_z-to_z w32 n small) ∙ ap (cast_unsigned w32) (e ∙ wraps_32 z) ∙ of_z-to_z w32 (wrapped (2 ^ 32) z) (wrapped_32-lt z)

pub unsigned_left : (width : Width) (z : ℤ) → is_signed width z ≡ true → wrapped (2 ^ bits width) z ≡ unsigned width z
unsigned_left W32 (pos n) e = grind (arith, nat_tests)
unsigned_left W32 (negsuc n) e = grind (arith, nat_tests)
unsigned_left W64 (pos n) e = grind (arith, nat_tests)
unsigned_left W64 (negsuc n) e = grind (arith, nat_tests)

below : (width : Width) (n : ℕ) → n % 2 ^ bits width < 2 ^ bits width
below W32 n = omega arith
below W64 n = omega arith

pub sum_left : (width : Width) (x y : ℕ) → x < 2 ^ bits width → y < 2 ^ bits width
    → (x + y) % 2 ^ bits width ≡ wrapped (2 ^ bits width) (signed width x +ℤ signed width y)
sum_left W32 x y p q = left_32 _ (cast_signed w32 x +ℤ cast_signed w32 y) (below W32 (x + y)) (wrapping_add-bits w32 x y p q)
sum_left W64 x y p q = left_64 _ (cast_signed w64 x +ℤ cast_signed w64 y) (below W64 (x + y)) (wrapping_add-bits w64 x y p q)

pub difference_left : (width : Width) (x y : ℕ) → x < 2 ^ bits width → y < 2 ^ bits width
    → (x + (2 ^ bits width - y)) % 2 ^ bits width ≡ wrapped (2 ^ bits width) (signed width x +ℤ neg_ℤ (signed width y))
difference_left W32 x y p q = left_32 _ (cast_signed w32 x +ℤ neg_ℤ (cast_signed w32 y)) (below W32 (x + (2 ^ 32 - y))) (wrapping_sub-bits w32 x y p q)
difference_left W64 x y p q = left_64 _ (cast_signed w64 x +ℤ neg_ℤ (cast_signed w64 y)) (below W64 (x + (2 ^ 64 - y))) (wrapping_sub-bits w64 x y p q)

pub product_left : (width : Width) (x y : ℕ) → x < 2 ^ bits width → y < 2 ^ bits width
    → x * y % 2 ^ bits width ≡ wrapped (2 ^ bits width) (signed width x *ℤ signed width y)
product_left W32 x y p q = left_32 _ (cast_signed w32 x *ℤ cast_signed w32 y) (below W32 (x * y)) (wrapping_mul-bits w32 x y p q)
product_left W64 x y p q = left_64 _ (cast_signed w64 x *ℤ cast_signed w64 y) (below W64 (x * y)) (wrapping_mul-bits w64 x y p q)

-- ---- sums and differences

pub sum_exact : (width : Width) (x y : ℕ) → signed width x +ℤ signed width y +ℤ pos 0 ≡ signed width x +ℤ signed width y
sum_exact W32 x y = omega (arith, ints)
sum_exact W64 x y = omega (arith, ints)

negative : (width : Width) (y : ℕ) → y < 2 ^ bits width → signed width (complement width y) +ℤ pos 1 ≡ neg_ℤ (signed width y)
negative W32 y small = grind (arith, ints)
negative W64 y small = grind (arith, ints)

add_both : (x c n : ℤ) → c +ℤ pos 1 ≡ n → x +ℤ c +ℤ pos 1 ≡ x +ℤ n
add_both x c n e = omega (arith, ints)

pub difference_exact : (width : Width) (x y : ℕ) → y < 2 ^ bits width
    → signed width x +ℤ signed width (complement width y) +ℤ pos 1 ≡ signed width x +ℤ neg_ℤ (signed width y)
difference_exact width x y small = add_both (signed width x) (signed width (complement width y)) (neg_ℤ (signed width y)) (negative width y small)

-- ---- products

half_32 : (x : ℕ) → x < 2 ^ 32 → unsigned_abs (cast_signed w32 x) ≤ 2 ^ 31
half_32 x small = grind (arith, ints)

half_64 : (x : ℕ) → x < 2 ^ 64 → unsigned_abs (cast_signed w64 x) ≤ 2 ^ 63
half_64 x small = grind (arith, ints)

pub narrow_most : (x y : ℕ) → x < 2 ^ 32 → y < 2 ^ 32 → unsigned_abs (cast_signed w32 x *ℤ cast_signed w32 y) ≤ 2 ^ 62
narrow_most x y p q =
    rw (unsigned_abs-mul (cast_signed w32 x) (cast_signed w32 y)) (mul-le _ _ (2 ^ 31) (2 ^ 31) (half_32 x p) (half_32 y q))

pub wide_most : (x y : ℕ) → x < 2 ^ 64 → y < 2 ^ 64 → unsigned_abs (cast_signed w64 x *ℤ cast_signed w64 y) ≤ 2 ^ 126
wide_most x y p q =
    rw (unsigned_abs-mul (cast_signed w64 x) (cast_signed w64 y)) (mul-le _ _ (2 ^ 63) (2 ^ 63) (half_64 x p) (half_64 y q))

-- the sign of a word in each bit

sign_word : (l : ℕ) → l < 2 ^ 64 → shifted W64 2 l 63 ≡ (if nat_le (2 ^ 63) l then 2 ^ 64 - 1 else 0)
unfolding shifted
sign_word l small = elim (nat_le (2 ^ 63) l) as (λ b. nat_le (2 ^ 63) l ≡ b
    → (l + (if b then (2 ^ 63 - 1) * 2 ^ 64 else 0)) / 2 ^ 63 ≡ (if b then 2 ^ 64 - 1 else 0)) [
      | true ↦ λ e. grind (arith, nat_tests)
      | false ↦ λ e. grind (arith, nat_tests)
    ] refl

-- the words of a number differ by nothing but the sign exactly where it is one of 64 bits
wide_pos : (n : ℕ) → n ≤ 2 ^ 126
    → nat_eq (sum_of W64 (n / 2 ^ 64) (complement W64 (if nat_le (2 ^ 63) (n % 2 ^ 64) then 2 ^ 64 - 1 else 0)) 1) 0 ≡ nat_lt n (2 ^ 63)
wide_pos n most = grind (arith, nat_tests)

wide_neg : (n : ℕ) → n ≤ 2 ^ 126
    → nat_eq (sum_of W64 ((2 ^ 128 - suc n) / 2 ^ 64) (complement W64 (if nat_le (2 ^ 63) (2 ^ 64 - 1 - n % 2 ^ 64) then 2 ^ 64 - 1 else 0)) 1) 0
    ≡ nat_lt n (2 ^ 63)
wide_neg n most = grind (arith, nat_tests)

-- the high word of a product is the sign of the low one exactly where it is a signed number of 64 bits
wide_z : (z : ℤ) → unsigned_abs z ≤ 2 ^ 126
    → nat_eq (sum_of W64 (cast_unsigned w128 z / 2 ^ 64) (complement W64 (if nat_le (2 ^ 63) (wrapped (2 ^ 64) z) then 2 ^ 64 - 1 else 0)) 1) 0
    ≡ is_signed W64 z
wide_z (pos n) most = wide_pos n most
wide_z (negsuc n) most = wide_neg n (omega arith)

pub wide_says : (x y : ℕ) → x < 2 ^ 64 → y < 2 ^ 64
    → nat_eq (sum_of W64 (mul_high true x y) (complement W64 (shifted W64 2 (x * y % 2 ^ 64) 63)) 1) 0
    ≡ is_signed W64 (cast_signed w64 x *ℤ cast_signed w64 y)
wide_says x y p q =
    let z : ℤ = cast_signed w64 x *ℤ cast_signed w64 y in
    ap (λ l. nat_eq (sum_of W64 (mul_high true x y) (complement W64 l) 1) 0) (sign_word (x * y % 2 ^ 64) (below W64 (x * y)))
    ∙ ap (λ l. nat_eq (sum_of W64 (mul_high true x y) (complement W64 (if nat_le (2 ^ 63) l then 2 ^ 64 - 1 else 0)) 1) 0) (product_left W64 x y p q)
    ∙ wide_z z (wide_most x y p q)

-- a product of 64 bits is its low half with the sign above exactly where it is a signed number of 32 bits
abbrev pub narrow_low : ℕ → ℕ
narrow_low u = sign_extended 32 u

narrow_pos : (n : ℕ) → n ≤ 2 ^ 62 → nat_eq (sum_of W64 n (complement W64 (narrow_low n)) 1) 0 ≡ nat_lt n (2 ^ 31)
narrow_pos n most = grind (arith, nat_tests)

narrow_neg : (n : ℕ) → n < 2 ^ 62
    → nat_eq (sum_of W64 (2 ^ 64 - suc n) (complement W64 (narrow_low (2 ^ 64 - suc n))) 1) 0 ≡ nat_lt n (2 ^ 31)
narrow_neg n most = grind (arith, nat_tests)

narrow_z : (z : ℤ) → unsigned_abs z ≤ 2 ^ 62
    → nat_eq (sum_of W64 (cast_unsigned w64 z) (complement W64 (narrow_low (cast_unsigned w64 z))) 1) 0 ≡ is_signed W32 z
narrow_z (pos n) most = narrow_pos n most
narrow_z (negsuc n) most = narrow_neg n (omega arith)

pub narrow_says : (x y : ℕ) → x < 2 ^ 32 → y < 2 ^ 32
    → nat_eq (sum_of W64 (cast_unsigned w64 (cast_signed w32 x *ℤ cast_signed w32 y)) (complement W64 (narrow_low (cast_unsigned w64
    (cast_signed w32 x *ℤ cast_signed w32 y)))) 1) 0 ≡ is_signed W32 (cast_signed w32 x *ℤ cast_signed w32 y)
narrow_says x y p q = narrow_z (cast_signed w32 x *ℤ cast_signed w32 y) (narrow_most x y p q)

pub narrow_made : (z : ℤ) → is_signed W32 z ≡ true → narrow_low (cast_unsigned w64 z) % 2 ^ 32 ≡ unsigned W32 z
narrow_made (pos n) e = grind (arith, nat_tests)
narrow_made (negsuc n) e = grind (arith, nat_tests)

pub long-lt : (z : ℤ) → unsigned_abs z ≤ 2 ^ 62 → cast_unsigned w64 z < 2 ^ 64
long-lt (pos n) most = omega arith
long-lt (negsuc n) most = omega arith

pub low-lt : (u : ℕ) → narrow_low u < 2 ^ 64
low-lt u = grind (arith, nat_tests)

pub unsigned-lt : (width : Width) (z : ℤ) → is_signed width z ≡ true → unsigned width z < 2 ^ 64
unsigned-lt W32 (pos n) e = grind (arith, nat_tests)
unsigned-lt W32 (negsuc n) e = grind (arith, nat_tests)
unsigned-lt W64 (pos n) e = grind (arith, nat_tests)
unsigned-lt W64 (negsuc n) e = grind (arith, nat_tests)
