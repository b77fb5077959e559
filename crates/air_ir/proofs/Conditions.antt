-- The conditions of a comparison, as the words compare.
use Rattle.std.proofs.Common.{◌≡◌, ℕ, ◌^◌, ◌<◌, Bool, arith}
use Rattle.std.specs.Prelude.{nat_eq, nat_lt, int_lt, not}
use Rattle.std.proofs.lemmas.Bool.Decides.{nat_tests}
use Rattle.std.proofs.lemmas.Int.{ints}
use Rattle.b3_base.specs.Signed.{complement, signed}
use Rattle.b3_base.specs.Word.{bits}
use Rattle.b3_base.specs.declared.word.Width.{Width}
use Rattle.b3_base.specs.declared.word.Width.TheVariants.{W32, W64}
use Rattle.a64_inst.specs.Values.{flags_of_sum, holds}
use Rattle.a64_inst.specs.declared.inst.Cond.{Cond}
use Rattle.a64_inst.specs.declared.inst.Cond.TheVariants.{Eq, Ne, Hs, Lo, Hi, Ls, Ge, Lt, Gt, Le}

-- whether a condition holds of the flags of one word less another
abbrev pub compares : Cond → Width → ℕ → ℕ → Bool
compares cond width x y = holds cond (flags_of_sum width x (complement width y) 1)

pub is_equal : (width : Width) (x y : ℕ) → x < 2 ^ bits width → y < 2 ^ bits width
    → compares Eq width x y ≡ nat_eq x y
unfolding flags_of_sum
is_equal W32 x y p q = grind (arith, nat_tests)
is_equal W64 x y p q = grind (arith, nat_tests)

pub differs : (width : Width) (x y : ℕ) → x < 2 ^ bits width → y < 2 ^ bits width
    → compares Ne width x y ≡ not (nat_eq x y)
unfolding flags_of_sum
differs W32 x y p q = grind (arith, nat_tests)
differs W64 x y p q = grind (arith, nat_tests)

pub is_below : (width : Width) (x y : ℕ) → x < 2 ^ bits width → y < 2 ^ bits width
    → compares Lo width x y ≡ nat_lt x y
unfolding flags_of_sum
is_below W32 x y p q = grind (arith, nat_tests)
is_below W64 x y p q = grind (arith, nat_tests)

pub is_not_below : (width : Width) (x y : ℕ) → x < 2 ^ bits width → y < 2 ^ bits width
    → compares Hs width x y ≡ not (nat_lt x y)
unfolding flags_of_sum
is_not_below W32 x y p q = grind (arith, nat_tests)
is_not_below W64 x y p q = grind (arith, nat_tests)

pub is_above : (width : Width) (x y : ℕ) → x < 2 ^ bits width → y < 2 ^ bits width
    → compares Hi width x y ≡ nat_lt y x
unfolding flags_of_sum
is_above W32 x y p q = grind (arith, nat_tests)
is_above W64 x y p q = grind (arith, nat_tests)

pub is_not_above : (width : Width) (x y : ℕ) → x < 2 ^ bits width → y < 2 ^ bits width
    → compares Ls width x y ≡ not (nat_lt y x)
unfolding flags_of_sum
is_not_above W32 x y p q = grind (arith, nat_tests)
is_not_above W64 x y p q = grind (arith, nat_tests)

pub is_less : (width : Width) (x y : ℕ) → x < 2 ^ bits width → y < 2 ^ bits width
    → compares Lt width x y ≡ int_lt (signed width x) (signed width y)
unfolding flags_of_sum
is_less W32 x y p q = grind (arith, nat_tests, ints)
is_less W64 x y p q = grind (arith, nat_tests, ints)

pub is_no_less : (width : Width) (x y : ℕ) → x < 2 ^ bits width → y < 2 ^ bits width
    → compares Ge width x y ≡ not (int_lt (signed width x) (signed width y))
unfolding flags_of_sum
is_no_less W32 x y p q = grind (arith, nat_tests, ints)
is_no_less W64 x y p q = grind (arith, nat_tests, ints)

pub is_greater : (width : Width) (x y : ℕ) → x < 2 ^ bits width → y < 2 ^ bits width
    → compares Gt width x y ≡ int_lt (signed width y) (signed width x)
unfolding flags_of_sum
is_greater W32 x y p q = grind (arith, nat_tests, ints)
is_greater W64 x y p q = grind (arith, nat_tests, ints)

pub is_no_greater : (width : Width) (x y : ℕ) → x < 2 ^ bits width → y < 2 ^ bits width
    → compares Le width x y ≡ not (int_lt (signed width y) (signed width x))
unfolding flags_of_sum
is_no_greater W32 x y p q = grind (arith, nat_tests, ints)
is_no_greater W64 x y p q = grind (arith, nat_tests, ints)
