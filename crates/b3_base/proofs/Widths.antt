-- Words and the numbers of a width.
use Rattle.std.proofs.Common.{◌≡◌, ℕ, ◌*◌, ◌%◌, ◌^◌, ◌<◌, refl, arith}
use Rattle.b3_base.specs.Arithmetic.{low}
use Rattle.b3_base.specs.Word.{bits}
use Rattle.b3_base.specs.declared.word.Width.{Width}
use Rattle.b3_base.specs.declared.word.Width.TheVariants.{W32, W64}

pub bits-pos : (width : Width) → 0 < bits width
bits-pos W32 = omega arith
bits-pos W64 = omega arith

-- a number of a width is a word
pub width-word : (width : Width) (n : ℕ) → n < 2 ^ bits width → n < 2 ^ 64
width-word W32 n small = omega arith
width-word W64 n small = small

pub in_width-lt : (width : Width) (n : ℕ) → n % 2 ^ bits width < 2 ^ bits width
in_width-lt W32 n = omega arith
in_width-lt W64 n = omega arith

pub zero-in_width : (width : Width) → 0 % 2 ^ bits width ≡ 0
zero-in_width W32 = refl
zero-in_width W64 = refl

pub one_time-in_width : (width : Width) (n : ℕ) → n < 2 ^ bits width → n * 1 % 2 ^ bits width ≡ n
one_time-in_width W32 n small = omega arith
one_time-in_width W64 n small = omega arith

-- ---- the low bits of a word

pub low-lt : (width : Width) (word : ℕ) → low width word < 2 ^ bits width
low-lt W32 word = omega arith
low-lt W64 word = omega arith

pub low-same : (width : Width) (word : ℕ) → word < 2 ^ bits width → low width word ≡ word
low-same W32 word small = omega arith
low-same W64 word small = omega arith

pub low-low : (width : Width) (word : ℕ) → low width (low width word) ≡ low width word
low-low W32 word = omega arith
low-low W64 word = omega arith

pub whole_word : (word : ℕ) → word < 2 ^ 64 → word % 2 ^ 64 ≡ word
whole_word word small = omega arith

pub word-lt : (n : ℕ) → n % 2 ^ 64 < 2 ^ 64
word-lt n = omega arith
