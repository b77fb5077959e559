-- Signed decimals are read again as the words that they stand for.
use Rattle.std.proofs.Common.{◌≡◌, ℕ, ℤ, pos, negsuc, suc, ◌+◌, ◌-◌, ◌^◌, ◌<◌, ◌≤◌, Bool, true, false, cond, ◌&&◌, nat_lt, nat_le, List, [], ◌∷◌, ◌++◌, length, Some, refl, arith}
use Rattle.std.specs.Prelude.{◌==◌, ◌≤ℤ◌}
use Rattle.std.specs.Char.{is_ascii_digit}
use Rattle.std.specs.Fmt.{decimal, signed_decimal}
use Rattle.std.specs.Int.{w32, w64, cast_signed}
use Rattle.std.specs.List.{list_all}
use Rattle.std.specs.Str.{all_ascii_digits}
use Rattle.std.proofs.lemmas.Bool.{and_parts, le-leb, lt-ltb}
use Rattle.std.proofs.lemmas.Bool.Decides.{nat_tests}
use Rattle.std.proofs.lemmas.Int.{ints}
use Rattle.std.proofs.lemmas.Fmt.{digits_decimal, digits_value-decimal, decimal_nonempty, length-decimal-le}
use Rattle.b3_base.specs.Word.{bits}
use Rattle.b3_base.specs.declared.word.Width.{Width}
use Rattle.b3_base.specs.declared.word.Width.TheVariants.{W32, W64}
use Rattle.b3_items.specs.declared.numbers.Number.{Number}
use Rattle.b3_items.specs.Numbers.{begins_hex, begins_minus, case_of, decimal_of, number_of, offset_in, offset_of, signed, value_on, word_below, word_of}
use Rattle.b3_rows.specs.Written.{word_text}
use Rattle.b3_written.proofs.RoundLemmas.{and_true, digits_all, own}

digit_minus : (c : ℕ) → is_ascii_digit c ≡ true → (c == 45) ≡ false
digit_minus c h = grind (arith, nat_tests)

and_off : (x : Bool) → (x && false) ≡ false
and_off true = refl
and_off false = refl

digit_hex : (c d : ℕ) → is_ascii_digit d ≡ true → ((c == 48) && (d == 120)) ≡ false
digit_hex c d h = let off : (d == 120) ≡ false = grind (arith, nat_tests) in rw off (and_off (c == 48))

no_minus : (ds : List ℕ) → all_ascii_digits ds ≡ true → begins_minus ds ≡ false
no_minus [] h = refl
no_minus (c ∷ cs) h = digit_minus c (and_parts (is_ascii_digit c) (all_ascii_digits cs) h).0

no_hex : (ds : List ℕ) → all_ascii_digits ds ≡ true → begins_hex ds ≡ false
no_hex [] h = refl
no_hex (c ∷ []) h = refl
no_hex (c ∷ d ∷ ds) h =
    let both = and_parts (is_ascii_digit c) (all_ascii_digits (d ∷ ds)) h in
    digit_hex c d (and_parts (is_ascii_digit d) (all_ascii_digits ds) both.1).0

decimal_again : (n : ℕ) → n < 2 ^ 64 → decimal_of (decimal n) ≡ Some n
unfolding decimal_of
decimal_again n h =
    let some : nat_lt 0 (length (decimal n)) ≡ true = lt-ltb 0 (length (decimal n)) (decimal_nonempty n h) in
    let short : nat_le (length (decimal n)) 20 ≡ true = le-leb (length (decimal n)) 20 (length-decimal-le 20 n (omega arith) (omega arith) h) in
    let all : all_ascii_digits (decimal n) ≡ true = digits_decimal own n h in
    let value : value_on 0 (decimal n) ≡ n = digits_value-decimal own n h in
    let small : nat_lt n (2 ^ 64) ≡ true = lt-ltb n (2 ^ 64) h in
    rw (some, short, all, value, small) refl

-- a signed number that 64 bits hold without its sign
abbrev pub IsShort : ℤ → Type 0
IsShort (pos n) = n < 2 ^ 64
IsShort (negsuc n) = suc n < 2 ^ 64

abbrev pub number_in : ℤ → Number
number_in (pos n) = signed false n
number_in (negsuc n) = signed true (suc n)

pub signed_again : (z : ℤ) → IsShort z → number_of (signed_decimal z) ≡ Some (number_in z)
unfolding number_of
signed_again (pos n) h =
    let all : all_ascii_digits (decimal n) ≡ true = digits_decimal own n h in
    rw (no_minus (decimal n) all, no_hex (decimal n) all, decimal_again n h) refl
signed_again (negsuc n) h = rw (decimal_again (suc n) h) refl

-- what holds of digits and of a minus sign
pub signed_all : (p : ℕ → Bool) (z : ℤ) (rest : List ℕ) → ((c : ℕ) → is_ascii_digit c ≡ true → p c ≡ true) → p 45 ≡ true → IsShort z
    → list_all p rest ≡ true → list_all p (signed_decimal z ++ rest) ≡ true
signed_all p (pos n) rest f m h k = digits_all p (decimal n) rest f (digits_decimal own n h) k
signed_all p (negsuc n) rest f m h k = and_true _ _ m (digits_all p (decimal (suc n)) rest f (digits_decimal own (suc n) h) k)

pub signed_some : (z : ℤ) → IsShort z → 0 < length (signed_decimal z)
signed_some (pos n) h = decimal_nonempty n h
signed_some (negsuc n) h = omega arith

-- ---- words

-- the number of a word, by the half and the whole of its range
abbrev halved : ℕ → ℕ → Bool → ℕ → ℤ
halved half limit x word = cond x (pos word) (negsuc (limit - suc word))

halved_short : (half limit word : ℕ) (x : Bool) → nat_lt word half ≡ x → half + half ≡ limit → word < limit → limit ≤ 2 ^ 64
    → IsShort (halved half limit x word)
halved_short half limit word true t e h k = omega arith
halved_short half limit word false t e h k = let high : half ≤ word = grind (arith, nat_tests) in omega arith

halved_again : (half limit word : ℕ) (x : Bool) → nat_lt word half ≡ x → half + half ≡ limit → word < limit
    → word_below half limit (number_in (halved half limit x word)) ≡ Some word
halved_again half limit word true t e h = let small : nat_lt word limit ≡ true = lt-ltb word limit h in rw small refl
halved_again half limit word false t e h =
    let high : half ≤ word = grind (arith, nat_tests) in
    let size : ℕ = suc (limit - suc word) in
    let small : nat_le size half ≡ true = le-leb size half (omega arith) in
    let some : (size == 0) ≡ false = grind (arith, nat_tests) in
    let back : limit - size ≡ word = omega arith in
    rw (small, some, back) refl

abbrev pub word_value : Width → ℕ → ℤ
word_value W32 word = cast_signed w32 word
word_value W64 word = cast_signed w64 word

pub word_is : (width : Width) (word : ℕ) → word_text width word ≡ signed_decimal (word_value width word)
word_is W32 word = refl
word_is W64 word = refl

pub word_short : (width : Width) (word : ℕ) → word < 2 ^ bits width → IsShort (word_value width word)
word_short W32 word h = halved_short (2 ^ 31) (2 ^ 32) word (nat_lt word (2 ^ 31)) refl (omega arith) h (omega arith)
word_short W64 word h = halved_short (2 ^ 63) (2 ^ 64) word (nat_lt word (2 ^ 63)) refl (omega arith) h (omega arith)

pub word_again : (width : Width) (word : ℕ) → word < 2 ^ bits width → word_of width (number_in (word_value width word)) ≡ Some word
unfolding word_of
word_again W32 word h = halved_again (2 ^ 31) (2 ^ 32) word (nat_lt word (2 ^ 31)) refl (omega arith) h
word_again W64 word h = halved_again (2 ^ 63) (2 ^ 64) word (nat_lt word (2 ^ 63)) refl (omega arith) h

pub case_again : (word : ℕ) → word < 2 ^ 64 → case_of (word_text W64 word) ≡ Some word
unfolding case_of
case_again word h = rw (signed_again (word_value W64 word) (word_short W64 word h)) (word_again W64 word h)

-- ---- offsets

abbrev pub InWord : ℤ → Type 0
InWord z = (negsuc (2 ^ 31 - 1) ≤ℤ z) × (z ≤ℤ pos (2 ^ 31 - 1))

offset_least : (n : ℕ) → negsuc (2 ^ 31 - 1) ≤ℤ negsuc n → suc n ≤ 2 ^ 31
offset_least n h = omega (arith, ints)

offset_most : (n : ℕ) → pos n ≤ℤ pos (2 ^ 31 - 1) → n < 2 ^ 31
offset_most n h = omega (arith, ints)

pub offset_short : (z : ℤ) → InWord z → IsShort z
offset_short (pos n) h = omega (arith, offset_most n h.1)
offset_short (negsuc n) h = omega (arith, offset_least n h.0)

pub offset_again : (z : ℤ) → InWord z → offset_of (signed_decimal z) ≡ Some z
unfolding offset_of offset_in
offset_again (pos n) h =
    let small : nat_lt n (2 ^ 31) ≡ true = lt-ltb n (2 ^ 31) (offset_most n h.1) in
    rw (signed_again (pos n) (offset_short (pos n) h), small) refl
offset_again (negsuc n) h =
    let small : nat_le (suc n) (2 ^ 31) ≡ true = le-leb (suc n) (2 ^ 31) (offset_least n h.0) in
    rw (signed_again (negsuc n) (offset_short (negsuc n) h), small) refl
