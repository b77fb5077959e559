-- A pure opcode on children that its row allows gives a word of its type, or does what B3 leaves undefined.
use Rattle.std.proofs.Common.{◌≡◌, ℕ, ℤ, zero, suc, ⊎_elim, nat_lt, ◌+◌, ◌-◌, ◌*◌, ◌/◌, ◌%◌, ◌^◌, ◌<◌, ◌≤◌, pos, negsuc, Bool, true, false, List, [], ◌∷◌, nat_eq, sym, subst, ◌∙◌, arith}
use Rattle.std.specs.Prelude.{if◌then◌else◌}
use Rattle.std.specs.Int.RustNames.{int_div, int_rem}
use Rattle.std.proofs.lemmas.Bool.{cases_lt, lt-ltb, le-ltb}
use Rattle.std.proofs.Math.IntN.{nat_abs, neg_ℤ}
use Rattle.std.proofs.Math.Pow.{pow_mono}
use Rattle.std.specs.Int.Bits.{bit_and}
use Rattle.std.proofs.Math.Nat.{div-le_self, mod-le, div-lt_iff_lt-mul}
use Rattle.std.proofs.lemmas.Nat.{and_le_l, or_lt, xor_lt, leading_le, mul-add-lt, pow_pos}
use Rattle.b3_base.proofs.Rotations.{rotated_right-lt}
use Rattle.b3_base.specs.Arithmetic.{extended, leading_zeros, low, rotate_right, sign_extended}
use Rattle.b3_base.specs.Signed.{signed, unsigned}
use Rattle.b3_base.specs.Word.{bits}
use Rattle.b3_base.specs.declared.word.Width.{Width}
use Rattle.b3_base.specs.declared.word.Width.TheVariants.{W32, W64}
use Rattle.b3_ir.specs.Types.{AllowsTypes, AreTaken, IsTaken, width_of}
use Rattle.b3_ir.specs.declared.opcode.Opcode.{Opcode}
use Rattle.b3_ir.specs.declared.opcode.Opcode.TheVariants as op
use Rattle.b3_ir.specs.declared.opcode.Ty.{Ty}
use Rattle.b3_ir.specs.declared.opcode.Ty.TheVariants.{Int32, Int64}
use Rattle.b3_ir.specs.declared.table.More.TheVariants.{NoMore}
use Rattle.b3_ir.specs.declared.table.Takes.{Takes}
use Rattle.b3_ir.specs.declared.table.Takes.TheVariants.{Alike, Any, This}
use Rattle.b3_meaning.specs.Opcodes.{AreWordsOf, Outcome, Gives, Undefined, Undefines, Misfits, chilled, divided, is_least_by_minus_one, left_over, quotient, remainder, result, truth, unless_zero}
use Rattle.b3_meaning.specs.Roles.{role_of}
use Rattle.b3_meaning.specs.declared.role.Role.TheVariants.{Pure}

-- the words below this, and what is undefined
abbrev pub IsBelow : ℕ → Outcome → Type 0
IsBelow limit (Gives word) = word < limit
IsBelow limit (Undefines undefined) = Unit {0}
IsBelow limit Misfits = ⊥

-- the words of a width
abbrev pub limit_of : Width → ℕ
limit_of width = 2 ^ bits width

abbrev pub IsIn : Ty → ℕ → Type 0
IsIn ty word = word < limit_of (width_of ty)

-- ---- words of a width

pub low_in : (width : Width) (n : ℕ) → low width n < limit_of width
low_in W32 n = omega arith
low_in W64 n = omega arith

pub narrow_in : (width : Width) (n : ℕ) → n < 2 ^ 32 → n < limit_of width
narrow_in W32 n lt = lt
narrow_in W64 n lt = omega arith

truth_in : (width : Width) (told : Bool) → truth told < limit_of width
truth_in W32 true = omega arith
truth_in W64 true = omega arith
truth_in W32 false = omega arith
truth_in W64 false = omega arith

leading_in : (width : Width) (word : ℕ) → leading_zeros width word < limit_of width
leading_in W32 word = let le = leading_le 32 word in omega arith
leading_in W64 word = let le = leading_le 64 word in omega arith

-- ---- signed numbers

-- a number is at most this where it isn't negative, and its size is
abbrev pub UpTo : ℕ → ℤ → Type 0
UpTo most (pos n) = n ≤ most
UpTo most (negsuc n) = Unit {0}

abbrev Sized : ℕ → ℤ → Type 0
Sized most (pos n) = n ≤ most
Sized most (negsuc n) = n < most

negative_up : (most n : ℕ) → UpTo most (neg_ℤ (pos n))
negative_up most zero = omega arith
negative_up most (suc n) = tt

quotient_up : (most : ℕ) (a b : ℤ) → Sized most a → UpTo most (int_div a b)
quotient_up most (pos a) (pos b) le = let less = div-le_self a b in omega arith
quotient_up most (pos a) (negsuc b) le = negative_up most (a / suc b)
quotient_up most (negsuc a) (pos b) lt = negative_up most (suc a / b)
quotient_up most (negsuc a) (negsuc b) lt = let less = div-le_self (suc a) (suc b) in omega arith

remainder_up : (most : ℕ) (a b : ℤ) → Sized most a → UpTo most (int_rem a b)
remainder_up most (pos a) b le = let less : a % nat_abs b ≤ a = mod-le a (nat_abs b) in omega arith
remainder_up most (negsuc a) b lt = negative_up most (suc a % nat_abs b)

-- a word as a signed number is at most half of the width's limit
abbrev pub half_of : Width → ℕ
half_of width = 2 ^ (bits width - 1)

signed_sized : (width : Width) (word : ℕ) → word < limit_of width → Sized (half_of width) (signed width word)
signed_sized W32 word lt =
    ⊎_elim
    (λ (low : word < 2 ^ 31). rw (lt-ltb word (2 ^ 31) low) (omega arith))
    (λ (high : 2 ^ 31 ≤ word). rw (le-ltb word (2 ^ 31) high) (omega arith))
    (cases_lt word (2 ^ 31))
signed_sized W64 word lt =
    ⊎_elim
    (λ (low : word < 2 ^ 63). rw (lt-ltb word (2 ^ 63) low) (omega arith))
    (λ (high : 2 ^ 63 ≤ word). rw (le-ltb word (2 ^ 63) high) (omega arith))
    (cases_lt word (2 ^ 63))

pub unsigned_in : (width : Width) (number : ℤ) → UpTo (half_of width) number → unsigned width number < limit_of width
unsigned_in W32 (pos n) le = omega arith
unsigned_in W32 (negsuc n) le = omega arith
unsigned_in W64 (pos n) le = omega arith
unsigned_in W64 (negsuc n) le = omega arith

zero_in : (width : Width) → 0 < limit_of width
zero_in W32 = omega arith
zero_in W64 = omega arith

-- ---- children by their places

one_child : (P : List ℕ → List Ty → Type 0) (alike : Ty) (a : Takes) → ((x : ℕ) (t : Ty) → IsTaken alike a t → IsIn t x → P (x ∷ []) (t ∷ []))
    → (xs : List ℕ) (ts : List Ty)
    → AreTaken alike (a ∷ []) NoMore ts → AreWordsOf ts xs → P xs ts
one_child P alike a each xs [] taken words = absurd taken
one_child P alike a each [] (t ∷ ts) taken words = absurd words
one_child P alike a each (x ∷ xs) (t ∷ u ∷ ts) taken words = absurd (let none : u ∷ ts ≡ [] = taken.1 in cc)
one_child P alike a each (x ∷ y ∷ xs) (t ∷ []) taken words = absurd words.1
one_child P alike a each (x ∷ []) (t ∷ []) taken words = each x t taken.0 words.0

two_children : (P : List ℕ → List Ty → Type 0) (alike : Ty) (a b : Takes)
    → ((x y : ℕ) (t u : Ty) → IsTaken alike a t → IsTaken alike b u → IsIn t x → IsIn u y → P (x ∷ y ∷ []) (t ∷ u ∷ []))
    → (xs : List ℕ) (ts : List Ty) → AreTaken alike (a ∷ b ∷ []) NoMore ts → AreWordsOf ts xs → P xs ts
two_children P alike a b each xs [] taken words = absurd taken
two_children P alike a b each [] (t ∷ ts) taken words = absurd words
two_children P alike a b each (x ∷ xs) (t ∷ ts) taken words =
    one_child (λ ys us. P (x ∷ ys) (t ∷ us)) alike b (λ y u is lt. each x y t u taken.0 is words.0 lt) xs ts taken.1 words.1

three_children : (P : List ℕ → List Ty → Type 0) (alike : Ty) (a b c : Takes)
    → ((x y z : ℕ) (t u v : Ty) → IsTaken alike a t → IsTaken alike b u → IsTaken alike c v → IsIn t x → IsIn u y → IsIn v z
    → P (x ∷ y ∷ z ∷ []) (t ∷ u ∷ v ∷ []))
    → (xs : List ℕ) (ts : List Ty) → AreTaken alike (a ∷ b ∷ c ∷ []) NoMore ts → AreWordsOf ts xs → P xs ts
three_children P alike a b c each xs [] taken words = absurd taken
three_children P alike a b c each [] (t ∷ ts) taken words = absurd words
three_children P alike a b c each (x ∷ xs) (t ∷ ts) taken words =
    two_children (λ ys us. P (x ∷ ys) (t ∷ us)) alike b c
    (λ y z u v is_u is_v lt_y lt_z. each x y z t u v taken.0 is_u is_v words.0 lt_y lt_z) xs ts taken.1 words.1

-- ---- divisions and shifts

if_below : (limit : ℕ) (b : Bool) (x y : Outcome) → IsBelow limit x → IsBelow limit y → IsBelow limit (if b then x else y)
if_below limit true x y first second = first
if_below limit false x y first second = second

chilled_below : (limit : ℕ) (chill : Bool) (word : ℕ) (undefined : Undefined) → word < limit → IsBelow limit (chilled chill word undefined)
chilled_below limit true word undefined lt = lt
chilled_below limit false word undefined lt = tt

divided_below : (width : Width) (chill : Bool) (x y : ℕ) → x < limit_of width → IsBelow (limit_of width) (divided width chill x y)
divided_below width chill x y lt =
    if_below (limit_of width) (nat_eq y 0) _ _ (chilled_below (limit_of width) chill 0 _ (zero_in width))
    (if_below (limit_of width) (is_least_by_minus_one width x y) _ (Gives (quotient width x y)) (chilled_below (limit_of width) chill x _ lt)
    (unsigned_in width _ (quotient_up (half_of width) (signed width x) (signed width y) (signed_sized width x lt))))

left_over_below : (width : Width) (chill : Bool) (x y : ℕ) → x < limit_of width → IsBelow (limit_of width) (left_over width chill x y)
left_over_below width chill x y lt =
    if_below (limit_of width) (nat_eq y 0) _ _ (chilled_below (limit_of width) chill 0 _ (zero_in width))
    (if_below (limit_of width) (is_least_by_minus_one width x y) _ (Gives (remainder width x y)) (chilled_below (limit_of width) chill 0 _ (zero_in width))
    (unsigned_in width _ (remainder_up (half_of width) (signed width x) (signed width y) (signed_sized width x lt))))

unless_zero_below : (limit y word : ℕ) → word < limit → IsBelow limit (unless_zero y word)
unless_zero_below limit y word lt = if_below limit (nat_eq y 0) _ _ tt lt

no_more : (limit x y : ℕ) → y ≤ x → x < limit → y < limit
no_more limit x y le lt = omega arith

signed_shift_below : (size a x : ℕ) (b : Bool) → x < 2 ^ size → (x + (if b then (2 ^ a - 1) * 2 ^ size else 0)) / 2 ^ a < 2 ^ size
signed_shift_below size a x true lt =
    let pos : 0 < 2 ^ a = pow_pos a in
    let all : (2 ^ a - 1) * 2 ^ size + x < 2 ^ size * 2 ^ a = mul-add-lt (2 ^ a - 1) (2 ^ size) x (2 ^ a) (omega arith) lt in
    let sum : x + (2 ^ a - 1) * 2 ^ size < 2 ^ size * 2 ^ a = omega arith in
    (div-lt_iff_lt-mul pos).1 sum
signed_shift_below size a x false lt = let le = div-le_self (x + 0) (2 ^ a) in omega arith

rotated_in : (width : Width) (x by : ℕ) → x < limit_of width → rotate_right width x by < limit_of width
rotated_in W32 x by lt = rotated_right-lt 32 x (by % 32) (omega arith) lt
rotated_in W64 x by lt = rotated_right-lt 64 x (by % 64) (omega arith) lt

-- ---- a child of the one type of the row

as_own : (t alike ty : Ty) (x : ℕ) → t ≡ alike → ty ≡ alike → IsIn t x → IsIn ty x
as_own t alike ty x e f lt = subst (λ (u : Ty). IsIn u x) (e ∙ sym f) lt

module _ (chill : Bool) (ty alike : Ty) where
  own_one : (o : Opcode) → ty ≡ alike → (xs : List ℕ) (ts : List Ty) → AreTaken alike (Alike ∷ []) NoMore ts → AreWordsOf ts xs
      → ((x : ℕ) (t : Ty) → IsIn ty x → IsBelow (limit_of (width_of ty)) (result o chill ty (x ∷ []) (t ∷ [])))
      → IsBelow (limit_of (width_of ty)) (result o chill ty xs ts)
  own_one o is xs ts taken words each =
      one_child (λ ys us. IsBelow (limit_of (width_of ty)) (result o chill ty ys us)) alike Alike
      (λ x t same lt. each x t (as_own t alike ty x same is lt)) xs ts taken words

  own_two : (o : Opcode) → ty ≡ alike → (xs : List ℕ) (ts : List Ty) → AreTaken alike (Alike ∷ Alike ∷ []) NoMore ts → AreWordsOf ts xs
      → ((x y : ℕ) (t u : Ty) → IsIn ty x → IsIn ty y → IsBelow (limit_of (width_of ty)) (result o chill ty (x ∷ y ∷ []) (t ∷ u ∷ [])))
      → IsBelow (limit_of (width_of ty)) (result o chill ty xs ts)
  own_two o is xs ts taken words each =
      two_children (λ ys us. IsBelow (limit_of (width_of ty)) (result o chill ty ys us)) alike Alike Alike
      (λ x y t u same other lt_x lt_y. each x y t u (as_own t alike ty x same is lt_x) (as_own u alike ty y other is lt_y)) xs ts taken words

  own_shift : (o : Opcode) → ty ≡ alike → (xs : List ℕ) (ts : List Ty) → AreTaken alike (Alike ∷ This Int32 ∷ []) NoMore ts → AreWordsOf ts xs
      → ((x s : ℕ) (t u : Ty) → IsIn ty x → IsBelow (limit_of (width_of ty)) (result o chill ty (x ∷ s ∷ []) (t ∷ u ∷ [])))
      → IsBelow (limit_of (width_of ty)) (result o chill ty xs ts)
  own_shift o is xs ts taken words each =
      two_children (λ ys us. IsBelow (limit_of (width_of ty)) (result o chill ty ys us)) alike Alike (This Int32)
      (λ x s t u same other lt_x lt_s. each x s t u (as_own t alike ty x same is lt_x)) xs ts taken words

  compared : (o : Opcode) (xs : List ℕ) (ts : List Ty) → AreTaken alike (Alike ∷ Alike ∷ []) NoMore ts → AreWordsOf ts xs
      → ((x y : ℕ) (t u : Ty) → IsBelow (limit_of (width_of ty)) (result o chill ty (x ∷ y ∷ []) (t ∷ u ∷ [])))
      → IsBelow (limit_of (width_of ty)) (result o chill ty xs ts)
  compared o xs ts taken words each =
      two_children (λ ys us. IsBelow (limit_of (width_of ty)) (result o chill ty ys us)) alike Alike Alike
      (λ x y t u same other lt_x lt_y. each x y t u) xs ts taken words

  converted : (o : Opcode) (from : Ty) (xs : List ℕ) (ts : List Ty) → AreTaken alike (This from ∷ []) NoMore ts → AreWordsOf ts xs
      → ((x : ℕ) (t : Ty) → IsIn from x → IsBelow (limit_of (width_of ty)) (result o chill ty (x ∷ []) (t ∷ [])))
      → IsBelow (limit_of (width_of ty)) (result o chill ty xs ts)
  converted o from xs ts taken words each =
      one_child (λ ys us. IsBelow (limit_of (width_of ty)) (result o chill ty ys us)) alike (This from)
      (λ x t same lt. each x t (subst (λ (u : Ty). IsIn u x) same lt)) xs ts taken words

  selected : ty ≡ alike → (xs : List ℕ) (ts : List Ty) → AreTaken alike (Any ∷ Alike ∷ Alike ∷ []) NoMore ts → AreWordsOf ts xs
      → IsBelow (limit_of (width_of ty)) (result op.Select chill ty xs ts)
  selected is xs ts taken words =
      three_children (λ ys us. IsBelow (limit_of (width_of ty)) (result op.Select chill ty ys us)) alike Any Alike Alike
      (λ c x y t u v worded same other lt_c lt_x lt_y. either_in (nat_eq c 0) x y (as_own u alike ty x same is lt_x)
      (as_own v alike ty y other is lt_y)) xs ts taken words
    where
      either_in : (b : Bool) (x y : ℕ) → IsIn ty x → IsIn ty y → IsIn ty (if b then y else x)
      either_in true x y first second = second
      either_in false x y first second = first

wide_word : (ty : Ty) (word : ℕ) → ty ≡ Int64 → word < 2 ^ 64 → IsIn ty word
wide_word ty word is lt = subst (λ (t : Ty). IsIn t word) (sym is) lt

extended_below : (n low : ℕ) → 0 < n → n ≤ 64 → low < 2 ^ n → extended n low < 2 ^ 64
extended_below n low some few lt = either (nat_lt low (2 ^ (n - 1)))
  where
    small : 2 ^ n ≤ 2 ^ 64
    small = pow_mono few

    either : (b : Bool) → (if b then low else low + (2 ^ 64 - 2 ^ n)) < 2 ^ 64
    either true = omega (arith, small)
    either false = omega (arith, small)

-- ---- the opcodes

pub result_fits : (o : Opcode) (chill : Bool) (ty : Ty) (xs : List ℕ) (ts : List Ty) → role_of o ≡ Pure → AllowsTypes o ty ts → AreWordsOf ts xs
    → IsBelow (limit_of (width_of ty)) (result o chill ty xs ts)
result_fits op.Identity chill ty xs ts pure h words = own_one chill ty h.alike op.Identity h.gives xs ts h.children words (λ x t lt. lt)
result_fits op.Add chill ty xs ts pure h words = own_two chill ty h.alike op.Add h.gives xs ts h.children words (λ x y t u lt_x lt_y. low_in (width_of ty) _)
result_fits op.Sub chill ty xs ts pure h words = own_two chill ty h.alike op.Sub h.gives xs ts h.children words (λ x y t u lt_x lt_y. low_in (width_of ty) _)
result_fits op.Mul chill ty xs ts pure h words = own_two chill ty h.alike op.Mul h.gives xs ts h.children words (λ x y t u lt_x lt_y. low_in (width_of ty) _)
result_fits op.BitAnd chill ty xs ts pure h words =
    own_two chill ty h.alike op.BitAnd h.gives xs ts h.children words
    (λ x y t u lt_x lt_y. no_more (limit_of (width_of ty)) x (bit_and x y) (and_le_l x y) lt_x)
result_fits op.BitOr chill ty xs ts pure h words =
    own_two chill ty h.alike op.BitOr h.gives xs ts h.children words (λ x y t u lt_x lt_y. or_lt (bits (width_of ty)) x y lt_x lt_y)
result_fits op.BitXor chill ty xs ts pure h words =
    own_two chill ty h.alike op.BitXor h.gives xs ts h.children words (λ x y t u lt_x lt_y. xor_lt (bits (width_of ty)) x y lt_x lt_y)
result_fits op.Neg chill ty xs ts pure h words = own_one chill ty h.alike op.Neg h.gives xs ts h.children words (λ x t lt. low_in (width_of ty) _)
result_fits op.Div chill ty xs ts pure h words =
    own_two chill ty h.alike op.Div h.gives xs ts h.children words (λ x y t u lt_x lt_y. divided_below (width_of ty) chill x y lt_x)
result_fits op.Mod chill ty xs ts pure h words =
    own_two chill ty h.alike op.Mod h.gives xs ts h.children words (λ x y t u lt_x lt_y. left_over_below (width_of ty) chill x y lt_x)
result_fits op.UDiv chill ty xs ts pure h words =
    own_two chill ty h.alike op.UDiv h.gives xs ts h.children words
    (λ x y t u lt_x lt_y. unless_zero_below (limit_of (width_of ty)) y (x / y) (no_more (limit_of (width_of ty)) x (x / y) (div-le_self x y) lt_x))
result_fits op.UMod chill ty xs ts pure h words =
    own_two chill ty h.alike op.UMod h.gives xs ts h.children words
    (λ x y t u lt_x lt_y. unless_zero_below (limit_of (width_of ty)) y (x % y) (no_more (limit_of (width_of ty)) x (x % y) (mod-le x y) lt_x))
result_fits op.Shl chill ty xs ts pure h words = own_shift chill ty h.alike op.Shl h.gives xs ts h.children words (λ x s t u lt. low_in (width_of ty) _)
result_fits op.SShr chill ty xs ts pure h words =
    own_shift chill ty h.alike op.SShr h.gives xs ts h.children words (λ x s t u lt. signed_shift_below (bits (width_of ty)) _ x _ lt)
result_fits op.ZShr chill ty xs ts pure h words =
    own_shift chill ty h.alike op.ZShr h.gives xs ts h.children words (λ x s t u lt. no_more (limit_of (width_of ty)) x _ (div-le_self x _) lt)
result_fits op.RotL chill ty xs ts pure h words =
    own_shift chill ty h.alike op.RotL h.gives xs ts h.children words (λ x s t u lt. rotated_in (width_of ty) x _ lt)
result_fits op.RotR chill ty xs ts pure h words =
    own_shift chill ty h.alike op.RotR h.gives xs ts h.children words (λ x s t u lt. rotated_in (width_of ty) x s lt)
result_fits op.Clz chill ty xs ts pure h words = own_one chill ty h.alike op.Clz h.gives xs ts h.children words (λ x t lt. leading_in (width_of ty) x)
result_fits op.SExt8 chill ty xs ts pure h words =
    converted chill ty h.alike op.SExt8 Int32 xs ts h.children words (λ x t lt. narrow_in (width_of ty) _ (low_in W32 _))
result_fits op.SExt16 chill ty xs ts pure h words =
    converted chill ty h.alike op.SExt16 Int32 xs ts h.children words (λ x t lt. narrow_in (width_of ty) _ (low_in W32 _))
result_fits op.SExt32 chill ty xs ts pure h words =
    converted chill ty h.alike op.SExt32 Int32 xs ts h.children words
    (λ x t lt. wide_word ty (sign_extended 32 x) h.gives (extended_below 32 (x % 2 ^ 32) (omega arith) (omega arith) (omega arith)))
result_fits op.ZExt32 chill ty xs ts pure h words = converted chill ty h.alike op.ZExt32 Int32 xs ts h.children words (λ x t lt. narrow_in (width_of ty) x lt)
result_fits op.Trunc chill ty xs ts pure h words =
    converted chill ty h.alike op.Trunc Int64 xs ts h.children words (λ x t lt. narrow_in (width_of ty) _ (low_in W32 x))
result_fits op.Equal chill ty xs ts pure h words = compared chill ty h.alike op.Equal xs ts h.children words (λ x y t u. truth_in (width_of ty) _)
result_fits op.NotEqual chill ty xs ts pure h words = compared chill ty h.alike op.NotEqual xs ts h.children words (λ x y t u. truth_in (width_of ty) _)
result_fits op.LessThan chill ty xs ts pure h words = compared chill ty h.alike op.LessThan xs ts h.children words (λ x y t u. truth_in (width_of ty) _)
result_fits op.GreaterThan chill ty xs ts pure h words = compared chill ty h.alike op.GreaterThan xs ts h.children words (λ x y t u. truth_in (width_of ty) _)
result_fits op.LessEqual chill ty xs ts pure h words = compared chill ty h.alike op.LessEqual xs ts h.children words (λ x y t u. truth_in (width_of ty) _)
result_fits op.GreaterEqual chill ty xs ts pure h words = compared chill ty h.alike op.GreaterEqual xs ts h.children words (λ x y t u. truth_in (width_of ty) _)
result_fits op.Above chill ty xs ts pure h words = compared chill ty h.alike op.Above xs ts h.children words (λ x y t u. truth_in (width_of ty) _)
result_fits op.Below chill ty xs ts pure h words = compared chill ty h.alike op.Below xs ts h.children words (λ x y t u. truth_in (width_of ty) _)
result_fits op.AboveEqual chill ty xs ts pure h words = compared chill ty h.alike op.AboveEqual xs ts h.children words (λ x y t u. truth_in (width_of ty) _)
result_fits op.BelowEqual chill ty xs ts pure h words = compared chill ty h.alike op.BelowEqual xs ts h.children words (λ x y t u. truth_in (width_of ty) _)
result_fits op.Select chill ty xs ts pure h words = selected chill ty h.alike h.gives xs ts h.children words
result_fits _ chill ty xs ts pure h words = absurd (cc)
