-- What the one instruction of an op puts in its register.
use Rattle.std.proofs.Common.{◌≡◌, ℕ, ◌+◌, ◌-◌, ◌*◌, ◌/◌, ◌%◌, ◌^◌, ◌<◌, ◌≤◌, Bool, true, false, [], ◌∷◌, Some, None, refl, sym, ap, ◌∙◌, subst, arith}
use Rattle.std.specs.Prelude.{◌||◌, nat_le, nat_lt, if◌then◌else◌}
use Rattle.std.specs.Int.Bits.{bit_and, bit_or, bit_xor, or_zero_l}
use Rattle.std.proofs.Math.Nat.{mod-mod}
use Rattle.std.proofs.lemmas.Bool.{ne_eqb}
use Rattle.std.proofs.lemmas.Bool.Decides.{nat_tests}
use Rattle.b3_base.specs.Arithmetic.{extended, leading_zeros, low, mul_high as high_product, sign_extended}
use Rattle.b3_base.specs.BitMask.{bit_mask, element_bits}
use Rattle.b3_base.specs.MaskFields.{fields_of_mask}
use Rattle.b3_base.specs.Word.{bits}
use Rattle.b3_base.specs.declared.word.Width.{Width}
use Rattle.b3_base.specs.declared.word.Width.TheVariants.{W32, W64}
use Rattle.b3_base.proofs.MaskSearch.{found_turned}
use Rattle.b3_base.proofs.Widths.{in_width-lt}
use Rattle.a64_inst.specs.Step.{Bytes, Registers, step_of, goes_on, put, read, write, low_bits, operand, shifted, sum_of, add_sub_imm, add_sub_reg, logic_imm, logic_reg, bit_field, divide, shift_reg, count_zeros, mul_add, mul_high}
use Rattle.a64_inst.specs.StepData.{read_low, shift_of, quotient}
use Rattle.a64_inst.specs.Values.{logic, sets_flags}
use Rattle.a64_inst.specs.declared.inst.Inst.{Inst}
use Rattle.a64_inst.specs.declared.inst.Inst.TheVariants.{AddSubImm, AddSubReg, BitField, CountZeros, Divide, LogicImm, LogicReg, MulAdd, MulHigh, ShiftReg}
use Rattle.a64_inst.specs.declared.inst.LogicOp.{LogicOp}
use Rattle.a64_inst.specs.declared.inst.LogicOp.TheVariants.{And, Orr, Eor, Ands}
use Rattle.a64_inst.specs.declared.inst.ShiftKind.{ShiftKind}
use Rattle.a64_inst.specs.declared.inst.ShiftKind.TheVariants.{Lslv, Lsrv, Asrv, Rorv}
use Rattle.b3_meaning.specs.Opcodes.{amount, difference, product, sum}
use Rattle.air_ir.specs.Forms.{OfLogic, OfSum, is_short, IsImmediate}
use Rattle.air_ir.specs.Words.{computed}
use Rattle.air_ir.specs.declared.op.AirOp.{AirOp}
use Rattle.air_ir.specs.declared.op.AirOp.TheVariants as op
use Rattle.a64_code.specs.Computing.{computing, logic_by, move_reg, move_shifted, reg_of, shift_by, short_sum, sum_by}
use Rattle.a64_code.specs.Fitting.{IsComputed, IsMasked, IsSummed}
use Rattle.a64_code.specs.declared.source.Source.{Source}
use Rattle.a64_code.specs.declared.source.Source.TheVariants.{InReg, Constant}

-- a source is a register or a constant that stands for a word of a width
abbrev pub Gives : Registers → Source → Width → ℕ → Type 0
Gives s (InReg r) width word = (r ≤ 30) × (low width (s.x r) ≡ word)
Gives s (Constant k) width word = low width k ≡ word

-- it is a register
abbrev pub IsRegister : Source → Type 0
IsRegister (InReg r) = Unit {0}
IsRegister (Constant k) = ⊥

pub read_is : (s : Registers) (r : ℕ) → r ≤ 30 → read s r ≡ s.x r
read_is s r le = rw (ne_eqb r 31 (λ e. omega arith)) refl

pub low_is : (s : Registers) (a : Source) (width : Width) (word : ℕ) → IsRegister a → Gives s a width word → read_low width s (reg_of a) ≡ word
low_is s (InReg r) width word is gives = ap (low_bits width) (read_is s r gives.0) ∙ gives.1
low_is s (Constant k) width word is gives = absurd is

pub gives-small : (s : Registers) (a : Source) (width : Width) (word : ℕ) → Gives s a width word → word < 2 ^ bits width
gives-small s (InReg r) width word gives = subst (λ w. w < 2 ^ bits width) gives.1 (in_width-lt width (s.x r))
gives-small s (Constant k) width word gives = subst (λ w. w < 2 ^ bits width) gives (in_width-lt width k)

pub write_is : (s : Registers) (rd word : ℕ) → rd ≤ 30 → write s rd word ≡ put s rd word
write_is s rd word le = rw (ne_eqb rd 31 (λ e. omega arith)) refl

-- what is put is known
pub puts_of : (s : Registers) (m : Bytes) (rd v w : ℕ) → rd ≤ 30 → v ≡ w → goes_on (write s rd v) m ≡ goes_on (put s rd w) m
puts_of s m rd v w le e = ap (λ (t : Registers). goes_on t m) (write_is s rd v le) ∙ ap (λ x. goes_on (put s rd x) m) e

-- of two words that are read
two_of : (f : ℕ → ℕ → ℕ) (a b x y w : ℕ) → a ≡ x → b ≡ y → f x y ≡ w → f a b ≡ w
two_of f a b x y w is_x is_y e = ap (λ v. f v b) is_x ∙ ap (f x) is_y ∙ e

-- ---- values

pub same_word : (width : Width) (y : ℕ) → y < 2 ^ bits width → y * 1 % 2 ^ bits width ≡ y
same_word W32 y small = omega arith
same_word W64 y small = omega arith

pub unshifted : (width : Width) (y : ℕ) → y < 2 ^ bits width → shifted width 0 y 0 ≡ y
unfolding shifted
unshifted width y small = same_word width y small

sum_is : (width : Width) (x y : ℕ) → (x + y + 0) % 2 ^ bits width ≡ sum width x y
sum_is W32 x y = omega arith
sum_is W64 x y = omega arith

difference_is : (width : Width) (x y : ℕ) → y < 2 ^ bits width → (x + (2 ^ bits width - 1 - y) + 1) % 2 ^ bits width ≡ difference width x y
difference_is W32 x y small = omega arith
difference_is W64 x y small = omega arith

zero_low : (width : Width) → 0 % 2 ^ bits width ≡ 0
zero_low W32 = refl
zero_low W64 = refl

pub low_small : (width : Width) (x : ℕ) → x < 2 ^ bits width → x % 2 ^ bits width ≡ x
low_small W32 x small = omega arith
low_small W64 x small = omega arith

product_is : (width : Width) (p : ℕ) → (0 % 2 ^ bits width + p % 2 ^ bits width + 0) % 2 ^ bits width ≡ p % 2 ^ bits width
product_is W32 p = omega arith
product_is W64 p = omega arith

amount_is : (width : Width) (n : ℕ) → n % 2 ^ bits width % bits width ≡ n % 2 ^ 32 % bits width
amount_is W32 n = omega arith
amount_is W64 n = omega arith

constant_amount : (width : Width) (n : ℕ) → n % bits width ≡ n % 2 ^ 32 % bits width
constant_amount W32 n = omega arith
constant_amount W64 n = omega arith

-- the four shifts, by a number of bits
abbrev pub shift_value : ShiftKind → Width → ℕ → ℕ → ℕ
shift_value kind width x n = shifted width (shift_of kind) x n

-- the fields that are found for a mask name it
turned : (width : Width) (n immr imms : ℕ) → bit_mask width n (immr % element_bits n imms) imms ≡ bit_mask width n immr imms
unfolding bit_mask
turned width n immr imms = rw (mod-mod immr (element_bits n imms)) refl

pub fields_name : (width : Width) (k : ℕ) → IsImmediate OfLogic width k
    → bit_mask width (fields_of_mask width k).0 (fields_of_mask width k).1 (fields_of_mask width k).2 ≡ Some k
fields_name width k named =
    ap (λ (t : ℕ × ℕ × ℕ). bit_mask width t.0 t.1 t.2) (found_turned width named.0 named.1 named.2 k (omega (arith, named.3)) (omega (arith, named.5)) named.6)
    ∙ turned width named.0 named.1 named.2 ∙ named.6

extended_small : (x : ℕ) → x < 2 ^ 32 → low W64 (extended 32 x) ≡ extended 32 x
extended_small x small =
    elim (nat_lt x (2 ^ (32 - 1))) as (λ b. (if b then x else x + (2 ^ 64 - 2 ^ 32)) % 2 ^ 64 ≡ (if b then x else x + (2 ^ 64 - 2 ^ 32))) [
      | true ↦ omega arith
      | false ↦ omega arith
    ]

-- a short word above 12 bits is a multiple of 4096
pub short_high : (k : ℕ) → is_short k ≡ true → nat_le k 4095 ≡ false → k / 4096 * 4096 ≡ k
short_high k short e = grind (arith, nat_tests)

-- the words less which a word is short
abbrev pub turned_word : Width → ℕ → ℕ
turned_word width k = 2 ^ bits width - k

pub not_zero : (k : ℕ) → is_short k ≡ false → 0 < k
not_zero k short = grind (arith, nat_tests)

add_turned : (width : Width) (x k : ℕ) → k < 2 ^ bits width → is_short k ≡ false
    → sum_of width x (operand width true (turned_word width k)) 1 ≡ sum width x k
add_turned W32 x k small short = let some : 0 < k = not_zero k short in omega arith
add_turned W64 x k small short = let some : 0 < k = not_zero k short in omega arith

or_true : (a b : Bool) → (a || b) ≡ true → a ≡ false → b ≡ true
or_true true b e f = absurd cc
or_true false b e f = e

pub turned_short : (width : Width) (k : ℕ) → is_short k ≡ false → IsImmediate OfSum width k → is_short (2 ^ bits width - k) ≡ true
turned_short width k e fits = or_true (is_short k) (is_short (2 ^ bits width - k)) fits e

-- ---- sums

module _ (s : Registers) (m : Bytes) (rd : ℕ) (le : rd ≤ 30) where
  adds : (width : Width) (sub : Bool) (a b : Source) (x y w : ℕ) → IsRegister a → IsRegister b → Gives s a width x → Gives s b width y
      → sum_of width x (operand width sub y) (if sub then 1 else 0) ≡ w
      → step_of (AddSubReg width sub false rd (reg_of a) (reg_of b) 0 0) s m ≡ goes_on (put s rd w) m
  unfolding step_of add_sub_reg
  adds width false a b x y w is_a is_b gives_a gives_b e =
      puts_of s m rd _ w le (two_of (λ v u. sum_of width v (shifted width 0 u 0) 0) (read_low width s (reg_of a)) (read_low width s (reg_of b)) x y w
      (low_is s a width x is_a gives_a) (low_is s b width y is_b gives_b)
      (ap (λ u. sum_of width x u 0) (unshifted width y (gives-small s b width y gives_b)) ∙ e))
  adds width true a b x y w is_a is_b gives_a gives_b e =
      puts_of s m rd _ w le (two_of (λ v u. sum_of width v (operand width true (shifted width 0 u 0)) 1) (read_low width s (reg_of a))
      (read_low width s (reg_of b)) x y w
      (low_is s a width x is_a gives_a) (low_is s b width y is_b gives_b)
      (ap (λ u. sum_of width x (operand width true u) 1) (unshifted width y (gives-small s b width y gives_b)) ∙ e))

  pub add_is : (width : Width) (a b : Source) (x y : ℕ) → IsRegister a → IsRegister b → Gives s a width x → Gives s b width y
      → step_of (AddSubReg width false false rd (reg_of a) (reg_of b) 0 0) s m ≡ goes_on (put s rd (sum width x y)) m
  add_is width a b x y is_a is_b gives_a gives_b = adds width false a b x y (sum width x y) is_a is_b gives_a gives_b (sum_is width x y)

  pub sub_is : (width : Width) (a b : Source) (x y : ℕ) → IsRegister a → IsRegister b → Gives s a width x → Gives s b width y
      → step_of (AddSubReg width true false rd (reg_of a) (reg_of b) 0 0) s m ≡ goes_on (put s rd (difference width x y)) m
  sub_is width a b x y is_a is_b gives_a gives_b =
      adds width true a b x y (difference width x y) is_a is_b gives_a gives_b (difference_is width x y (gives-small s b width y gives_b))

  pub neg_is : (width : Width) (a : Source) (x : ℕ) → IsRegister a → Gives s a width x
      → step_of (AddSubReg width true false rd 31 (reg_of a) 0 0) s m ≡ goes_on (put s rd (difference width 0 x)) m
  unfolding step_of add_sub_reg
  neg_is width a x is_a gives_a =
      puts_of s m rd _ (difference width 0 x) le (two_of (λ v u. sum_of width v (operand width true (shifted width 0 u 0)) 1) (0 % 2 ^ bits width)
      (read_low width s (reg_of a)) 0 x
      (difference width 0 x) (zero_low width) (low_is s a width x is_a gives_a)
      (ap (λ u. sum_of width 0 (operand width true u) 1) (unshifted width x (gives-small s a width x gives_a))
      ∙ difference_is width 0 x (gives-small s a width x gives_a)))

  -- ---- products and quotients

  pub mul_is : (width : Width) (a b : Source) (x y : ℕ) → IsRegister a → IsRegister b → Gives s a width x → Gives s b width y
      → step_of (MulAdd width false rd (reg_of a) (reg_of b) 31) s m ≡ goes_on (put s rd (product width x y)) m
  unfolding step_of mul_add
  mul_is width a b x y is_a is_b gives_a gives_b =
      puts_of s m rd _ (product width x y) le (two_of (λ v u. sum_of width (0 % 2 ^ bits width) (low_bits width (v * u)) 0)
      (read_low width s (reg_of a)) (read_low width s (reg_of b)) x y
      (product width x y) (low_is s a width x is_a gives_a) (low_is s b width y is_b gives_b) (product_is width (x * y)))

  pub mul_sub_is : (width : Width) (a b c : Source) (x y w : ℕ) → IsRegister a → IsRegister b → IsRegister c → Gives s a width x → Gives s b width y
      → Gives s c width w
      → step_of (MulAdd width true rd (reg_of a) (reg_of b) (reg_of c)) s m ≡ goes_on (put s rd (difference width w (product width x y))) m
  unfolding step_of mul_add
  mul_sub_is width a b c x y w is_a is_b is_c gives_a gives_b gives_c =
      puts_of s m rd _ (difference width w (product width x y)) le
      (ap (λ v. sum_of width v (operand width true (low_bits width (read_low width s (reg_of a) * read_low width s (reg_of b)))) 1)
      (low_is s c width w is_c gives_c)
      ∙ two_of (λ v u. sum_of width w (operand width true (low_bits width (v * u))) 1) (read_low width s (reg_of a)) (read_low width s (reg_of b)) x y
      (difference width w (product width x y)) (low_is s a width x is_a gives_a) (low_is s b width y is_b gives_b)
      (difference_is width w (product width x y) (in_width-lt width (x * y))))

  pub divide_is : (width : Width) (sign : Bool) (a b : Source) (x y : ℕ) → IsRegister a → IsRegister b → Gives s a width x → Gives s b width y
      → step_of (Divide width sign rd (reg_of a) (reg_of b)) s m ≡ goes_on (put s rd (quotient width sign x y)) m
  unfolding step_of divide
  divide_is width sign a b x y is_a is_b gives_a gives_b =
      puts_of s m rd _ (quotient width sign x y) le (two_of (quotient width sign) (read_low width s (reg_of a)) (read_low width s (reg_of b)) x y
      (quotient width sign x y) (low_is s a width x is_a gives_a) (low_is s b width y is_b gives_b) refl)

  whole_is : (a : Source) (x : ℕ) → ((r : ℕ) → s.x r < 2 ^ 64) → IsRegister a → Gives s a W64 x → read s (reg_of a) ≡ x
  whole_is (InReg r) x words is gives = let small = words r in read_is s r gives.0 ∙ (let e : s.x r ≡ s.x r % 2 ^ 64 = omega arith in e ∙ gives.1)
  whole_is (Constant k) x words is gives = absurd is

  pub high_is : (sign : Bool) (a b : Source) (x y : ℕ) → ((r : ℕ) → s.x r < 2 ^ 64) → IsRegister a → IsRegister b → Gives s a W64 x → Gives s b W64 y
      → step_of (MulHigh sign rd (reg_of a) (reg_of b)) s m ≡ goes_on (put s rd (high_product sign x y)) m
  unfolding step_of mul_high
  high_is sign a b x y words is_a is_b gives_a gives_b =
      puts_of s m rd _ (high_product sign x y) le (two_of (high_product sign) (read s (reg_of a)) (read s (reg_of b)) x y
      (high_product sign x y) (whole_is a x words is_a gives_a) (whole_is b y words is_b gives_b) refl)

  -- ---- logical operations

  pub logic_is : (width : Width) (op : LogicOp) (a b : Source) (x y : ℕ) → sets_flags op ≡ false → IsRegister a → IsRegister b → Gives s a width x
      → Gives s b width y
      → step_of (LogicReg width op false rd (reg_of a) (reg_of b) 0 0) s m ≡ goes_on (put s rd (logic op x y)) m
  unfolding step_of logic_reg
  logic_is width And a b x y plain is_a is_b gives_a gives_b =
      puts_of s m rd _ (bit_and x y) le (two_of (λ v u. bit_and v (shifted width 0 u 0)) (read_low width s (reg_of a)) (read_low width s (reg_of b)) x y
      (bit_and x y) (low_is s a width x is_a gives_a) (low_is s b width y is_b gives_b) (ap (bit_and x) (unshifted width y (gives-small s b width y gives_b))))
  logic_is width Orr a b x y plain is_a is_b gives_a gives_b =
      puts_of s m rd _ (bit_or x y) le (two_of (λ v u. bit_or v (shifted width 0 u 0)) (read_low width s (reg_of a)) (read_low width s (reg_of b)) x y
      (bit_or x y) (low_is s a width x is_a gives_a) (low_is s b width y is_b gives_b) (ap (bit_or x) (unshifted width y (gives-small s b width y gives_b))))
  logic_is width Eor a b x y plain is_a is_b gives_a gives_b =
      puts_of s m rd _ (bit_xor x y) le (two_of (λ v u. bit_xor v (shifted width 0 u 0)) (read_low width s (reg_of a)) (read_low width s (reg_of b)) x y
      (bit_xor x y) (low_is s a width x is_a gives_a) (low_is s b width y is_b gives_b) (ap (bit_xor x) (unshifted width y (gives-small s b width y gives_b))))
  logic_is width Ands a b x y plain is_a is_b gives_a gives_b = absurd cc

  masked_is : (width : Width) (op : LogicOp) (a : Source) (n immr imms x y : ℕ) → sets_flags op ≡ false → IsRegister a → Gives s a width x
      → bit_mask width n immr imms ≡ Some y
      → step_of (LogicImm width op rd (reg_of a) n immr imms) s m ≡ goes_on (put s rd (logic op x y)) m
  unfolding step_of logic_imm
  masked_is width And a n immr imms x y plain is_a gives_a masked =
      rw (masked, ne_eqb rd 31 (λ e. omega arith)) (ap (λ v. goes_on (put s rd (bit_and v y)) m) (low_is s a width x is_a gives_a))
  masked_is width Orr a n immr imms x y plain is_a gives_a masked =
      rw (masked, ne_eqb rd 31 (λ e. omega arith)) (ap (λ v. goes_on (put s rd (bit_or v y)) m) (low_is s a width x is_a gives_a))
  masked_is width Eor a n immr imms x y plain is_a gives_a masked =
      rw (masked, ne_eqb rd 31 (λ e. omega arith)) (ap (λ v. goes_on (put s rd (bit_xor v y)) m) (low_is s a width x is_a gives_a))
  masked_is width Ands a n immr imms x y plain is_a gives_a masked = absurd cc

  pub logic_by_is : (width : Width) (op : LogicOp) (a b : Source) (x y : ℕ) → sets_flags op ≡ false → IsRegister a → Gives s a width x
      → Gives s b width y → IsMasked width b
      → step_of (logic_by width op rd (reg_of a) b) s m ≡ goes_on (put s rd (logic op x y)) m
  logic_by_is width op a (InReg r) x y plain is_a gives_a gives_b fits = logic_is width op a (InReg r) x y plain is_a tt gives_a gives_b
  logic_by_is width op a (Constant k) x y plain is_a gives_a gives_b fits =
      let f : ℕ × ℕ × ℕ = fields_of_mask width k in
      let mask : k ≡ y = sym (low_small width k fits.0) ∙ gives_b in
      masked_is width op a f.0 f.1 f.2 x y plain is_a gives_a (fields_name width k fits.1 ∙ ap Some mask)

  -- ---- shifts

  pub shift_reg_is : (width : Width) (kind : ShiftKind) (a b : Source) (x y : ℕ) → IsRegister a → IsRegister b → Gives s a width x → Gives s b W32 y
      → step_of (ShiftReg width kind rd (reg_of a) (reg_of b)) s m ≡ goes_on (put s rd (shift_value kind width x (amount width y))) m
  unfolding step_of shift_reg
  shift_reg_is width kind a (InReg r) x y is_a is_b gives_a gives_b =
      puts_of s m rd _ (shift_value kind width x (amount width y)) le
      (two_of (λ v u. shifted width (shift_of kind) v (u % bits width)) (read_low width s (reg_of a)) (read_low width s r) x (low_bits width (s.x r))
      (shift_value kind width x (amount width y)) (low_is s a width x is_a gives_a) (ap (low_bits width) (read_is s r gives_b.0))
      (ap (λ u. shifted width (shift_of kind) x u) (amount_is width (s.x r) ∙ ap (λ u. u % bits width) gives_b.1)))
  shift_reg_is width kind a (Constant k) x y is_a is_b gives_a gives_b = absurd is_b

  pub move_shifted_is : (width : Width) (shift n : ℕ) (a : Source) (x : ℕ) → IsRegister a → Gives s a width x
      → step_of (move_shifted width rd (reg_of a) shift n) s m ≡ goes_on (put s rd (shifted width shift x n)) m
  unfolding step_of logic_reg
  move_shifted_is width shift n a x is_a gives_a =
      puts_of s m rd _ (shifted width shift x n) le
      (two_of (λ v u. bit_or v (shifted width shift u n)) (0 % 2 ^ bits width) (read_low width s (reg_of a)) 0 x (shifted width shift x n)
      (zero_low width) (low_is s a width x is_a gives_a) (or_zero_l (shifted width shift x n)))

  pub shift_by_is : (width : Width) (kind : ShiftKind) (a b : Source) (x y : ℕ) → IsRegister a → Gives s a width x → Gives s b W32 y
      → step_of (shift_by width kind rd (reg_of a) b) s m ≡ goes_on (put s rd (shift_value kind width x (amount width y))) m
  shift_by_is width kind a (InReg r) x y is_a gives_a gives_b = shift_reg_is width kind a (InReg r) x y is_a tt gives_a gives_b
  shift_by_is width kind a (Constant k) x y is_a gives_a gives_b =
      move_shifted_is width (shift_of kind) (k % bits width) a x is_a gives_a
      ∙ ap (λ n. goes_on (put s rd (shifted width (shift_of kind) x n)) m) (constant_amount width k ∙ ap (λ u. u % bits width) gives_b)

  -- ---- one source

  pub move_is : (width : Width) (a : Source) (x : ℕ) → IsRegister a → Gives s a width x
      → step_of (move_reg width rd (reg_of a)) s m ≡ goes_on (put s rd x) m
  move_is width a x is_a gives_a =
      move_shifted_is width 0 0 a x is_a gives_a ∙ ap (λ w. goes_on (put s rd w) m) (unshifted width x (gives-small s a width x gives_a))

  pub zeros_is : (width : Width) (a : Source) (x : ℕ) → IsRegister a → Gives s a width x
      → step_of (CountZeros width rd (reg_of a)) s m ≡ goes_on (put s rd (leading_zeros width x)) m
  unfolding step_of count_zeros
  zeros_is width a x is_a gives_a = puts_of s m rd _ (leading_zeros width x) le (ap (leading_zeros width) (low_is s a width x is_a gives_a))

  divided : (x : ℕ) → x / 2 ^ 0 ≡ x
  divided x = omega arith

  pub extend_byte_is : (a : Source) (x : ℕ) → IsRegister a → Gives s a W32 x
      → step_of (BitField W32 true rd (reg_of a) 0 7) s m ≡ goes_on (put s rd (low W32 (sign_extended 8 x))) m
  unfolding step_of bit_field
  extend_byte_is a x is_a gives_a =
      puts_of s m rd _ (low W32 (sign_extended 8 x)) le
      (ap (λ v. low W32 (sign_extended 8 v)) (divided (read_low W32 s (reg_of a)) ∙ low_is s a W32 x is_a gives_a))

  pub extend_half_is : (a : Source) (x : ℕ) → IsRegister a → Gives s a W32 x
      → step_of (BitField W32 true rd (reg_of a) 0 15) s m ≡ goes_on (put s rd (low W32 (sign_extended 16 x))) m
  unfolding step_of bit_field
  extend_half_is a x is_a gives_a =
      puts_of s m rd _ (low W32 (sign_extended 16 x)) le
      (ap (λ v. low W32 (sign_extended 16 v)) (divided (read_low W32 s (reg_of a)) ∙ low_is s a W32 x is_a gives_a))

  low_of_whole : (n : ℕ) → low W64 (sign_extended 32 (n % 2 ^ 64 / 2 ^ 0)) ≡ sign_extended 32 (n % 2 ^ 32)
  low_of_whole n =
      let e : n % 2 ^ 64 / 2 ^ 0 % 2 ^ 32 ≡ n % 2 ^ 32 % 2 ^ 32 = omega arith in
      rw e (extended_small (n % 2 ^ 32 % 2 ^ 32) (omega arith))

  pub extend_word_is : (a : Source) (x : ℕ) → IsRegister a → Gives s a W32 x
      → step_of (BitField W64 true rd (reg_of a) 0 31) s m ≡ goes_on (put s rd (sign_extended 32 x)) m
  unfolding step_of bit_field
  extend_word_is (InReg r) x is_a gives_a =
      puts_of s m rd _ (sign_extended 32 x) le
      (ap (λ v. low W64 (sign_extended 32 (v % 2 ^ 64 / 2 ^ 0))) (read_is s r gives_a.0) ∙ low_of_whole (s.x r) ∙ ap (sign_extended 32) gives_a.1)
  extend_word_is (Constant k) x is_a gives_a = absurd is_a

  -- ---- sums with constants

  imm_is : (width : Width) (sub : Bool) (r imm12 : ℕ) (high : Bool) (k x : ℕ) → Gives s (InReg r) width x → (if high then imm12 * 4096 else imm12) ≡ k
      → step_of (AddSubImm width sub false rd r imm12 high) s m ≡ goes_on (put s rd (sum_of width x (operand width sub k) (if sub then 1 else 0))) m
  unfolding step_of add_sub_imm
  imm_is width false r imm12 high k x gives e = rw (e, ne_eqb rd 31 (λ e. omega arith), ne_eqb r 31 (λ e. let le = gives.0 in omega arith), gives.1) refl
  imm_is width true r imm12 high k x gives e = rw (e, ne_eqb rd 31 (λ e. omega arith), ne_eqb r 31 (λ e. let le = gives.0 in omega arith), gives.1) refl

  short_is : (width : Width) (sub : Bool) (a : Source) (k x : ℕ) → is_short k ≡ true → IsRegister a → Gives s a width x
      → step_of (short_sum width sub false rd (reg_of a) k) s m ≡ goes_on (put s rd (sum_of width x (operand width sub k) (if sub then 1 else 0))) m
  short_is width sub (InReg r) k x short is_a gives_a =
      elim (nat_le k 4095) as (λ b. nat_le k 4095 ≡ b
      → step_of (if b then AddSubImm width sub false rd r k false else AddSubImm width sub false rd r (k / 4096) true) s m
      ≡ goes_on (put s rd (sum_of width x (operand width sub k) (if sub then 1 else 0))) m) [
        | true ↦ λ e. imm_is width sub r k false k x gives_a refl
        | false ↦ λ e. imm_is width sub r (k / 4096) true k x gives_a (short_high k short e)
      ] refl
  short_is width sub (Constant c) k x short is_a gives_a = absurd is_a

  pub sum_by_is : (width : Width) (a b : Source) (x y : ℕ) → IsRegister a → Gives s a width x → Gives s b width y → IsSummed width b
      → step_of (sum_by width false false rd (reg_of a) b) s m ≡ goes_on (put s rd (sum width x y)) m
  sum_by_is width a (InReg r) x y is_a gives_a gives_b fits = add_is width a (InReg r) x y is_a tt gives_a gives_b
  sum_by_is width a (Constant k) x y is_a gives_a gives_b fits =
      let same : k ≡ y = sym (low_small width k fits.0) ∙ gives_b in
      let either : (b : Bool) → is_short k ≡ b
      → step_of (if b then short_sum width false false rd (reg_of a) k else short_sum width true false rd (reg_of a) (2 ^ bits width - k)) s m ≡ goes_on
      (put s rd (sum width x k)) m =
      λ b. elim b as (λ b. is_short k ≡ b → step_of (if b then short_sum width false false rd (reg_of a) k else short_sum width true false rd (reg_of a)
      (2 ^ bits width - k)) s m ≡ goes_on (put s rd (sum width x k)) m) [
        | true ↦ λ e. short_is width false a k x e is_a gives_a ∙ ap (λ v. goes_on (put s rd v) m) (sum_is width x k)
        | false ↦ λ e. short_is width true a (2 ^ bits width - k) x (turned_short width k e fits.1) is_a gives_a
            ∙ ap (λ v. goes_on (put s rd v) m) (add_turned width x k fits.0 e)
      ] in
      either (is_short k) refl ∙ ap (λ v. goes_on (put s rd (sum width x v)) m) same

-- ---- the table

-- the words of up to three sources, the second of another width where it is the amount of a shift
abbrev pub second_width : AirOp → Width → Width
second_width op.Lsl width = W32
second_width op.Lsr width = W32
second_width op.Asr width = W32
second_width op.Ror width = W32
second_width _ width = width

-- the second source of these may be a constant
abbrev pub takes_constant : AirOp → Bool
takes_constant op.Add = true
takes_constant op.And = true
takes_constant op.Or = true
takes_constant op.Xor = true
takes_constant op.Lsl = true
takes_constant op.Lsr = true
takes_constant op.Asr = true
takes_constant op.Ror = true
takes_constant _ = false

-- the width at which an op computes, where it is one alone; a test doesn't compute by one instruction
abbrev pub IsWidthOf : AirOp → Width → Type 0
IsWidthOf op.SExt8 width = width ≡ W32
IsWidthOf op.SExt16 width = width ≡ W32
IsWidthOf op.SExt32 width = width ≡ W32
IsWidthOf op.ZExt32 width = width ≡ W32
IsWidthOf op.MulHigh width = width ≡ W64
IsWidthOf op.UMulHigh width = width ≡ W64
IsWidthOf (op.SetIf test) width = ⊥
IsWidthOf (op.SelectIf test) width = ⊥
IsWidthOf _ width = Unit {0}

some_is : (x y : ℕ) → Some x ≡ Some y → x ≡ y
some_is x y e = cc

none_some : {X : Type 0} (y : ℕ) → None ≡ Some y → X
none_some y e = absurd cc

module _ (s : Registers) (m : Bytes) (rd : ℕ) (le : rd ≤ 30) (words : (r : ℕ) → s.x r < 2 ^ 64) where
  into : (inst : Inst) (v w : ℕ) → step_of inst s m ≡ goes_on (put s rd v) m → Some v ≡ Some w → step_of inst s m ≡ goes_on (put s rd w) m
  into inst v w does e = does ∙ ap (λ (x : ℕ). goes_on (put s rd x) m) (some_is v w e)

  pub one_computed : (o : AirOp) (width : Width) (a b c : Source) (x w : ℕ) → IsWidthOf o width → IsRegister a → Gives s a width x
      → computed o width (x ∷ []) ≡ Some w → step_of (computing o width rd a b c) s m ≡ goes_on (put s rd w) m
  unfolding computing
  one_computed op.Neg width a b c x w at is_a gives e = into _ _ w (neg_is s m rd le width a x is_a gives) e
  one_computed op.Clz width a b c x w at is_a gives e = into _ _ w (zeros_is s m rd le width a x is_a gives) e
  one_computed op.SExt8 width a b c x w at is_a gives e =
      into _ _ w (extend_byte_is s m rd le a x is_a (subst (λ v. Gives s a v x) at gives)) (ap (λ v. Some (low v (sign_extended 8 x))) (sym at) ∙ e)
  one_computed op.SExt16 width a b c x w at is_a gives e =
      into _ _ w (extend_half_is s m rd le a x is_a (subst (λ v. Gives s a v x) at gives)) (ap (λ v. Some (low v (sign_extended 16 x))) (sym at) ∙ e)
  one_computed op.SExt32 width a b c x w at is_a gives e =
      into _ _ w (extend_word_is s m rd le a x is_a (subst (λ v. Gives s a v x) at gives)) e
  one_computed op.ZExt32 width a b c x w at is_a gives e =
      into _ _ w (move_is s m rd le W32 a x is_a (subst (λ v. Gives s a v x) at gives)) e
  one_computed (op.SetIf test) width a b c x w at is_a gives e = absurd at
  one_computed (op.SelectIf test) width a b c x w at is_a gives e = absurd at
  one_computed o width a b c x w at is_a gives e = none_some w e

  pub two_computed : (o : AirOp) (width : Width) (a b c : Source) (x y w : ℕ) → IsWidthOf o width → IsRegister a
      → (takes_constant o ≡ false → IsRegister b) → IsComputed o width b → Gives s a width x → Gives s b (second_width o width) y
      → computed o width (x ∷ y ∷ []) ≡ Some w → step_of (computing o width rd a b c) s m ≡ goes_on (put s rd w) m
  unfolding computing shifted
  two_computed op.Add width a b c x y w at is_a is_b fits gives_a gives_b e = into _ _ w (sum_by_is s m rd le width a b x y is_a gives_a gives_b fits) e
  two_computed op.Sub width a b c x y w at is_a is_b fits gives_a gives_b e = into _ _ w (sub_is s m rd le width a b x y is_a (is_b refl) gives_a gives_b) e
  two_computed op.Mul width a b c x y w at is_a is_b fits gives_a gives_b e = into _ _ w (mul_is s m rd le width a b x y is_a (is_b refl) gives_a gives_b) e
  two_computed op.Div width a b c x y w at is_a is_b fits gives_a gives_b e =
      into _ _ w (divide_is s m rd le width true a b x y is_a (is_b refl) gives_a gives_b) e
  two_computed op.UDiv width a b c x y w at is_a is_b fits gives_a gives_b e =
      into _ _ w (divide_is s m rd le width false a b x y is_a (is_b refl) gives_a gives_b) e
  two_computed op.And width a b c x y w at is_a is_b fits gives_a gives_b e =
      into _ _ w (logic_by_is s m rd le width And a b x y refl is_a gives_a gives_b fits) e
  two_computed op.Or width a b c x y w at is_a is_b fits gives_a gives_b e =
      into _ _ w (logic_by_is s m rd le width Orr a b x y refl is_a gives_a gives_b fits) e
  two_computed op.Xor width a b c x y w at is_a is_b fits gives_a gives_b e =
      into _ _ w (logic_by_is s m rd le width Eor a b x y refl is_a gives_a gives_b fits) e
  two_computed op.Lsl width a b c x y w at is_a is_b fits gives_a gives_b e = into _ _ w (shift_by_is s m rd le width Lslv a b x y is_a gives_a gives_b) e
  two_computed op.Lsr width a b c x y w at is_a is_b fits gives_a gives_b e = into _ _ w (shift_by_is s m rd le width Lsrv a b x y is_a gives_a gives_b) e
  two_computed op.Asr width a b c x y w at is_a is_b fits gives_a gives_b e = into _ _ w (shift_by_is s m rd le width Asrv a b x y is_a gives_a gives_b) e
  two_computed op.Ror width a b c x y w at is_a is_b fits gives_a gives_b e = into _ _ w (shift_by_is s m rd le width Rorv a b x y is_a gives_a gives_b) e
  two_computed op.MulHigh width a b c x y w at is_a is_b fits gives_a gives_b e =
      into _ _ w (high_is s m rd le true a b x y words is_a (is_b refl) (subst (λ v. Gives s a v x) at gives_a) (subst (λ v. Gives s b v y) at gives_b)) e
  two_computed op.UMulHigh width a b c x y w at is_a is_b fits gives_a gives_b e =
      into _ _ w (high_is s m rd le false a b x y words is_a (is_b refl) (subst (λ v. Gives s a v x) at gives_a) (subst (λ v. Gives s b v y) at gives_b)) e
  two_computed (op.SetIf test) width a b c x y w at is_a is_b fits gives_a gives_b e = absurd at
  two_computed (op.SelectIf test) width a b c x y w at is_a is_b fits gives_a gives_b e = absurd at
  two_computed o width a b c x y w at is_a is_b fits gives_a gives_b e = none_some w e

  pub three_computed : (o : AirOp) (width : Width) (a b c : Source) (x y v w : ℕ) → IsWidthOf o width → IsRegister a → IsRegister b → IsRegister c
      → Gives s a width x → Gives s b width y → Gives s c width v
      → computed o width (x ∷ y ∷ v ∷ []) ≡ Some w → step_of (computing o width rd a b c) s m ≡ goes_on (put s rd w) m
  unfolding computing
  three_computed op.MulSub width a b c x y v w at is_a is_b is_c gives_a gives_b gives_c e =
      into _ _ w (mul_sub_is s m rd le width a b c x y v is_a is_b is_c gives_a gives_b gives_c) e
  three_computed (op.SetIf test) width a b c x y v w at is_a is_b is_c gives_a gives_b gives_c e = absurd at
  three_computed (op.SelectIf test) width a b c x y v w at is_a is_b is_c gives_a gives_b gives_c e = absurd at
  three_computed o width a b c x y v w at is_a is_b is_c gives_a gives_b gives_c e = none_some w e
