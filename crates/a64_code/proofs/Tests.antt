-- The flags of a test.
use Rattle.std.proofs.Common.{◌≡◌, ℕ, pos, ◌+ℤ◌, ◌+◌, ◌-◌, ◌*◌, ◌/◌, ◌%◌, ◌^◌, ◌<◌, ◌≤◌, Bool, true, false, refl, sym, ap, ◌∙◌, arith, nat_eq}
use Rattle.std.specs.Prelude.{nat_le, not, if◌then◌else◌}
use Rattle.std.specs.Int.{bit_at}
use Rattle.std.proofs.lemmas.Bool.{ne_eqb}
use Rattle.std.proofs.lemmas.Bool.Decides.{nat_tests}
use Rattle.std.proofs.lemmas.Int.{ints}
use Rattle.std.proofs.lemmas.Nat.{pow_pos}
use Rattle.std.proofs.lemmas.Nat.Bits.{bit_at_cat_high}
use Rattle.b3_base.specs.Word.{bits}
use Rattle.b3_base.specs.declared.word.Width.{Width}
use Rattle.b3_base.specs.declared.word.Width.TheVariants.{W32, W64}
use Rattle.a64_inst.specs.Fields.{bit}
use Rattle.a64_inst.specs.Step.{Bytes, Registers, step_of, goes_on, complement, operand, shifted, sum_of, add_sub_imm, add_sub_reg}
use Rattle.a64_inst.specs.StepData.{read_low}
use Rattle.a64_inst.specs.Values.{flags_of_sum, holds, is_negative, signed}
use Rattle.a64_inst.specs.declared.inst.Inst.TheVariants.{AddSubImm, AddSubReg}
use Rattle.a64_inst.specs.declared.state.Flags.{Flags}
use Rattle.air_ir.specs.Forms.{is_short}
use Rattle.air_ir.specs.declared.op.Test.{Test}
use Rattle.air_ir.specs.declared.op.Test.TheVariants.{Compare, NonZero, Bit}
use Rattle.a64_code.specs.Computing.{condition, reg_of, short_sum, sum_by, testing}
use Rattle.a64_code.specs.Fitting.{IsSummed, IsTested}
use Rattle.a64_code.specs.declared.source.Source.{Source}
use Rattle.a64_code.specs.declared.source.Source.TheVariants.{InReg, Constant}
use Rattle.a64_code.proofs.Ops.{Gives, IsRegister, gives-small, low_is, low_small, not_zero, short_high, turned_short, unshifted}

-- registers with other flags
abbrev pub with_flags : Registers → Flags → Registers
with_flags s flags = record s { flags = flags }

-- ---- the flags of a difference with a negative constant

short_most : (k : ℕ) → is_short k ≡ true → k ≤ 4095 * 4096
short_most k short = grind (arith, nat_tests)

-- a word's complement and 1 is the word less which it is short
negative_signed : (width : Width) (k : ℕ) → k < 2 ^ bits width → is_short (2 ^ bits width - k) ≡ true → 0 < k
    → signed width (2 ^ bits width - k) ≡ signed width (complement width k) +ℤ pos 1
negative_signed W32 k small short some = let few : 2 ^ 32 - k ≤ 4095 * 4096 = short_most (2 ^ 32 - k) short in omega (arith, ints)
negative_signed W64 k small short some = let few : 2 ^ 64 - k ≤ 4095 * 4096 = short_most (2 ^ 64 - k) short in omega (arith, ints)

same_sum : (width : Width) (x k : ℕ) → k < 2 ^ bits width → 0 < k → x + (2 ^ bits width - k) + 0 ≡ x + complement width k + 1
same_sum W32 x k small some = omega arith
same_sum W64 x k small some = omega arith

-- the flags go by the sum and the sum of the signed words
flags_by : (width : Width) (a b c d n m : ℕ) → a + b + n ≡ c + d + m → signed width a +ℤ signed width b +ℤ pos n ≡ signed width c +ℤ signed width d +ℤ pos m
    → flags_of_sum width a b n ≡ flags_of_sum width c d m
unfolding flags_of_sum
flags_by width a b c d n m sum_same signed_same = rw (sum_same, signed_same) refl

add_flags : (width : Width) (x k : ℕ) → k < 2 ^ bits width → is_short k ≡ false → is_short (2 ^ bits width - k) ≡ true
    → flags_of_sum width x (2 ^ bits width - k) 0 ≡ flags_of_sum width x (complement width k) 1
add_flags width x k small long short =
    let some : 0 < k = not_zero k long in
    flags_by width x (2 ^ bits width - k) x (complement width k) 0 1 (same_sum width x k small some)
    (rw (negative_signed width k small short some) (omega (arith, ints)))

-- ---- comparisons

zero_low : (width : Width) → 0 % 2 ^ bits width ≡ 0
zero_low W32 = refl
zero_low W64 = refl

module _ (s : Registers) (m : Bytes) where
  compare_reg : (width : Width) (a b : Source) (x y : ℕ) → IsRegister a → IsRegister b → Gives s a width x → Gives s b width y
      → step_of (AddSubReg width true true 31 (reg_of a) (reg_of b) 0 0) s m ≡ goes_on (with_flags s (flags_of_sum width x (complement width y) 1)) m
  unfolding step_of add_sub_reg
  compare_reg width a b x y is_a is_b gives_a gives_b =
      ap (λ v. goes_on (with_flags s (flags_of_sum width v (complement width (shifted width 0 (read_low width s (reg_of b)) 0)) 1)) m)
      (low_is s a width x is_a gives_a)
      ∙ ap (λ v. goes_on (with_flags s (flags_of_sum width x (complement width (shifted width 0 v 0)) 1)) m) (low_is s b width y is_b gives_b)
      ∙ ap (λ v. goes_on (with_flags s (flags_of_sum width x (complement width v) 1)) m) (unshifted width y (gives-small s b width y gives_b))

  imm_flags : (width : Width) (sub : Bool) (r imm12 : ℕ) (high : Bool) (k x : ℕ) → Gives s (InReg r) width x → (if high then imm12 * 4096 else imm12) ≡ k
      → step_of (AddSubImm width sub true 31 r imm12 high) s m ≡ goes_on (with_flags s (flags_of_sum width x (operand width sub k) (bit sub))) m
  unfolding step_of add_sub_imm
  imm_flags width sub r imm12 high k x gives e = rw (e, ne_eqb r 31 (λ e. let le = gives.0 in omega arith), gives.1) refl

  short_flags : (width : Width) (sub : Bool) (a : Source) (k x : ℕ) → is_short k ≡ true → IsRegister a → Gives s a width x
      → step_of (short_sum width sub true 31 (reg_of a) k) s m ≡ goes_on (with_flags s (flags_of_sum width x (operand width sub k) (bit sub))) m
  short_flags width sub (InReg r) k x short is_a gives_a =
      elim (nat_le k 4095) as (λ b. nat_le k 4095 ≡ b
      → step_of (if b then AddSubImm width sub true 31 r k false else AddSubImm width sub true 31 r (k / 4096) true) s m
      ≡ goes_on (with_flags s (flags_of_sum width x (operand width sub k) (bit sub))) m) [
        | true ↦ λ e. imm_flags width sub r k false k x gives_a refl
        | false ↦ λ e. imm_flags width sub r (k / 4096) true k x gives_a (short_high k short e)
      ] refl
  short_flags width sub (Constant c) k x short is_a gives_a = absurd is_a

  pub bit_flags : (width : Width) (a : Source) (k x : ℕ) → IsRegister a → Gives s a width x
      → step_of (AddSubReg width false true 31 31 (reg_of a) 0 (bits width - 1 - k)) s m
      ≡ goes_on (with_flags s (flags_of_sum width 0 (shifted width 0 x (bits width - 1 - k)) 0)) m
  unfolding step_of add_sub_reg
  bit_flags width a k x is_a gives_a =
      ap (λ v. goes_on (with_flags s (flags_of_sum width v (shifted width 0 (read_low width s (reg_of a)) (bits width - 1 - k)) 0)) m) (zero_low width)
      ∙ ap (λ v. goes_on (with_flags s (flags_of_sum width 0 (shifted width 0 v (bits width - 1 - k)) 0)) m) (low_is s a width x is_a gives_a)

  pub compare_is : (width : Width) (a b : Source) (x y : ℕ) → IsRegister a → Gives s a width x → Gives s b width y → IsSummed width b
      → step_of (sum_by width true true 31 (reg_of a) b) s m ≡ goes_on (with_flags s (flags_of_sum width x (complement width y) 1)) m
  compare_is width a (InReg r) x y is_a gives_a gives_b fits = compare_reg width a (InReg r) x y is_a tt gives_a gives_b
  compare_is width a (Constant k) x y is_a gives_a gives_b fits =
      let same : k ≡ y = sym (low_small width k fits.0) ∙ gives_b in
      let either : (b : Bool) → is_short k ≡ b
      → step_of (if b then short_sum width true true 31 (reg_of a) k else short_sum width false true 31 (reg_of a) (2 ^ bits width - k)) s m
      ≡ goes_on (with_flags s (flags_of_sum width x (complement width k) 1)) m =
      λ b. elim b as (λ b. is_short k ≡ b → step_of (if b then short_sum width true true 31 (reg_of a) k else short_sum width false true 31 (reg_of a)
      (2 ^ bits width - k)) s m
      ≡ goes_on (with_flags s (flags_of_sum width x (complement width k) 1)) m) [
        | true ↦ λ e. short_flags width true a k x e is_a gives_a
        | false ↦ λ e. short_flags width false a (2 ^ bits width - k) x (turned_short width k e fits.1) is_a gives_a
            ∙ ap (λ f. goes_on (with_flags s f) m) (add_flags width x k fits.0 e (turned_short width k e fits.1))
      ] in
      either (is_short k) refl ∙ ap (λ v. goes_on (with_flags s (flags_of_sum width x (complement width v) 1)) m) same

-- ---- bits

top_of_word : (n : ℕ) → nat_le (2 ^ (32 - 1)) ((0 + n % 2 ^ 32 + 0) % 2 ^ 32) ≡ nat_eq (n / 2 ^ 31 % 2) 1
top_of_word n = grind (arith, nat_tests)

top_of_long : (n : ℕ) → nat_le (2 ^ (64 - 1)) ((0 + n % 2 ^ 64 + 0) % 2 ^ 64) ≡ nat_eq (n / 2 ^ 63 % 2) 1
top_of_long n = grind (arith, nat_tests)

-- a bit, shifted up to the sign
bit_up : (x k last : ℕ) → k ≤ last → x * 2 ^ (last - k) / 2 ^ last % 2 ≡ bit_at x k
bit_up x k last le =
    let up = bit_at_cat_high x (last - k) 0 last (pow_pos (last - k)) (omega arith) in
    let none : x * 2 ^ (last - k) + 0 ≡ x * 2 ^ (last - k) = omega arith in
    let back : last - (last - k) ≡ k = omega arith in
    ap (λ n. bit_at n last) (sym none) ∙ up ∙ ap (bit_at x) back

bit_sign : (width : Width) (k x : ℕ) → k < bits width
    → is_negative width (sum_of width 0 (x * 2 ^ (bits width - 1 - k) % 2 ^ bits width) 0) ≡ nat_eq (bit_at x k) 1
bit_sign W32 k x lt = top_of_word (x * 2 ^ (31 - k)) ∙ ap (λ b. nat_eq b 1) (bit_up x k 31 (omega arith))
bit_sign W64 k x lt = top_of_long (x * 2 ^ (63 - k)) ∙ ap (λ b. nat_eq b 1) (bit_up x k 63 (omega arith))

less_zero : (width : Width) (x : ℕ) → x < 2 ^ bits width → sum_of width x (complement width 0) 1 ≡ x
less_zero W32 x small = omega arith
less_zero W64 x small = omega arith

-- ---- tests

-- the flags that a test leaves of the words that it takes
abbrev pub test_flags : Test → Width → ℕ → ℕ → Flags
test_flags (Compare cond) width x y = flags_of_sum width x (complement width y) 1
test_flags NonZero width x y = flags_of_sum width x (complement width 0) 1
test_flags (Bit k) width x y = flags_of_sum width 0 (shifted width 0 x (bits width - 1 - k)) 0

-- whether it passes
abbrev pub passes : Test → Width → ℕ → ℕ → Bool
passes (Compare cond) width x y = holds cond (flags_of_sum width x (complement width y) 1)
passes NonZero width x y = not (nat_eq x 0)
passes (Bit k) width x y = nat_eq (bit_at x k) 1

-- the second word is that of its source where the test takes two
abbrev pub GivesSecond : Test → Registers → Source → Width → ℕ → Type 0
GivesSecond (Compare cond) s b width y = Gives s b width y
GivesSecond NonZero s b width y = Unit {0}
GivesSecond (Bit k) s b width y = Unit {0}

pub testing_is : (s : Registers) (m : Bytes) (t : Test) (width : Width) (a b : Source) (x y : ℕ) → IsRegister a → Gives s a width x
    → GivesSecond t s b width y → IsTested t width b
    → step_of (testing t width a b) s m ≡ goes_on (with_flags s (test_flags t width x y)) m
unfolding testing
testing_is s m (Compare cond) width a b x y is_a gives_a gives_b fits = compare_is s m width a b x y is_a gives_a gives_b fits
testing_is s m NonZero width (InReg r) b x y is_a gives_a gives_b fits = imm_flags s m width true r 0 false 0 x gives_a refl
testing_is s m NonZero width (Constant k) b x y is_a gives_a gives_b fits = absurd is_a
testing_is s m (Bit k) width a b x y is_a gives_a gives_b fits = bit_flags s m width a k x is_a gives_a

pub condition_holds : (t : Test) (width : Width) (b : Source) (x y : ℕ) → x < 2 ^ bits width → IsTested t width b
    → holds (condition t) (test_flags t width x y) ≡ passes t width x y
unfolding flags_of_sum shifted
condition_holds (Compare cond) width b x y small fits = refl
condition_holds NonZero width b x y small fits = ap (λ v. not (nat_eq v 0)) (less_zero width x small)
condition_holds (Bit k) width b x y small fits = bit_sign width k x fits
