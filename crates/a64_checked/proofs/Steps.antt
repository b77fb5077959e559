-- What each instruction of checked arithmetic does.
use Rattle.std.proofs.Common.{◌≡◌, ◌≢◌, ℕ, ◌*ℤ◌, ◌+◌, ◌*◌, ◌/◌, ◌%◌, ◌^◌, ◌<◌, ◌≤◌, Bool, true, false, refl, sym, ap, ◌∙◌, arith, nat_eq}
use Rattle.std.specs.Prelude.{if◌then◌else◌}
use Rattle.std.specs.Int.{cast_signed, cast_unsigned, w32, w64}
use Rattle.std.specs.Int.Bits.{or_zero_l}
use Rattle.std.proofs.lemmas.Bool.{ne_eqb}
use Rattle.b3_base.proofs.Widths.{in_width-lt}
use Rattle.b3_base.specs.Arithmetic.{low, mul_high as high_product, sign_extended}
use Rattle.b3_base.specs.Word.{bits}
use Rattle.b3_base.specs.declared.word.Width.{Width}
use Rattle.b3_base.specs.declared.word.Width.TheVariants.{W32, W64}
use Rattle.a64_inst.specs.Fields.{bit}
use Rattle.a64_inst.specs.Step.{AreWords, Bytes, Registers, step_of, goes_on, put, complement, flags_of_sum, low_bits, operand, shifted, sum_of, add_sub_reg, logic_reg, bit_field, mul_add, mul_high, mul_long}
use Rattle.a64_inst.specs.WellFormed.{IsWellFormed}
use Rattle.a64_inst.specs.declared.inst.Inst.{Inst}
use Rattle.a64_inst.specs.declared.inst.Inst.TheVariants.{AddSubReg, BitField, LogicReg, MulAdd, MulHigh, MulLong}
use Rattle.a64_inst.specs.declared.inst.LogicOp.TheVariants.{Orr}
use Rattle.a64_inst.specs.declared.state.Flags.{Flags}
use Rattle.a64_checked.specs.Exact.{StepsTo, with_pc}

-- registers with other flags
abbrev pub flagged : Registers → Flags → Registers
flagged s flags = record s { flags = flags }

-- ---- one instruction

pub flagged_words : (s : Registers) (flags : Flags) → AreWords s → AreWords (flagged s flags)
flagged_words s flags words = record { x = words.x; sp = words.sp; pc = words.pc }

pub put_words : (s : Registers) (rd w : ℕ) → AreWords s → w < 2 ^ 64 → AreWords (put s rd w)
put_words s rd w words small = record {
  x = λ r. elim (nat_eq r rd) as (λ b. (if b then w else s.x r) < 2 ^ 64) [ true ↦ small | false ↦ words.x r ];
  sp = words.sp;
  pc = words.pc;
}

pub put_other : (s : Registers) (rd w r : ℕ) → r ≢ rd → (put s rd w).x r ≡ s.x r
put_other s rd w r other = rw (ne_eqb r rd other) refl

pub put_leads : (inst : Inst) (s : Registers) (rd w : ℕ) → IsWellFormed inst → rd ≢ 18 → AreWords s → w < 2 ^ 64
    → ((pc : ℕ) (m : Bytes) → step_of inst (with_pc pc s) m ≡ goes_on (put (with_pc pc s) rd w) m) → StepsTo inst s (put s rd w)
put_leads inst s rd w fields other words small does = record {
  fields = fields;
  does = does;
  sp = refl;
  platform = put_other s rd w 18 (λ e. other (sym e));
  words = put_words s rd w words small;
}

pub flags_lead : (inst : Inst) (s : Registers) (flags : Flags) → IsWellFormed inst → AreWords s
    → ((pc : ℕ) (m : Bytes) → step_of inst (with_pc pc s) m ≡ goes_on (flagged (with_pc pc s) flags) m) → StepsTo inst s (flagged s flags)
flags_lead inst s flags fields words does = record {
  fields = fields;
  does = does;
  sp = refl;
  platform = refl;
  words = flagged_words s flags words;
}

-- ---- what it does

same_word : (width : Width) (y : ℕ) → y < 2 ^ bits width → y * 1 % 2 ^ bits width ≡ y
same_word W32 y small = omega arith
same_word W64 y small = omega arith

unshifted : (width : Width) (n : ℕ) → shifted width 0 (low_bits width n) 0 ≡ low width n
unfolding shifted
unshifted width n = same_word width (low width n) (in_width-lt width n)

zero_low : (width : Width) → 0 % 2 ^ bits width ≡ 0
zero_low W32 = refl
zero_low W64 = refl

zero_sum : (p : ℕ) → (0 % 2 ^ 64 + p % 2 ^ 64 + 0) % 2 ^ 64 ≡ p % 2 ^ 64
zero_sum p = omega arith

long_sum : (u : ℕ) → u < 2 ^ 64 → (0 + u + 0) % 2 ^ 64 ≡ u
long_sum u small = omega arith

not_zr : (r : ℕ) → r ≤ 30 → nat_eq r 31 ≡ false
not_zr r le = ne_eqb r 31 (λ e. omega arith)

module _ (s : Registers) (m : Bytes) where
  pub compare_is : (width : Width) (sub : Bool) (a b : ℕ) → a ≤ 30 → b ≤ 30 → step_of (AddSubReg width sub true 31 a b 0 0) s m
      ≡ goes_on (flagged s (flags_of_sum width (low width (s.x a)) (operand width sub (low width (s.x b))) (bit sub))) m
  unfolding step_of add_sub_reg
  compare_is width sub a b le_a le_b = rw (not_zr a le_a, not_zr b le_b, unshifted width (s.x b)) refl

  pub sum_is : (width : Width) (sub : Bool) (rd a b : ℕ) → rd ≤ 30 → a ≤ 30 → b ≤ 30 → step_of (AddSubReg width sub false rd a b 0 0) s m
      ≡ goes_on (put s rd (sum_of width (low width (s.x a)) (operand width sub (low width (s.x b))) (bit sub))) m
  unfolding step_of add_sub_reg
  sum_is width sub rd a b le le_a le_b = rw (not_zr a le_a, not_zr b le_b, unshifted width (s.x b), not_zr rd le) refl

  pub sign_compare_is : step_of (AddSubReg W64 true true 31 17 16 2 63) s m
      ≡ goes_on (flagged s (flags_of_sum W64 (low W64 (s.x 17)) (complement W64 (shifted W64 2 (low W64 (s.x 16)) 63)) 1)) m
  unfolding step_of add_sub_reg
  sign_compare_is = refl

  pub high_is : (a b : ℕ) → a ≤ 30 → b ≤ 30 → step_of (MulHigh true 17 a b) s m ≡ goes_on (put s 17 (high_product true (s.x a) (s.x b))) m
  unfolding step_of mul_high
  high_is a b le_a le_b = rw (not_zr a le_a, not_zr b le_b) refl

  pub low_is : (a b : ℕ) → a ≤ 30 → b ≤ 30
      → step_of (MulAdd W64 false 16 a b 31) s m ≡ goes_on (put s 16 (low W64 (s.x a) * low W64 (s.x b) % 2 ^ 64)) m
  unfolding step_of mul_add
  low_is a b le_a le_b = rw (not_zr a le_a, not_zr b le_b) (ap (λ w. goes_on (put s 16 w) m) (zero_sum (low W64 (s.x a) * low W64 (s.x b))))

  pub long_is : (a b u : ℕ) → a ≤ 30 → b ≤ 30 → u < 2 ^ 64
      → cast_unsigned w64 (cast_signed w32 (low W32 (s.x a)) *ℤ cast_signed w32 (low W32 (s.x b))) ≡ u
      → step_of (MulLong 17 a b 31) s m ≡ goes_on (put s 17 u) m
  unfolding step_of mul_long
  long_is a b u le_a le_b small e = rw (not_zr a le_a, not_zr b le_b, e) (ap (λ w. goes_on (put s 17 w) m) (long_sum u small))

  pub extend_is : (u : ℕ) → u < 2 ^ 64 → sign_extended 32 u < 2 ^ 64 → s.x 17 ≡ u
      → step_of (BitField W64 true 16 17 0 31) s m ≡ goes_on (put s 16 (sign_extended 32 u)) m
  unfolding step_of bit_field
  extend_is u small extended_small e =
      let same : u % 2 ^ 64 / 2 ^ 0 ≡ u = omega arith in
      let whole : sign_extended 32 u % 2 ^ 64 ≡ sign_extended 32 u = omega arith in
      ap (λ v. goes_on (put s 16 (low W64 (sign_extended 32 (v % 2 ^ 64 / 2 ^ 0)))) m) e
      ∙ ap (λ v. goes_on (put s 16 (low W64 (sign_extended 32 v))) m) same ∙ ap (λ v. goes_on (put s 16 v) m) whole

  pub move_is : (width : Width) (rd : ℕ) → rd ≤ 30 → step_of (LogicReg width Orr false rd 31 16 0 0) s m ≡ goes_on (put s rd (low width (s.x 16))) m
  unfolding step_of logic_reg
  move_is width rd le = rw (zero_low width, unshifted width (s.x 16), or_zero_l (low width (s.x 16)), not_zr rd le) refl
