-- Checked arithmetic is exact.
use Rattle.std.proofs.Common.{◌≡◌, ◌≢◌, ℕ, ℤ, ◌+◌, ◌-◌, ◌*◌, ◌%◌, ◌^◌, ◌<◌, ◌≤◌, true, false, [], ◌∷◌, refl, sym, ap, ◌∙◌, arith, nat_eq}
use Rattle.std.specs.Prelude.{not}
use Rattle.std.specs.Int.{cast_unsigned, w64}
use Rattle.b3_base.proofs.Widths.{in_width-lt}
use Rattle.b3_base.specs.Arithmetic.{low, mul_high as high_product}
use Rattle.b3_base.specs.Signed.{is_signed, unsigned, complement}
use Rattle.b3_base.specs.Word.{bits}
use Rattle.b3_base.specs.declared.word.Width.{Width}
use Rattle.b3_base.specs.declared.word.Width.TheVariants.{W32, W64}
use Rattle.b3_meaning.specs.declared.role.Checked.TheVariants.{Sum, Difference, Product}
use Rattle.a64_inst.specs.Registers.{AreWords, Registers, goes_on, put}
use Rattle.a64_inst.specs.Values.{flags_of_sum, shifted, sum_of}
use Rattle.a64_inst.specs.declared.inst.Inst.{Inst}
use Rattle.a64_inst.specs.declared.inst.Inst.TheVariants.{AddSubReg, BitField, LogicReg, MulAdd, MulHigh, MulLong}
use Rattle.a64_inst.specs.declared.inst.LogicOp.TheVariants.{Orr}
use Rattle.a64_inst.specs.declared.state.Flags.{Flags}
use Rattle.a64_inst.proofs.RangedValues.{mul_high-small}
use Rattle.a64_checked.specs.Checks.{comparing, making}
use Rattle.a64_checked.specs.Exact.{Checks, ChecksAreExact, RunTo, StepsTo, exact, with_pc}
use Rattle.a64_checked.proofs.Numbers.{difference_exact, difference_left, long-lt, low-lt, narrow_low, narrow_made, narrow_most, narrow_says, product_left, sum_exact, sum_left, unsigned-lt, unsigned_left, wide_says}
use Rattle.a64_checked.proofs.Steps.{compare_is, extend_is, flagged, flagged_words, flags_lead, high_is, long_is, low_is, move_is, put_leads, put_other, put_words, sign_compare_is, sum_is}

bits_pos : (width : Width) → 0 < bits width
bits_pos W32 = omega arith
bits_pos W64 = omega arith

plain_sum : (width : Width) (x y : ℕ) → sum_of width x y 0 ≡ (x + y) % 2 ^ bits width
plain_sum W32 x y = omega arith
plain_sum W64 x y = omega arith

plain_difference : (width : Width) (x y : ℕ) → y < 2 ^ bits width → sum_of width x (complement width y) 1 ≡ (x + (2 ^ bits width - y)) % 2 ^ bits width
plain_difference W32 x y small = omega arith
plain_difference W64 x y small = omega arith

whole : (n : ℕ) → n < 2 ^ 64 → n % 2 ^ 64 ≡ n
whole n small = omega arith

low_low : (n : ℕ) → n % 2 ^ 64 % 2 ^ 64 ≡ n % 2 ^ 64
low_low n = omega arith

word-lt : (n : ℕ) → n % 2 ^ 64 < 2 ^ 64
word-lt n = omega arith

-- three instructions lead on one after the other
leads_three : (i j k : Inst) (s u v t : Registers) → StepsTo i s u → StepsTo j u v → StepsTo k v t → RunTo (i ∷ j ∷ k ∷ []) s t
unfolding RunTo
leads_three i j k s u v t first second third = (u, first, (v, second, (t, third, refl)))

module _ (a b : ℕ) (s : Registers) (le_a : a ≤ 30) (le_b : b ≤ 30) (words : AreWords s) where
  pub checks_sum : (width : Width) → (t : Registers) × Checks Sum width a b s t
  unfolding comparing making RunTo flags_of_sum
  checks_sum width =
      let x : ℕ = low width (s.x a) in
      let y : ℕ = low width (s.x b) in
      let z : ℤ = exact Sum width a b s in
      let flags : Flags = flags_of_sum width x y 0 in
      let t : Registers = flagged s flags in (
        t,
        record {
          compares = (
            t,
            flags_lead (AddSubReg width false true 31 a b 0 0) s flags (omega arith, omega arith, omega arith, omega arith, bits_pos width) words
                (λ pc m. compare_is (with_pc pc s) m width false a b le_a le_b),
            refl,
          );
          says = ap (λ v. not (is_signed width v)) (sum_exact width x y);
          sp = refl;
          x = λ r n m. refl;
          words = flagged_words s flags words;
          makes = λ rd le other e. (
            put t rd (unsigned width z),
            put_leads (AddSubReg width false false rd a b 0 0) t rd (unsigned width z)
                (omega arith, omega arith, omega arith, omega arith, bits_pos width) other (flagged_words s flags words) (unsigned-lt width z e)
                (λ pc m. sum_is (with_pc pc t) m width false rd a b le le_a le_b
                ∙ ap (λ w. goes_on (put (with_pc pc t) rd w) m) (plain_sum width x y
                ∙ sum_left width x y (in_width-lt width (s.x a)) (in_width-lt width (s.x b)) ∙ unsigned_left width z e)),
            refl,
          );
        },
      )

  pub checks_difference : (width : Width) → (t : Registers) × Checks Difference width a b s t
  unfolding comparing making RunTo flags_of_sum
  checks_difference width =
      let x : ℕ = low width (s.x a) in
      let y : ℕ = low width (s.x b) in
      let small : y < 2 ^ bits width = in_width-lt width (s.x b) in
      let z : ℤ = exact Difference width a b s in
      let flags : Flags = flags_of_sum width x (complement width y) 1 in
      let t : Registers = flagged s flags in (
        t,
        record {
          compares = (
            t,
            flags_lead (AddSubReg width true true 31 a b 0 0) s flags (omega arith, omega arith, omega arith, omega arith, bits_pos width) words
                (λ pc m. compare_is (with_pc pc s) m width true a b le_a le_b),
            refl,
          );
          says = ap (λ v. not (is_signed width v)) (difference_exact width x y small);
          sp = refl;
          x = λ r n m. refl;
          words = flagged_words s flags words;
          makes = λ rd le other e. (
            put t rd (unsigned width z),
            put_leads (AddSubReg width true false rd a b 0 0) t rd (unsigned width z)
                (omega arith, omega arith, omega arith, omega arith, bits_pos width) other (flagged_words s flags words) (unsigned-lt width z e)
                (λ pc m. sum_is (with_pc pc t) m width true rd a b le le_a le_b
                ∙ ap (λ w. goes_on (put (with_pc pc t) rd w) m) (plain_difference width x y small
                ∙ difference_left width x y (in_width-lt width (s.x a)) small ∙ unsigned_left width z e)),
            refl,
          );
        },
      )

  -- the registers after a product is compared
  product_words : (h p : ℕ) (flags : Flags) → h < 2 ^ 64 → p < 2 ^ 64 → AreWords (flagged (put (put s 17 h) 16 p) flags)
  product_words h p flags small_h small_p = flagged_words (put (put s 17 h) 16 p) flags (put_words (put s 17 h) 16 p (put_words s 17 h words small_h) small_p)

  product_other : (h p : ℕ) (flags : Flags) (r : ℕ) → r ≢ 16 → r ≢ 17 → (flagged (put (put s 17 h) 16 p) flags).x r ≡ s.x r
  product_other h p flags r n m = put_other (put s 17 h) 16 p r n ∙ put_other s 17 h r m

  module _ (no_a : a ≢ 17) (no_b : b ≢ 17) where
    pub checks_wide : (t : Registers) × Checks Product W64 a b s t
    unfolding comparing making RunTo flags_of_sum
    checks_wide =
        let x : ℕ = low W64 (s.x a) in
        let y : ℕ = low W64 (s.x b) in
        let small_x : x < 2 ^ 64 = word-lt (s.x a) in
        let small_y : y < 2 ^ 64 = word-lt (s.x b) in
        let z : ℤ = exact Product W64 a b s in
        let h : ℕ = high_product true x y in
        let p : ℕ = x * y % 2 ^ 64 in
        let small_h : h < 2 ^ 64 = mul_high-small true x y small_x small_y in
        let small_p : p < 2 ^ 64 = word-lt (x * y) in
        let u : Registers = put s 17 h in
        let v : Registers = put u 16 p in
        let words_u : AreWords u = put_words s 17 h words small_h in
        let words_v : AreWords v = put_words u 16 p words_u small_p in
        let flags : Flags = flags_of_sum W64 (low W64 h) (complement W64 (shifted W64 2 (low W64 p) 63)) 1 in
        let t : Registers = flagged v flags in (
          t,
          record {
            compares = leads_three (MulHigh true 17 a b) (MulAdd W64 false 16 a b 31) (AddSubReg W64 true true 31 17 16 2 63) s u v t
                (put_leads (MulHigh true 17 a b) s 17 h (omega arith, omega arith, omega arith) (λ e. absurd (omega arith)) words small_h
                (λ pc m. high_is (with_pc pc s) m a b le_a le_b
                ∙ ap (λ w. goes_on (put (with_pc pc s) 17 w) m) (ap (λ n. high_product true n (s.x b)) (sym (whole (s.x a) (words.x a)))
                ∙ ap (high_product true x) (sym (whole (s.x b) (words.x b))))))
                (put_leads (MulAdd W64 false 16 a b 31) u 16 p (omega arith, omega arith, omega arith, omega arith) (λ e. absurd (omega arith)) words_u small_p
                (λ pc m. low_is (with_pc pc u) m a b le_a le_b
                ∙ ap (λ n. goes_on (put (with_pc pc u) 16 (low W64 n * low W64 (u.x b) % 2 ^ 64)) m) (put_other s 17 h a no_a)
                ∙ ap (λ n. goes_on (put (with_pc pc u) 16 (x * low W64 n % 2 ^ 64)) m) (put_other s 17 h b no_b)))
                (flags_lead (AddSubReg W64 true true 31 17 16 2 63) v flags (omega arith, omega arith, omega arith, omega arith, omega arith) words_v
                (λ pc m. sign_compare_is (with_pc pc v) m));
            says = ap not (ap (λ n. nat_eq (sum_of W64 n (complement W64 (shifted W64 2 (low W64 p) 63)) 1) 0) (whole h small_h)
                ∙ ap (λ n. nat_eq (sum_of W64 h (complement W64 (shifted W64 2 n 63)) 1) 0) (whole p small_p) ∙ wide_says x y small_x small_y);
            sp = refl;
            x = product_other h p flags;
            words = product_words h p flags small_h small_p;
            makes = λ rd le other e. (
              put t rd (unsigned W64 z),
              put_leads (LogicReg W64 Orr false rd 31 16 0 0) t rd (unsigned W64 z) (omega arith, omega arith, omega arith, omega arith, omega arith) other
                  (product_words h p flags small_h small_p) (unsigned-lt W64 z e)
                  (λ pc m. move_is (with_pc pc t) m W64 rd le
                  ∙ ap (λ w. goes_on (put (with_pc pc t) rd w) m) (whole p small_p ∙ product_left W64 x y small_x small_y ∙ unsigned_left W64 z e)),
              refl,
            );
          },
        )

    pub checks_narrow : (t : Registers) × Checks Product W32 a b s t
    unfolding comparing making RunTo flags_of_sum
    checks_narrow =
        let x : ℕ = low W32 (s.x a) in
        let y : ℕ = low W32 (s.x b) in
        let small_x : x < 2 ^ 32 = in_width-lt W32 (s.x a) in
        let small_y : y < 2 ^ 32 = in_width-lt W32 (s.x b) in
        let z : ℤ = exact Product W32 a b s in
        let h : ℕ = cast_unsigned w64 z in
        let p : ℕ = narrow_low h in
        let small_h : h < 2 ^ 64 = long-lt z (narrow_most x y small_x small_y) in
        let small_p : p < 2 ^ 64 = low-lt h in
        let u : Registers = put s 17 h in
        let v : Registers = put u 16 p in
        let words_u : AreWords u = put_words s 17 h words small_h in
        let words_v : AreWords v = put_words u 16 p words_u small_p in
        let flags : Flags = flags_of_sum W64 (low W64 h) (complement W64 (low W64 p)) 1 in
        let t : Registers = flagged v flags in (
          t,
          record {
            compares = leads_three (MulLong 17 a b 31) (BitField W64 true 16 17 0 31) (AddSubReg W64 true true 31 17 16 0 0) s u v t
                (put_leads (MulLong 17 a b 31) s 17 h (omega arith, omega arith, omega arith, omega arith) (λ e. absurd (omega arith)) words small_h
                (λ pc m. long_is (with_pc pc s) m a b h le_a le_b small_h refl))
                (put_leads (BitField W64 true 16 17 0 31) u 16 p (omega arith, omega arith, omega arith, omega arith) (λ e. absurd (omega arith)) words_u
                small_p
                (λ pc m. extend_is (with_pc pc u) m h small_h small_p refl))
                (flags_lead (AddSubReg W64 true true 31 17 16 0 0) v flags (omega arith, omega arith, omega arith, omega arith, omega arith) words_v
                (λ pc m. compare_is (with_pc pc v) m W64 true 17 16 (omega arith) (omega arith)));
            says = ap not (ap (λ n. nat_eq (sum_of W64 n (complement W64 (low W64 p)) 1) 0) (whole h small_h)
                ∙ ap (λ n. nat_eq (sum_of W64 h (complement W64 n) 1) 0) (whole p small_p) ∙ narrow_says x y small_x small_y);
            sp = refl;
            x = product_other h p flags;
            words = product_words h p flags small_h small_p;
            makes = λ rd le other e. (
              put t rd (unsigned W32 z),
              put_leads (LogicReg W32 Orr false rd 31 16 0 0) t rd (unsigned W32 z) (omega arith, omega arith, omega arith, omega arith, omega arith) other
                  (product_words h p flags small_h small_p) (unsigned-lt W32 z e)
                  (λ pc m. move_is (with_pc pc t) m W32 rd le
                  ∙ ap (λ w. goes_on (put (with_pc pc t) rd w) m) (narrow_made z e)),
              refl,
            );
          },
        )

pub checks_exact : ChecksAreExact
checks_exact Sum width a b s le_a le_b no_a no_b words = checks_sum a b s le_a le_b words width
checks_exact Difference width a b s le_a le_b no_a no_b words = checks_difference a b s le_a le_b words width
checks_exact Product W32 a b s le_a le_b no_a no_b words = checks_narrow a b s le_a le_b words no_a no_b
checks_exact Product W64 a b s le_a le_b no_a no_b words = checks_wide a b s le_a le_b words no_a no_b
