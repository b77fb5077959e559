-- The words that are masks: those that some fields name.
use Rattle.std.proofs.Common.{◌≡◌, ◌≢◌, ℕ, zero, suc, ◌<◌, ◌≤◌, Bool, true, false, ◌||◌, Option, Some, None, refl, sym, ap, ◌∙◌, arith, eq-eqb, ⊎_elim}
use Rattle.std.specs.Prelude.{IfNone, IfSome}
use Rattle.std.specs.Option.{is_some}
use Rattle.std.proofs.lemmas.Bool.{cases_eq, ne_eqb}
use Rattle.b3_base.specs.BitMask.{bit_mask, element_bits}
use Rattle.b3_base.specs.declared.word.Width.{Width}
use Rattle.air_fold.specs.Foldable.{is_mask, is_named, some_below}

some_passes : (n : ℕ) (test : ℕ → Bool) (k : ℕ) → k < n → test k ≡ true → some_below n test ≡ true
some_passes zero test k lt e = absurd (omega arith)
some_passes (suc n) test k lt e = by (test n) refl (λ le. some_passes n test k le e)
  where
    by : (b : Bool) → test n ≡ b → (k < n → some_below n test ≡ true) → (b || some_below n test) ≡ true
    by true is more = refl
    by false is more =
        more (⊎_elim
        (λ (same : k ≡ n). absurd (let bad : true ≡ false = sym e ∙ ap test same ∙ is in cc))
        (λ (differ : k ≢ n). omega arith)
        (cases_eq k n))

none_passes : (n : ℕ) (test : ℕ → Bool) → ((k : ℕ) → k < n → test k ≡ false) → some_below n test ≡ false
none_passes zero test each = refl
none_passes (suc n) test each = rw (each n (omega arith)) (none_passes n test (λ k lt. each k (omega arith)))

is_not_named : (o : Option ℕ) (word : ℕ) → o ≢ Some word → is_named o word ≡ false
is_not_named None word differ = refl
is_not_named (Some mask) word differ = ne_eqb mask word (λ same. differ (ap Some same))

named_mask : (width : Width) (word n immr imms : ℕ) → n ≤ 1 → immr ≤ 63 → imms ≤ 63 → bit_mask width n immr imms ≡ Some word → is_mask width word ≡ true
unfolding is_mask
named_mask width word n immr imms le_n le_immr le_imms e =
    some_passes 2 (λ a. some_below 64 (λ b. some_below 64 (λ c. is_named (bit_mask width a b c) word))) n (omega arith)
    (some_passes 64 (λ b. some_below 64 (λ c. is_named (bit_mask width n b c) word)) immr (omega arith)
    (some_passes 64 (λ c. is_named (bit_mask width n immr c) word) imms (omega arith)
    (ap (λ o. is_named o word) e ∙ eq-eqb word word refl)))

no_mask : (width : Width) (word : ℕ) → ((n immr imms : ℕ) → n ≤ 1 → immr ≤ 63 → imms ≤ 63 → bit_mask width n immr imms ≢ Some word) → is_mask width word ≡ false
unfolding is_mask
no_mask width word none =
    none_passes 2 (λ a. some_below 64 (λ b. some_below 64 (λ c. is_named (bit_mask width a b c) word)))
    (λ a lt_a. none_passes 64 (λ b. some_below 64 (λ c. is_named (bit_mask width a b c) word))
    (λ b lt_b. none_passes 64 (λ c. is_named (bit_mask width a b c) word)
    (λ c lt_c. is_not_named (bit_mask width a b c) word (none a b c (omega arith) (omega arith) (omega arith)))))

-- whether fields are found tells whether the word is a mask
pub mask_is : (width : Width) (word : ℕ) (found : Option (ℕ × ℕ × ℕ))
    → IfSome found (λ t. (bit_mask width t.0 t.1 t.2 ≡ Some word) × (t.1 < element_bits t.0 t.2))
    → IfSome found (λ t. (t.0 ≤ 1) × (t.1 ≤ 63) × (t.2 ≤ 63))
    → IfNone found ((n immr imms : ℕ) → n ≤ 1 → immr ≤ 63 → imms ≤ 63 → bit_mask width n immr imms ≢ Some word)
    → is_some found ≡ is_mask width word
mask_is width word (Some t) named range none = sym (named_mask width word t.0 t.1 t.2 range.0 range.1 range.2 named.0)
mask_is width word None named range none = sym (no_mask width word none)
