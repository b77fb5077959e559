-- A condition is over the operands that its test takes.
use Rattle.std.proofs.Common.{◌≡◌, ◌≢◌, ℕ, ◌^◌, ◌<◌, ◌≤◌, ◌⊎◌, inl, inr, Bool, true, false, ◌&&◌, List, [], ◌∷◌, refl, sym, ap, ◌∙◌, subst, ⊎_elim, arith, Some}
use Rattle.std.specs.Prelude.{Contains, if◌then◌else◌, slice_get}
use Rattle.std.proofs.lemmas.Bool.{cases_lt, eqb-true, and_parts}
use Rattle.std.proofs.Math.Pow.{pow_mono}
use Rattle.b3_base.proofs.Lists.{Contains-at}
use Rattle.b3_base.specs.Word.{bits}
use Rattle.b3_base.specs.declared.word.Width.{Width}
use Rattle.b3_ir.specs.Naming.{all_values, type_of, value_named}
use Rattle.b3_ir.specs.Procedure.{values_of, Procedure}
use Rattle.b3_ir.specs.Types.{AllowsTypes, AreTaken, width_of}
use Rattle.b3_ir.specs.declared.opcode.Opcode.{Opcode}
use Rattle.b3_ir.specs.declared.opcode.Opcode.TheVariants as opcode
use Rattle.b3_ir.specs.declared.opcode.Ty.{Ty}
use Rattle.b3_ir.specs.declared.opcode.Ty.TheVariants.{Void}
use Rattle.b3_ir.specs.declared.table.More.TheVariants.{NoMore}
use Rattle.b3_ir.specs.declared.table.Takes.TheVariants.{Alike}
use Rattle.b3_ir.specs.declared.value.Value.{Value}
use Rattle.b3_ir.proofs.Typing.{allowed}
use Rattle.b3_rules.specs.Rules.{types_of}
use Rattle.b3_sound.proofs.Distinct.{stands}
use Rattle.air_ir.specs.Forms.{AllFit, Immediates, Fits, NoImmediate, OfSum, IsHome, IsWord, Word, BitOf, test_takes}
use Rattle.air_ir.specs.declared.op.Test.TheVariants.{Bit, Compare, NonZero}
use Rattle.air_ir.specs.declared.operand.Arg.TheVariants.{At, Imm}
use Rattle.air_fold.specs.Foldable.{first_immediates, bit_of, constant_fits, is_and, is_bit, is_bit_test, is_comparison, is_constant, pointers, second_immediates, sum_fits, value_fits}
use Rattle.air_select.specs.Selected.{Condition, condition, condition_of, folded_condition, folds, use_of, Tables}
use Rattle.air_select.specs.Temporaries.{home}
use Rattle.air_fold.specs.Values.{Index, child, known, known_in, width_at}
use Rattle.air_fold.specs.declared.known.Known.{Known}
use Rattle.air_select.proofs.Children.{fit_cases}
use Rattle.air_select.proofs.Forms.{child_as, fit_one, fit_two}
use Rattle.air_select.proofs.Operands.{constant_small, two_of}
use Rattle.air_select.proofs.Returned.{id_found, named_of, stands_somewhere}
use Rattle.air_select.proofs.Plain.{no_value, takes_values}
use Rattle.b3_sound.proofs.Kept.{IsKept}
use Rattle.air_select.proofs.Setting.{IsSound}

-- a condition is over what its test takes at a width
abbrev pub IsTested : Condition → Type 0
IsTested c = (width : Width) × AllFit (test_takes c.test width) c.over

-- the opcodes of comparisons and of a bit's conjunction have two children of one type, none of which is a condition
pub record IsPair (o : Opcode) : Type 0 where
  pub taken : (ty : Ty) (types : List Ty) → AllowsTypes o ty types → (a : Ty) × (a ≢ Void) × AreTaken a (Alike ∷ Alike ∷ []) NoMore types
  pub plain : takes_values o ≡ false
  pub no_sum : (x : Index) (f : List Bool) (i user : ℕ) → sum_fits x f o i user ≡ false
  pub none_first : first_immediates o ≡ NoImmediate

comparison_pair : (o : Opcode) → is_comparison o ≡ true → IsPair o
comparison_pair opcode.Equal e = record {
  taken = λ ty types h. (h.alike, h.typed, h.children);
  plain = refl;
  no_sum = λ x f i user. refl;
  none_first = refl;
}
comparison_pair opcode.NotEqual e = record {
  taken = λ ty types h. (h.alike, h.typed, h.children);
  plain = refl;
  no_sum = λ x f i user. refl;
  none_first = refl;
}
comparison_pair opcode.LessThan e = record {
  taken = λ ty types h. (h.alike, h.typed, h.children);
  plain = refl;
  no_sum = λ x f i user. refl;
  none_first = refl;
}
comparison_pair opcode.GreaterThan e = record {
  taken = λ ty types h. (h.alike, h.typed, h.children);
  plain = refl;
  no_sum = λ x f i user. refl;
  none_first = refl;
}
comparison_pair opcode.LessEqual e = record {
  taken = λ ty types h. (h.alike, h.typed, h.children);
  plain = refl;
  no_sum = λ x f i user. refl;
  none_first = refl;
}
comparison_pair opcode.GreaterEqual e = record {
  taken = λ ty types h. (h.alike, h.typed, h.children);
  plain = refl;
  no_sum = λ x f i user. refl;
  none_first = refl;
}
comparison_pair opcode.Above e = record {
  taken = λ ty types h. (h.alike, h.typed, h.children);
  plain = refl;
  no_sum = λ x f i user. refl;
  none_first = refl;
}
comparison_pair opcode.Below e = record {
  taken = λ ty types h. (h.alike, h.typed, h.children);
  plain = refl;
  no_sum = λ x f i user. refl;
  none_first = refl;
}
comparison_pair opcode.AboveEqual e = record {
  taken = λ ty types h. (h.alike, h.typed, h.children);
  plain = refl;
  no_sum = λ x f i user. refl;
  none_first = refl;
}
comparison_pair opcode.BelowEqual e = record {
  taken = λ ty types h. (h.alike, h.typed, h.children);
  plain = refl;
  no_sum = λ x f i user. refl;
  none_first = refl;
}
comparison_pair _ e = absurd cc

and_pair : (o : Opcode) → is_and o ≡ true → IsPair o
and_pair opcode.BitAnd e = record {
  taken = λ ty types h. (h.alike, h.typed, h.children);
  plain = refl;
  no_sum = λ x f i user. refl;
  none_first = refl;
}
and_pair _ e = absurd cc

comparison_immediates : (o : Opcode) → is_comparison o ≡ true → second_immediates o ≡ OfSum
comparison_immediates opcode.Equal e = refl
comparison_immediates opcode.NotEqual e = refl
comparison_immediates opcode.LessThan e = refl
comparison_immediates opcode.GreaterThan e = refl
comparison_immediates opcode.LessEqual e = refl
comparison_immediates opcode.GreaterEqual e = refl
comparison_immediates opcode.Above e = refl
comparison_immediates opcode.Below e = refl
comparison_immediates opcode.AboveEqual e = refl
comparison_immediates opcode.BelowEqual e = refl
comparison_immediates _ e = absurd cc

-- ---- bits
low_bit : (n m : ℕ) → 2 ^ n < 2 ^ m → n < m
low_bit n m lt = ⊎_elim (λ less. less) (λ ge. absurd (let up : 2 ^ m ≤ 2 ^ n = pow_mono ge in omega (arith, lt, up))) (cases_lt n m)

module _ (p : Procedure) (kept : IsKept p) (t : Tables) (sound : IsSound p t) where
  -- what is known of a value that is used, and where it stands
  pub record Stands (c : ℕ) : Type 0 where
    pub value : Value
    pub block : ℕ
    pub there : Contains (values_of p block) value
    pub is : known t.index c ≡ known_in block value
    pub allows : AllowsTypes value.kind.opcode value.ty (types_of p value)

  pub stands_of : (c : ℕ) → type_of p c ≢ Void → Stands c
  stands_of c typed =
      let named = named_of c (value_named p c) (type_of p c) refl typed in
      let w = named.0 in
      let found = id_found c (all_values p) w named.1 in
      let at = stands_somewhere p w found.0 in
      let in_b : Contains (values_of p at.0) w = Contains-at (values_of p at.0) at.1 w at.2 in
      let st = stands p at.0 w in_b in
      record {
        value = w;
        block = at.0;
        there = in_b;
        is = ap (known t.index) (sym found.1) ∙ sound.is_known at.0 w in_b;
        allows = allowed w.kind.opcode w.ty (types_of p w) (kept.rules at.0 st.0 w st.1).typed;
      }

  -- the two children of a folded comparison or conjunction fit, the second as an immediate of its opcode
  pub record Pair (c : ℕ) : Type 0 where
    pub width : Width
    pub first : Fits (Word width NoImmediate) (use_of t (known t.index c).first)
    pub second : Fits (Word width (second_immediates (known t.index c).opcode)) (use_of t (known t.index c).second)
    pub second_typed : type_of p (known t.index c).second ≢ Void
    pub second_width : width_at t.index (known t.index c).second ≡ width

  pair_fits : (c : ℕ) → Stands c → IsPair (known t.index c).opcode → Pair c
  pair_fits c s pair =
      let w = s.value in
      let op_is : w.kind.opcode ≡ (known t.index c).opcode = sym (ap (λ (k : Known). k.opcode) s.is) in
      let row = pair.taken w.ty (types_of p w) (subst (λ o. AllowsTypes o w.ty (types_of p w)) op_is s.allows) in
      let cs = two_of (type_of p) row.0 Alike Alike w.children row.2 in
      let x : (known t.index c).first ≡ cs.0 = ap (λ (k : Known). k.first) s.is ∙ ap (λ (l : List ℕ). child l 0) cs.2 in
      let y : (known t.index c).second ≡ cs.1 = ap (λ (k : Known). k.second) s.is ∙ ap (λ (l : List ℕ). child l 1) cs.2 in
      let o = (known t.index c).opcode in
      let a = child_as p kept t sound s.block w s.there o op_is 0 cs.0 row.0 (ap (λ (l : List ℕ). slice_get l 0) cs.2)
      (λ k. no_value t.index (pointers p) o 0 w.id k pair.plain) (pair.no_sum t.index (pointers p) 0 w.id) cs.3 row.1 in
      let b = child_as p kept t sound s.block w s.there o op_is 1 cs.1 row.0 (ap (λ (l : List ℕ). slice_get l 1) cs.2)
      (λ k. no_value t.index (pointers p) o 1 w.id k pair.plain) (pair.no_sum t.index (pointers p) 1 w.id) cs.4 row.1 in
      record {
        width = width_of row.0;
        first = subst (λ n. Fits (Word (width_of row.0) NoImmediate) (use_of t n)) (sym x)
            (subst (λ (m : Immediates). Fits (Word (width_of row.0) m) (use_of t cs.0)) pair.none_first a);
        second = subst (λ n. Fits (Word (width_of row.0) (second_immediates o)) (use_of t n)) (sym y) b;
        second_typed = λ e. row.1 (sym cs.4 ∙ sym (ap (type_of p) y) ∙ e);
        second_width = ap width_of (sound.types (known t.index c).second ∙ ap (type_of p) y ∙ cs.4);
      }

  compare_tested : (c : ℕ) → Pair c → is_comparison (known t.index c).opcode ≡ true
      → IsTested (record {
        test = Compare (condition (known t.index c).opcode);
        over =
            use_of t (known t.index c).first ∷ use_of t (known t.index c).second ∷ [];
      })
  compare_tested c pair is = (
    pair.width,
    fit_two (Word pair.width NoImmediate) (Word pair.width OfSum) (use_of t (known t.index c).first) (use_of t (known t.index c).second) pair.first
        (subst (λ m. Fits (Word pair.width m) (use_of t (known t.index c).second)) (comparison_immediates (known t.index c).opcode is) pair.second),
  )

  -- a word is fetched from a home where it is no immediate
  home_only : (width : Width) (id : ℕ) → Fits (Word width NoImmediate) (use_of t id) → (bit : ℕ) → bit < bits width → Fits (BitOf width bit) (use_of t id)
  home_only width id fits bit lt = by (folds t id) refl
    where
      by : (f : Bool) → folds t id ≡ f → Fits (BitOf width bit) (use_of t id)
      by false e = (fits.0, fits.1, subst (λ b. IsHome (if b then Imm (known t.index id).word else At (home t.index id))) (sym e) tt, lt)
      by true e = absurd (subst (λ b. IsWord NoImmediate width (if b then Imm (known t.index id).word else At (home t.index id))) e fits.2).1

  bit_tested : (c : ℕ) → Pair c → is_bit_test t.index (known t.index c) ≡ true
      → IsTested (record { test = Bit (bit_of (known t.index (known t.index c).second).word); over = use_of t (known t.index c).first ∷ [] })
  bit_tested c pair is =
      let k = known t.index c in
      let parts = and_parts (is_and k.opcode) (is_constant (known t.index k.second).opcode && is_bit (known t.index k.second).word) is in
      let more = and_parts (is_constant (known t.index k.second).opcode) (is_bit (known t.index k.second).word) parts.1 in
      let small = constant_small p kept t sound k.second pair.second_typed more.0 in
      let power : 2 ^ bit_of (known t.index k.second).word ≡ (known t.index k.second).word = eqb-true _ _ more.1 in
      let lt : 2 ^ bit_of (known t.index k.second).word < 2 ^ bits pair.width =
      subst (λ n. n < 2 ^ bits pair.width) (sym power) (subst (λ w. (known t.index k.second).word < 2 ^ bits w) pair.second_width small) in (
        pair.width,
        fit_one (BitOf pair.width (bit_of (known t.index k.second).word)) (use_of t k.first)
            (home_only pair.width k.first pair.first (bit_of (known t.index k.second).word)
            (low_bit (bit_of (known t.index k.second).word) (bits pair.width) lt)),
      )

  -- ---- the condition of a Branch, a Check or a Select
  module _ (b : ℕ) (v : Value) (here : Contains (values_of p b) v) (c : ℕ) (at : slice_get v.children 0 ≡ Some c) (typed : type_of p c ≢ Void) where
    -- which conditions fit
    abbrev pub Allows : Type 0
    Allows = (k : Known) → value_fits t.index (pointers p) v.kind.opcode 0 v.id k ≡ true → (is_comparison k.opcode ≡ true) ⊎ (is_bit_test t.index k ≡ true)

    bit_and_is : (k : Known) → is_bit_test t.index k ≡ true → is_and k.opcode ≡ true
    bit_and_is k e = (and_parts (is_and k.opcode) (is_constant (known t.index k.second).opcode && is_bit (known t.index k.second).word) e).0

    no_comparison : (o : Opcode) → is_and o ≡ true → is_comparison o ≡ false
    no_comparison opcode.BitAnd e = refl
    no_comparison _ e = absurd cc

    folded_tested : ((is_comparison (known t.index c).opcode ≡ true) ⊎ (is_bit_test t.index (known t.index c) ≡ true)) → IsTested (folded_condition t c)
    folded_tested (inl comparison) =
        let tested = compare_tested c (pair_fits c (stands_of c typed) (comparison_pair (known t.index c).opcode comparison)) comparison in
        subst (λ f. IsTested (if f then record {
          test = Compare (condition (known t.index c).opcode);
          over =
              use_of t (known t.index c).first ∷ use_of t (known t.index c).second ∷ [];
        }
        else record { test = Bit (bit_of (known t.index (known t.index c).second).word); over = use_of t (known t.index c).first ∷ [] })) (sym comparison)
        tested
    folded_tested (inr bit) =
        let is = bit_and_is (known t.index c) bit in
        let tested = bit_tested c (pair_fits c (stands_of c typed) (and_pair (known t.index c).opcode is)) bit in
        subst (λ f. IsTested (if f then record {
          test = Compare (condition (known t.index c).opcode);
          over =
              use_of t (known t.index c).first ∷ use_of t (known t.index c).second ∷ [];
        }
        else record { test = Bit (bit_of (known t.index (known t.index c).second).word); over = use_of t (known t.index c).first ∷ [] }))
        (sym (no_comparison (known t.index c).opcode is)) tested

    pub condition_tested : Allows → ((width : Width) (word : ℕ) → constant_fits v.kind.opcode 0 width word ≡ false)
        → sum_fits t.index (pointers p) v.kind.opcode 0 v.id ≡ false → IsTested (condition_of t c)
    condition_tested allows never no_sum = by (folds t c) refl
      where
        by : (f : Bool) → folds t c ≡ f → IsTested (if f then folded_condition t c else record { test = NonZero; over = use_of t c ∷ [] })
        by true e = elim (fit_cases t (pointers p) b v.kind.opcode 0 v.id c (sound.uses_fit b 0 c v here at e)) [
          | inl constant ↦ absurd (let bad : true ≡ false = sym constant.fits ∙ never (width_at t.index c) (known t.index c).word in cc)
          | inr (inl in_sum) ↦ absurd (let bad : true ≡ false = sym in_sum.fits ∙ no_sum in cc)
          | inr (inr value) ↦ folded_tested (allows (known t.index c) value.fits)
        ]
        by false e = (
          width_at t.index c,
          fit_one (Word (width_at t.index c) NoImmediate) (use_of t c)
              (refl, refl, subst (λ g. IsWord NoImmediate (width_at t.index c) (if g then Imm (known t.index c).word else At (home t.index c))) (sym e) tt),
        )
