-- What a call, a patchpoint or a check of a valid procedure computes with and reports.
use Rattle.std.proofs.Common.{◌≡◌, ◌≢◌, ℕ, zero, suc, ◌+◌, ◌-◌, ◌^◌, ◌<◌, ◌⊎◌, inl, inr, Bool, true, false, List, [], ◌∷◌, map, drop, length, Option, Some, None, refl, sym, ap, ◌∙◌, subst, arith}
use Rattle.std.specs.Prelude.{All, if◌then◌else◌, slice_get, Contains}
use Rattle.std.specs.Option.{option_map}
use Rattle.std.proofs.lemmas.List.{length-drop, length-map}
use Rattle.std.proofs.lemmas.List.Elements.{All-map}
use Rattle.std.proofs.lemmas.Option.{slice_get-map, same_Some}
use Rattle.std.proofs.lemmas.Bool.{or_cases}
use Rattle.b3_base.proofs.Lists.{Contains-at, All-from_places}
use Rattle.b3_base.specs.Word.{bits}
use Rattle.b3_ir.specs.Fits.{Fits as ValueFits, reported_count, reported_of}
use Rattle.b3_ir.specs.Naming.{type_of}
use Rattle.b3_ir.specs.Table.{row_of}
use Rattle.b3_ir.specs.Types.{AllowsTypes, AreTaken, width_of}
use Rattle.b3_ir.specs.declared.opcode.Opcode.{Opcode}
use Rattle.b3_ir.specs.declared.opcode.Opcode.TheVariants as opcode
use Rattle.b3_ir.specs.declared.opcode.Ty.{Ty}
use Rattle.b3_ir.specs.declared.opcode.Ty.TheVariants.{Void}
use Rattle.b3_ir.specs.declared.table.More.TheVariants.{Reported}
use Rattle.b3_ir.specs.declared.table.Takes.TheVariants.{Alike, Any}
use Rattle.b3_ir.specs.declared.value.Stackmap.{Stackmap}
use Rattle.b3_ir.proofs.Typing.{allowed}
use Rattle.b3_rules.specs.Rules.{types_of}
use Rattle.b3_sound.proofs.Distinct.{stands}
use Rattle.b3_sound.proofs.Rows.{child_typed}
use Rattle.stackmap.specs.Registers.{constraints_in, constraints_of}
use Rattle.air_ir.specs.Forms.{Fits, Immediates, NoImmediate, Word}
use Rattle.air_stackmap.specs.Described.{AreReported, IsKnown, IsSmall, Stands, Sums}
use Rattle.air_stackmap.specs.declared.child.Child.{Child}
use Rattle.air_stackmap.proofs.Kept.{HasItsMap, its_map}
use Rattle.air_fold.specs.Foldable.{constant_fits, is_bit_test, is_comparison, is_constant, pointers, sum_fits, value_fits}
use Rattle.air_fold.specs.Values.{child, known, width_at}
use Rattle.air_select.specs.Selected.{child_of, condition_of, result_of, use_of, Tables}
use Rattle.air_stackmap.specs.Laws.{has_stackmap as has_map}
use Rattle.air_select.specs.Sited.{computed_count, is_site}
use Rattle.air_select.specs.Temporaries.{home}
use Rattle.air_select.proofs.Forms as forms
use Rattle.air_select.proofs.Forms.{fit_two}
use Rattle.air_select.proofs.Operands.{constant_small, constant_value, no_immediate, no_sum}
use Rattle.air_select.proofs.Plain.{is_condition, site_values}
use Rattle.air_select.proofs.Tested.{IsTested, condition_tested}
use Rattle.b3_ir.specs.Procedure.{Procedure, values_of}
use Rattle.b3_ir.specs.declared.value.Value.{Value}
use Rattle.b3_sound.proofs.Kept.{IsKept}
use Rattle.air_select.proofs.Setting.{IsSound}

-- ---- rows

pub map_site : (o : Opcode) → has_map o ≡ true → is_site o ≡ true
map_site opcode.CCall e = absurd cc
map_site opcode.Patchpoint e = refl
map_site _ e = e

-- what they report are the children behind those that they compute with
taken_count : (o : Opcode) → has_map o ≡ true → length (row_of o).takes ≡ computed_count o
taken_count opcode.Patchpoint has = refl
taken_count opcode.Check has = refl
taken_count opcode.CheckAdd has = refl
taken_count opcode.CheckSub has = refl
taken_count opcode.CheckMul has = refl
taken_count _ has = absurd cc

counted_by : (o : Opcode) (n : ℕ) → has_map o ≡ true → reported_of (row_of o).more (n - length (row_of o).takes) ≡ n - computed_count o
counted_by opcode.Patchpoint n has = refl
counted_by opcode.Check n has = refl
counted_by opcode.CheckAdd n has = refl
counted_by opcode.CheckSub n has = refl
counted_by opcode.CheckMul n has = refl
counted_by _ n has = absurd cc

-- the first child, and the first two, by what a row takes
one_first : (ty : ℕ → Ty) (a : Ty) (cs : List ℕ) → AreTaken a (Any ∷ []) Reported (map ty cs)
    → (slice_get cs 0 ≡ Some (child cs 0)) × (ty (child cs 0) ≢ Void)
one_first ty a [] taken = absurd taken
one_first ty a (c ∷ cs) taken = (refl, taken.0)

record TwoFirst (ty : ℕ → Ty) (a : Ty) (cs : List ℕ) : Type 0 where
  first : slice_get cs 0 ≡ Some (child cs 0)
  second : slice_get cs 1 ≡ Some (child cs 1)
  one : ty (child cs 0) ≡ a
  other : ty (child cs 1) ≡ a

two_first : (ty : ℕ → Ty) (a : Ty) (cs : List ℕ) → AreTaken a (Alike ∷ Alike ∷ []) Reported (map ty cs) → TwoFirst ty a cs
two_first ty a [] taken = absurd taken
two_first ty a (c ∷ []) taken = absurd taken.1
two_first ty a (c ∷ d ∷ cs) taken = record { first = refl; second = refl; one = taken.0; other = taken.1.0 }

-- an item of what is behind so many
pub behind_at : (n : ℕ) (cs : List ℕ) (k : ℕ) → slice_get (drop n cs) k ≡ slice_get cs (n + k)
behind_at zero cs k = let same : k ≡ 0 + k = omega arith in ap (slice_get cs) same
behind_at (suc n) [] k = refl
behind_at (suc n) (c ∷ cs) k = let same : suc (n + k) ≡ suc n + k = omega arith in behind_at n cs k ∙ ap (slice_get (c ∷ cs)) same

module _ (p : Procedure) (kept : IsKept p) (b : ℕ) (v : Value) (here : Contains (values_of p b) v) where
  pub value_fits_here : ValueFits v
  value_fits_here = let st = stands p b v here in (kept.rules b st.0 v st.1).fits

  pub allows_here : AllowsTypes v.kind.opcode v.ty (types_of p v)
  allows_here = let st = stands p b v here in allowed v.kind.opcode v.ty (types_of p v) (kept.rules b st.0 v st.1).typed

  row_here : (o : Opcode) → v.kind.opcode ≡ o → AllowsTypes o v.ty (types_of p v)
  row_here o is = subst (λ q. AllowsTypes q v.ty (types_of p v)) is allows_here

  typed_child : (i id : ℕ) → slice_get v.children i ≡ Some id → type_of p id ≢ Void
  typed_child i id at = child_typed v.kind.opcode v.ty (type_of p) v.children id allows_here (Contains-at v.children i id at)

  -- ---- what is reported

  module _ (has : has_map v.kind.opcode ≡ true) where
    map_here : HasItsMap v
    map_here = its_map v v.kind.opcode has value_fits_here.body

    abbrev pub ids : List ℕ
    ids = drop (computed_count v.kind.opcode) v.children

    pub ids_counted : length ids ≡ reported_count v
    ids_counted =
        length-drop (computed_count v.kind.opcode) v.children ∙ sym (counted_by v.kind.opcode (length v.children) has)

    pub constraints_counted : length ids ≡ length (constraints_of v)
    constraints_counted =
        let m = map_here in
        ids_counted ∙ sym m.sound.count ∙ sym (ap (λ (x : Option Stackmap). length (constraints_in x)) m.carries)

module _ (p : Procedure) (kept : IsKept p) (t : Tables) (sound : IsSound p t) where
  -- ---- what is known of a child

  pub small_by : (id : ℕ) → type_of p id ≢ Void → IsSmall (child_of t id)
  small_by id typed = by (is_constant (known t.index id).opcode) refl
    where
      by : (c : Bool) → is_constant (known t.index id).opcode ≡ c → (word : ℕ) → (if c then Some (known t.index id).word else None) ≡ Some word
          → word < 2 ^ bits (width_at t.index id)
      by true const word e = subst (λ n. n < 2 ^ bits (width_at t.index id)) (same_Some _ word e) (constant_small p kept t sound id typed const)
      by false other word e = absurd cc

  known_by : (id : ℕ) → type_of p id ≢ Void → IsKnown p id (child_of t id)
  known_by id typed = record { width = ap width_of (sound.types id); stands = by (is_constant (known t.index id).opcode) refl }
    where
      constant_kind : (o : Opcode) → is_constant o ≡ true → (o ≡ opcode.Const32) ⊎ (o ≡ opcode.Const64)
      constant_kind opcode.Const32 e = inl refl
      constant_kind opcode.Const64 e = inr refl
      constant_kind _ e = absurd cc

      by : (c : Bool) → is_constant (known t.index id).opcode ≡ c → Stands p id (if c then Some (known t.index id).word else None) (home t.index id)
      by true const =
          let is = constant_value p kept t sound id typed const in
          (is.0, is.1, (constant_kind is.0.kind.opcode is.2, is.3))
      by false other = tt

  module _ (b : ℕ) (v : Value) (here : Contains (values_of p b) v) where
    -- a child of a call, a patchpoint or a check stands in its home, but for the condition of a Check
    pub site_child : (o : Opcode) → v.kind.opcode ≡ o → is_site o ≡ true → (i c : ℕ) → is_condition o i ≡ false → slice_get v.children i ≡ Some c
        → Fits (Word (width_of (type_of p c)) NoImmediate) (use_of t c)
    site_child o is site i c other at =
        subst (λ (m : Immediates). Fits (Word (width_of (type_of p c)) m) (use_of t c)) (no_immediate o i site)
        (forms.child_as p kept t sound b v here o is i c (type_of p c) at
        (λ k. site_values t.index (pointers p) o i v.id k site other) (no_sum t.index (pointers p) o i v.id site) refl
        (typed_child p kept b v here i c at))

    -- ---- what is reported

    module _ (has : has_map v.kind.opcode ≡ true) where
      pub all_small : All IsSmall (map (child_of t) (ids p kept b v here has))
      all_small =
          All-map IsSmall (child_of t) (ids p kept b v here has)
          (All-from_places (λ id. IsSmall (child_of t id)) (ids p kept b v here has)
          (λ k id at. small_by id (typed_child p kept b v here (computed_count v.kind.opcode + k) id
          (sym (behind_at (computed_count v.kind.opcode) v.children k) ∙ at))))

      pub reported_here : AreReported p v (map (child_of t) (ids p kept b v here has))
      reported_here = record {
        count = length-map (ids p kept b v here has) (child_of t) ∙ ids_counted p kept b v here has;
        known = λ k id c at is.
            let there : slice_get (ids p kept b v here has) k ≡ Some id =
            behind_at (computed_count v.kind.opcode) v.children k ∙ ap (λ n. slice_get v.children (n + k)) (sym (taken_count v.kind.opcode has)) ∙ at in
            let same : child_of t id ≡ c = some_child (child_of t id) c (sym (slice_get-map (child_of t) (ids p kept b v here has) k
            ∙ ap (option_map (child_of t)) there) ∙ is) in
            subst (IsKnown p id) same (known_by id (typed_child p kept b v here (length (row_of v.kind.opcode).takes + k) id at));
        small = all_small;
      }
        where
          some_child : (a c : Child) → Some a ≡ Some c → a ≡ c
          some_child a c e = cc

    -- ---- what is computed

    -- the two words of a check, and its result
    pub sums_here : (o : Opcode) → v.kind.opcode ≡ o → is_site o ≡ true → ((i : ℕ) → is_condition o i ≡ false) → (a : Ty) → AreTaken a (Alike ∷ Alike ∷ []) Reported (types_of p v) → v.ty ≡ a
        → Sums (use_of t (child v.children 0) ∷ use_of t (child v.children 1) ∷ []) (result_of t v ∷ [])
    sums_here o is site other a taken own =
        let w = width_of a in
        let two = two_first (type_of p) a v.children taken in
        let x = site_child o is site 0 (child v.children 0) (other 0) two.first in
        let y = site_child o is site 1 (child v.children 1) (other 1) two.second in (
          w,
          fit_two (Word w NoImmediate) (Word w NoImmediate) (use_of t (child v.children 0)) (use_of t (child v.children 1))
              (subst (λ (ty : Ty). Fits (Word (width_of ty) NoImmediate) (use_of t (child v.children 0))) two.one x)
              (subst (λ (ty : Ty). Fits (Word (width_of ty) NoImmediate) (use_of t (child v.children 1))) two.other y),
          (refl, ap width_of own, tt),
        )

    -- the condition of a check
    pub tests_here : v.kind.opcode ≡ opcode.Check → IsTested (condition_of t (child v.children 0))
    tests_here is =
        let row = row_here p kept b v here opcode.Check is in
        let one = one_first (type_of p) row.alike v.children row.children in
        condition_tested p kept t sound b v here (child v.children 0) one.0 one.1
        (λ k fits. or_cases (is_comparison k.opcode) (is_bit_test t.index k) (sym (ap (λ q. value_fits t.index (pointers p) q 0 v.id k) is) ∙ fits))
        (λ width word. ap (λ q. constant_fits q 0 width word) is) (ap (λ q. sum_fits t.index (pointers p) q 0 v.id) is)

    pub sums_of : (o : Opcode) → v.kind.opcode ≡ o → (o ≡ opcode.CheckAdd) ⊎ ((o ≡ opcode.CheckSub) ⊎ (o ≡ opcode.CheckMul))
        → Sums (use_of t (child v.children 0) ∷ use_of t (child v.children 1) ∷ []) (result_of t v ∷ [])
    sums_of o is (inl add) =
        let e = is ∙ add in let row = row_here p kept b v here opcode.CheckAdd e in sums_here opcode.CheckAdd e refl (λ i. refl) row.alike row.children row.gives
    sums_of o is (inr (inl sub)) =
        let e = is ∙ sub in let row = row_here p kept b v here opcode.CheckSub e in sums_here opcode.CheckSub e refl (λ i. refl) row.alike row.children row.gives
    sums_of o is (inr (inr mul)) =
        let e = is ∙ mul in let row = row_here p kept b v here opcode.CheckMul e in sums_here opcode.CheckMul e refl (λ i. refl) row.alike row.children row.gives
