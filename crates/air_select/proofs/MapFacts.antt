-- The facts of a patchpoint or a check of a valid procedure, and what they make of its code.
use Rattle.std.proofs.Common.{◌≡◌, ℕ, ◌*◌, ◌≤◌, ◌⊎◌, inl, inr, true, List, [], ◌∷◌, ◌++◌, Option, Some, None, drop, append-nil, refl, sym, ap, ◌∙◌, subst, arith}
use Rattle.std.specs.Prelude.{All, Contains, slice_get, sum_by}
use Rattle.std.proofs.lemmas.List.{length-map}
use Rattle.std.proofs.lemmas.List.Elements.{All-append, All-map, All-nil, All-weaker}
use Rattle.std.proofs.lemmas.List.Sums.{sum_by-append}
use Rattle.std.proofs.lemmas.Option.{get_or_from_slice_get}
use Rattle.b3_base.proofs.Lists.{Contains-at, All-from_places, All-one, All-two}
use Rattle.b3_ir.specs.Procedure.{Block, Procedure, StandsAt, no_block, values_of, AllFit as ValuesFit}
use Rattle.b3_ir.specs.Types.{width_of}
use Rattle.b3_ir.specs.declared.opcode.Opcode.{Opcode}
use Rattle.b3_ir.specs.declared.opcode.Opcode.TheVariants as opcode
use Rattle.b3_ir.specs.declared.value.Reg.{Reg as Register}
use Rattle.b3_ir.specs.declared.value.Value.{Value}
use Rattle.b3_rules.specs.Valid.{ValueAt, IsValidProcedure}
use Rattle.b3_rules.specs.declared.rule.Rule.TheVariants as rule
use Rattle.b3_sound.proofs.FromValid.{is_kept}
use Rattle.b3_sound.proofs.Kept.{IsKept}
use Rattle.stackmap.specs.Placing.{result_register}
use Rattle.stackmap.specs.Registers.{has_result}
use Rattle.stackmap.specs.Rules.{IsPlaceable}
use Rattle.stackmap.proofs.PlacedApart.{places_obey}
use Rattle.air_ir.specs.Expressed.{IsExpressed, IsOpOf}
use Rattle.air_ir.specs.Forms.{AnyWord, Result, Word}
use Rattle.air_ir.specs.Kinds.{kind_of}
use Rattle.air_ir.specs.Weight.{inst_weight}
use Rattle.air_ir.specs.WellFormed.{IsGoodInst}
use Rattle.air_ir.specs.declared.op.AirOp.{AirOp}
use Rattle.air_ir.specs.declared.op.AirOp.TheVariants as op
use Rattle.air_ir.specs.declared.operand.Arg.TheVariants.{At}
use Rattle.air_ir.specs.declared.operand.Home.TheVariants.{Reg}
use Rattle.air_ir.specs.declared.operand.Operand.{Operand}
use Rattle.air_ir.specs.declared.procedure.AirInst.{AirInst}
use Rattle.air_stackmap.specs.Described.{AreReported, ComputesWith, HasWords, IsSmall, NamesTemporary, Sums}
use Rattle.air_stackmap.specs.SiteCode.{child_moves, patch_by, patch_op, patch_results, site_code, site_inst}
use Rattle.air_stackmap.specs.declared.child.Child.{Child}
use Rattle.air_stackmap.proofs.Expressed.{expressed}
use Rattle.air_stackmap.proofs.Good.{Named, good_moves, good_site, patch_results_named}
use Rattle.air_stackmap.proofs.Kept as sites_kept
use Rattle.air_stackmap.proofs.Weights.{code_light}
use Rattle.air_fold.specs.Values.{child, place}
use Rattle.air_select.specs.Contract.{has_stackmap}
use Rattle.air_select.specs.Selected.{checked_of, child_of, code_of, condition_of, def_at, move, patched_from, reported_behind, result_of, use_at, use_of, Tables}
use Rattle.air_stackmap.specs.Laws.{has_stackmap as has_map}
use Rattle.air_select.specs.Sited.{SuitsSite, computed_count}
use Rattle.air_select.specs.Temporaries.{home, tmp_count}
use Rattle.air_select.proofs.CallCode.{fewer_behind}
use Rattle.air_select.proofs.Forms.{fit_two}
use Rattle.air_select.proofs.MapCode.{IsUse, child_moves_all, condition_uses, two_uses}
use Rattle.air_select.proofs.Named.{home_below, use_own}
use Rattle.air_select.proofs.SiteForms.{all_small, constraints_counted, reported_here, sums_of, tests_here, value_fits_here}
use Rattle.air_select.proofs.Sites.{all_of}
use Rattle.air_select.proofs.Weights.{allowance}
use Rattle.air_ir.specs.declared.procedure.AirProc.{AirProc}
use Rattle.air_select.proofs.Setting.{IsSound}

-- ---- what is asked of a value

module _ (p : Procedure) (valid : IsValidProcedure p) (fit : ValuesFit p.blocks) (b j : ℕ) (v : Value) (at : StandsAt p b j v) where
  kept : IsKept p
  kept = is_kept p valid fit

  here : Contains (values_of p b) v
  here = Contains-at (values_of p b) j v at

  pub placeable_of : has_map v.kind.opcode ≡ true → IsPlaceable v
  placeable_of has = (sites_kept.kept p b j v valid at (value_fits_here p kept b v here) has).0

  pub suits_of : SuitsSite v
  suits_of = record {
    few = (valid rule.Sizes (ValueAt b j v) at).0;
    placeable = placeable_of;
    counts = λ has. constraints_counted p kept b v here has;
  }

  -- ---- its code

  module _ (t : Tables) (sound : IsSound p t) (has : has_map v.kind.opcode ≡ true) where
    pub placeable : IsPlaceable v
    placeable = placeable_of has

    -- a site that computes with these inputs and has these results
    pub record IsSiteOf (o : AirOp) (inputs : List Operand) (n : ℕ) (results : List Operand) : Type 0 where
      pub is : IsOpOf placeable.stackmap v o
      pub computes : ComputesWith v o inputs results
      pub count : computed_count v.kind.opcode ≡ n
      pub words : HasWords o
      pub inputs_used : All (IsUse t) inputs
      pub results_are : (results ≡ result_of t v ∷ []) ⊎ ((results ≡ []) ⊎ (results ≡ patch_results v))

    -- what follows it
    abbrev pub IsMore : List AirInst → Type 0
    IsMore more = (more ≡ []) ⊎ (more ≡ patched_from t v (result_register v))

    module _ (P : List AirInst → Type 0)
        (each : (o : AirOp) (inputs results : List Operand) (n : ℕ) (more : List AirInst) → IsSiteOf o inputs n results → IsMore more
        → P (site_code v o inputs (reported_behind t n v) results ++ more)) where
      alone : (o : AirOp) (inputs results : List Operand) (n : ℕ) → IsSiteOf o inputs n results → P (site_code v o inputs (reported_behind t n v) results)
      alone o inputs results n site =
          subst P (append-nil (site_code v o inputs (reported_behind t n v) results)) (each o inputs results n [] site (inl refl))

      summed : (q : Opcode) → v.kind.opcode ≡ q → (q ≡ opcode.CheckAdd) ⊎ ((q ≡ opcode.CheckSub) ⊎ (q ≡ opcode.CheckMul)) → (o : AirOp)
          → IsOpOf placeable.stackmap v o
          → ((inputs results : List Operand) → Sums inputs results → ComputesWith v o inputs results) → computed_count q ≡ 2 → HasWords o
          → P (checked_of t v o)
      summed q eq kinds o is fits two words =
          let inputs : List Operand = use_of t (child v.children 0) ∷ use_of t (child v.children 1) ∷ [] in
          alone o inputs (result_of t v ∷ []) 2 (record {
            is = is;
            computes = fits inputs (result_of t v ∷ []) (sums_of p kept t sound b v here q eq kinds);
            count = ap computed_count eq ∙ two;
            words = words;
            inputs_used = two_uses t (child v.children 0) (child v.children 1);
            results_are = inl refl;
          })

      patched : v.kind.opcode ≡ opcode.Patchpoint → P (code_of t opcode.Patchpoint v)
      patched eq =
          let map = placeable.stackmap in
          let is_op : patch_op v ≡ op.Patch map.size (has_result v) = ap (patch_by v) placeable.carries in
          let size = (valid rule.Sizes (ValueAt b j v) at).1 eq map placeable.carries in
          each (patch_op v) [] (patch_results v) 0 (patched_from t v (result_register v))
          (record {
            is = subst (IsOpOf map v) (sym is_op) (eq, refl, refl);
            computes = subst (λ (o : AirOp). ComputesWith v o [] (patch_results v)) (sym is_op) (refl, refl);
            count = ap computed_count eq;
            words = subst HasWords (sym is_op) size.1;
            inputs_used = All-nil (IsUse t);
            results_are = inr (inr refl);
          }) (inr refl)

      tested : v.kind.opcode ≡ opcode.Check → P (code_of t opcode.Check v)
      tested eq =
          let c = condition_of t (child v.children 0) in
          let tests = tests_here p kept t sound b v here eq in
          alone (op.CheckIf c.test) c.over [] 1 (record {
            is = eq;
            computes = (tests.0, tests.1, refl);
            count = ap computed_count eq;
            words = tt;
            inputs_used = condition_uses t (child v.children 0);
            results_are = inr (inl refl);
          })

      by_opcode : (q : Opcode) → v.kind.opcode ≡ q → has_map q ≡ true → P (code_of t q v)
      by_opcode opcode.Patchpoint eq e = patched eq
      by_opcode opcode.Check eq e = tested eq
      by_opcode opcode.CheckAdd eq e = summed opcode.CheckAdd eq (inl refl) op.CheckAdd eq (λ inputs results sums. sums) refl tt
      by_opcode opcode.CheckSub eq e = summed opcode.CheckSub eq (inr (inl refl)) op.CheckSub eq (λ inputs results sums. sums) refl tt
      by_opcode opcode.CheckMul eq e = summed opcode.CheckMul eq (inr (inr refl)) op.CheckMul eq (λ inputs results sums. sums) refl tt
      by_opcode _ eq e = absurd cc

      -- what holds of the code of each kind of site holds of the value's
      site_cases : P (code_of t v.kind.opcode v)
      site_cases = by_opcode v.kind.opcode refl has

    abbrev cs : ℕ → List Child
    cs n = reported_behind t n v

    small : (n : ℕ) → computed_count v.kind.opcode ≡ n → All IsSmall (cs n)
    small n is = subst (λ m. All IsSmall (cs m)) is (all_small p kept t sound b v here has)

    -- ---- it is expressed for the value

    abbrev Expresses : AirInst → Type 0
    Expresses i = has_stackmap (kind_of i.op) ≡ true → IsExpressed p v i

    more_plain : (more : List AirInst) → IsMore more → All Expresses more
    more_plain more (inl none) = subst (All Expresses) (sym none) (All-nil Expresses)
    more_plain more (inr moved) = subst (All Expresses) (sym moved) (by (result_register v))
      where
        by : (r : Option Register) → All Expresses (patched_from t v r)
        by (Some reg) = All-one Expresses _ (λ e. absurd cc)
        by None = All-nil Expresses

    pub site_expressed : All Expresses (code_of t v.kind.opcode v)
    site_expressed =
        site_cases (All Expresses) (λ o inputs results n more site follows.
        let i = site_inst v o inputs (cs n) results in
        let fits = value_fits_here p kept b v here in
        let are : AreReported p v (cs n) = subst (λ m. AreReported p v (cs m)) site.count (reported_here p kept t sound b v here has) in
        All-append Expresses (site_code v o inputs (cs n) results) more
        (All-append Expresses (child_moves v (cs n)) (i ∷ [])
        (child_moves_all v (λ c. Unit {0}) Expresses (λ c reg q e. absurd cc) (cs n) (all_of (λ (c : Child). Unit {0}) (λ c. tt) (cs n)))
        (All-one Expresses i (λ e. expressed v placeable.stackmap placeable.carries placeable p o inputs (cs n) results fits site.is site.computes are)))
        (more_plain more follows))

    -- ---- it is light

    more_light : (more : List AirInst) → IsMore more → sum_by inst_weight more ≤ 8
    more_light more (inl none) = subst (λ (l : List AirInst). sum_by inst_weight l ≤ 8) (sym none) (omega arith)
    more_light more (inr moved) = subst (λ (l : List AirInst). sum_by inst_weight l ≤ 8) (sym moved) (by (result_register v))
      where
        by : (r : Option Register) → sum_by inst_weight (patched_from t v r) ≤ 8
        by (Some reg) = omega arith
        by None = omega arith

    pub site_light : sum_by inst_weight (code_of t v.kind.opcode v) ≤ allowance v
    site_light =
        site_cases (λ (is : List AirInst). sum_by inst_weight is ≤ allowance v) (λ o inputs results n more site follows.
        let one = code_light v o inputs (cs n) results site.words site.computes in
        let rest = more_light more follows in
        let both = sum_by-append inst_weight (site_code v o inputs (cs n) results) more in
        let count = length-map (drop n v.children) (child_of t) in
        let fewer = fewer_behind n v.children in
        omega (arith, one, rest, both, count, fewer))

    -- ---- it is good

    module _ (q : AirProc) (tmps : q.tmps ≡ tmp_count t.index) where
      names : (n : ℕ) → All (NamesTemporary q) (cs n)
      names n =
          All-map (NamesTemporary q) (child_of t) (drop n v.children)
          (all_of (λ id. NamesTemporary q (child_of t id)) (λ id none. (3 * place t.index id, refl, home_below q t tmps id)) (drop n v.children))

      named_use : (o : Operand) → IsUse t o → Named q o
      named_use o is = subst (Named q) (sym is.1) (use_own q t tmps is.0)

      named_results : (results : List Operand) → (results ≡ result_of t v ∷ []) ⊎ ((results ≡ []) ⊎ (results ≡ patch_results v)) → All (Named q) results
      named_results results (inl own) = subst (All (Named q)) (sym own) (All-one (Named q) (result_of t v) (home_below q t tmps v.id))
      named_results results (inr (inl none)) = subst (All (Named q)) (sym none) (All-nil (Named q))
      named_results results (inr (inr patch)) =
          subst (All (Named q)) (sym patch) (patch_results_named q v placeable.stackmap placeable.carries placeable)

      more_good : (more : List AirInst) → IsMore more → All (IsGoodInst q) more
      more_good more (inl none) = subst (All (IsGoodInst q)) (sym none) (All-nil (IsGoodInst q))
      more_good more (inr moved) = subst (All (IsGoodInst q)) (sym moved) (by (result_register v) refl)
        where
          by : (r : Option Register) → result_register v ≡ r → All (IsGoodInst q) (patched_from t v r)
          by (Some reg) e =
              let w = width_of v.ty in
              let from = use_at w (At (Reg reg)) in
              let to = def_at w (home t.index v.id) in
              All-one (IsGoodInst q) (move v w (At (Reg reg)) (home t.index v.id)) (record {
                operands = (w, w, fit_two (Word w AnyWord) (Result w) from to (refl, refl, tt) (refl, refl, tt));
                names = All-two (Named q) from to ((places_obey v placeable.stackmap placeable.carries placeable).result reg e).0 (home_below q t tmps v.id);
              })
          by None e = All-nil (IsGoodInst q)

      pub site_good : All (IsGoodInst q) (code_of t v.kind.opcode v)
      site_good =
          site_cases (All (IsGoodInst q)) (λ o inputs results n more site follows.
          let map = placeable.stackmap in
          let i = site_inst v o inputs (cs n) results in
          All-append (IsGoodInst q) (site_code v o inputs (cs n) results) more
          (All-append (IsGoodInst q) (child_moves v (cs n)) (i ∷ [])
          (good_moves q v map placeable.carries placeable (cs n) (small n site.count) (names n))
          (All-one (IsGoodInst q) i (good_site q v map placeable.carries placeable o inputs (cs n) results site.is site.computes (small n site.count) (names n)
          (All-weaker (IsUse t) (Named q) named_use inputs site.inputs_used) (named_results results site.results_are))))
          (more_good more follows))

-- ---- what holds of each value that stands somewhere

pub each_standing : (p : Procedure) (P : Value → Type 0) → ((b j : ℕ) (v : Value) → StandsAt p b j v → P v) → All (λ (b : Block). All P b.values) p.blocks
each_standing p P each =
    All-from_places (λ (b : Block). All P b.values) p.blocks (λ k block there.
    let same : values_of p k ≡ block.values = ap (λ (x : Block). x.values) (get_or_from_slice_get p.blocks k block no_block there) in
    All-from_places P block.values (λ j v at. each k j v (ap (λ (l : List Value). slice_get l j) same ∙ at)))
