-- At most one instruction makes a site for a value: the access of a load or a store, the call, the patchpoint or the check;
-- and patchpoints and checks are expressed for their values.
use Rattle.std.proofs.Common.{◌≡◌, ℕ, zero, suc, ◌+◌, ◌-◌, inl, inr, Bool, true, false, List, [], ◌∷◌, ◌++◌, Option, Some, None, drop, length, take, refl, sym, ap, ◌∙◌, subst, arith, append_assoc}
use Rattle.std.specs.Prelude.{All, if◌then◌else◌, slice_get}
use Rattle.std.specs.List.{flat_map}
use Rattle.std.proofs.lemmas.Bool.{cases_lt}
use Rattle.std.proofs.lemmas.List.Elements.{All-append, All-nil, All-weaker}
use Rattle.std.proofs.lemmas.Option.{get_or_from_slice_get, slice_get-map, same_Some}
use Rattle.b3_base.proofs.Lists.{get_behind, Contains-at, All-one, All-at}
use Rattle.b3_base.proofs.Booleans.{not_both}
use Rattle.b3_base.proofs.Options.{mapped}
use Rattle.b3_ir.specs.Naming.{value_named}
use Rattle.b3_ir.specs.Procedure.{AllFit as ValuesFit, Block, StandsAt, no_block, values_of, Procedure}
use Rattle.b3_ir.specs.Types.{width_of}
use Rattle.b3_ir.specs.declared.opcode.Opcode.{Opcode}
use Rattle.b3_ir.specs.declared.opcode.Opcode.TheVariants as opcode
use Rattle.b3_ir.specs.declared.value.Reg.{Reg as Register}
use Rattle.b3_ir.specs.declared.value.Value.{Value}
use Rattle.stackmap.specs.Placing.{result_register}
use Rattle.b3_meaning.specs.declared.role.Extent.{Extent}
use Rattle.b3_meaning.specs.declared.role.Extent.TheVariants.{Byte, Half, Whole}
use Rattle.b3_rules.specs.Valid.{ValueAt, IsValidProcedure}
use Rattle.b3_rules.specs.declared.rule.Rule.TheVariants as rule
use Rattle.b3_sound.proofs.Distinct.{value_of_id}
use Rattle.b3_sound.proofs.FromValid.{is_kept}
use Rattle.air_ir.specs.Expressed.{IsExpressed}
use Rattle.air_ir.specs.Kinds.{Kind, Checks, ChecksResult, Patches, extent_bytes, kind_of, makes_site}
use Rattle.air_ir.specs.WellFormed as air
use Rattle.air_ir.specs.declared.op.AirOp.{AirOp}
use Rattle.air_ir.specs.declared.op.AirOp.TheVariants as op
use Rattle.air_ir.specs.declared.procedure.AirBlock.{AirBlock}
use Rattle.air_ir.specs.declared.operand.Operand.{Operand}
use Rattle.air_ir.specs.declared.procedure.AirInst.{AirInst}
use Rattle.air_stackmap.specs.SiteCode.{child_moves, patch_op, patch_results, site_code, site_inst}
use Rattle.air_fold.specs.Values.{child, width_at}
use Rattle.air_fold.proofs.Places.{get_within}
use Rattle.air_select.specs.Selected as code
use Rattle.air_select.specs.Selected.{address_of, arguments_into, before_access, block_code, call_of, call_to, code_of, entry_of, folds, load_of, condition_of, patched_from, patchpoint_of, reported_behind, result_from, result_of, selected, selected_by, store_of, tables, use_at, use_of, value_code, Tables}
use Rattle.air_select.specs.Contract.{AreExpressed, AreMadeFor, has_stackmap, is_arithmetic_kind}
use Rattle.air_stackmap.specs.Laws.{has_stackmap as has_map}
use Rattle.air_select.specs.Sited.{touches}
use Rattle.air_select.proofs.CallCode.{call_all}
use Rattle.air_select.proofs.MapCode.{IsChildOf, are_children, child_moves_all, pick}
use Rattle.air_select.proofs.MapFacts.{site_expressed}
use Rattle.air_select.proofs.Pieces.{IsFor, flat_found, made_for}
use Rattle.air_select.proofs.Sites.{IsPlain, IsQuiet, arguments_plain, before_plain, code_plain, entry_plain, kind_arithmetic, makes_none, result_plain}
use Rattle.air_select.proofs.Sound.{sound}

-- no two instructions of a list make a site
abbrev pub HasOneSite : List AirInst → Type 0
HasOneSite is = (k l : ℕ) (i j : AirInst) → slice_get is k ≡ Some i → slice_get is l ≡ Some j
    → makes_site (kind_of i.op) i.traps ≡ true → makes_site (kind_of j.op) j.traps ≡ true → k ≡ l

quiet_one : (is : List AirInst) → All IsQuiet is → HasOneSite is
quiet_one is quiet k l i j at other made also = absurd (not_both (makes_site (kind_of i.op) i.traps) made (All-at IsQuiet is k i quiet at))

-- where all but one make none
at_middle : (is js : List AirInst) (one : AirInst) → All IsQuiet is → All IsQuiet js → (k : ℕ) (i : AirInst) → slice_get (is ++ one ∷ js) k ≡ Some i
    → makes_site (kind_of i.op) i.traps ≡ true → k ≡ length is
at_middle is js one quiet behind k i at made =
    elim (cases_lt k (length is)) [
      | inl less ↦
          absurd (not_both (makes_site (kind_of i.op) i.traps) made (All-at IsQuiet is k i quiet (get_within is (one ∷ js) k i less at)))
      | inr past ↦
          let m : ℕ = k - length is in
          let split : length is + m ≡ k = omega arith in
          by m split (sym (get_behind is (one ∷ js) m) ∙ ap (slice_get (is ++ one ∷ js)) split ∙ at)
    ]
  where
    by : (m : ℕ) → length is + m ≡ k → slice_get (one ∷ js) m ≡ Some i → k ≡ length is
    by zero split there = omega (arith, split)
    by (suc m) split there = absurd (not_both (makes_site (kind_of i.op) i.traps) made (All-at IsQuiet js m i behind there))

middle_one : (is js : List AirInst) (one : AirInst) → All IsQuiet is → All IsQuiet js → HasOneSite (is ++ one ∷ js)
middle_one is js one quiet behind k l i j at other made also =
    at_middle is js one quiet behind k i at made ∙ sym (at_middle is js one quiet behind l j other also)

last_one : (is : List AirInst) (last : AirInst) → All IsQuiet is → HasOneSite (is ++ last ∷ [])
last_one is last quiet = middle_one is [] last quiet (All-nil IsQuiet)

module _ (t : Tables) (v : Value) where
  before_quiet : (pointer bytes : ℕ) → All IsQuiet (before_access t v pointer bytes)
  before_quiet pointer bytes = All-weaker IsPlain IsQuiet makes_none (before_access t v pointer bytes) (before_plain t v pointer bytes)

  load_one : (air_op : AirOp) (extent : Extent) → HasOneSite (load_of t v air_op extent)
  load_one air_op extent =
      let width = width_of v.ty in
      let pointer = child v.children 0 in
      let bytes = extent_bytes extent width in
      last_one (before_access t v pointer bytes) (code.access v air_op (use_at width (address_of t v pointer bytes) ∷ result_of t v ∷ []))
      (before_quiet pointer bytes)

  store_one : (air_op : AirOp) (extent : Extent) → HasOneSite (store_of t v air_op extent)
  store_one air_op extent =
      let from = child v.children 0 in
      let width = width_at t.index from in
      let pointer = child v.children 1 in
      let bytes = extent_bytes extent width in
      last_one (before_access t v pointer bytes) (code.access v air_op (use_of t from ∷ use_at width (address_of t v pointer bytes) ∷ []))
      (before_quiet pointer bytes)

  call_one : HasOneSite (call_of t v)
  call_one =
      let cs = drop 1 v.children in
      middle_one (arguments_into t v 0 cs) (result_from t v 0) (call_to t v (child v.children 0) cs)
      (All-weaker IsPlain IsQuiet makes_none (arguments_into t v 0 cs) (arguments_plain t v 0 cs))
      (All-weaker IsPlain IsQuiet makes_none (result_from t v 0) (result_plain t v 0))

  moves_quiet : (n : ℕ) → All IsQuiet (child_moves v (reported_behind t n v))
  moves_quiet n = child_moves_all v (IsChildOf t) IsQuiet (λ c reg is. refl) (reported_behind t n v) (are_children t (drop n v.children))

  map_one : (o : AirOp) (inputs : List Operand) (n : ℕ) (results : List Operand) → HasOneSite (site_code v o inputs (reported_behind t n v) results)
  map_one o inputs n results = last_one (child_moves v (reported_behind t n v)) (site_inst v o inputs (reported_behind t n v) results) (moves_quiet n)

  patched_quiet : (r : Option Register) → All IsQuiet (patched_from t v r)
  patched_quiet (Some reg) = All-one IsQuiet _ refl
  patched_quiet None = All-nil IsQuiet

  patch_one : HasOneSite (patchpoint_of t v)
  patch_one =
      let cs = reported_behind t 0 v in
      let site = site_inst v (patch_op v) [] cs (patch_results v) in
      let more = patched_from t v (result_register v) in
      subst HasOneSite (sym (append_assoc (child_moves v cs) (site ∷ []) more))
      (middle_one (child_moves v cs) more site (moves_quiet 0) (patched_quiet (result_register v)))

  weakly : (o : Opcode) → All IsPlain (code_of t o v) → HasOneSite (code_of t o v)
  weakly o plain = quiet_one (code_of t o v) (All-weaker IsPlain IsQuiet makes_none (code_of t o v) plain)

  code_one : (o : Opcode) → HasOneSite (code_of t o v)
  code_one opcode.FramePointer = quiet_one (code_of t opcode.FramePointer v) (All-one IsQuiet _ refl)
  code_one opcode.SlotBase = quiet_one (code_of t opcode.SlotBase v) (All-one IsQuiet _ refl)
  code_one opcode.Load8Z = load_one op.Load8Z Byte
  code_one opcode.Load8S = load_one op.Load8S Byte
  code_one opcode.Load16Z = load_one op.Load16Z Half
  code_one opcode.Load16S = load_one op.Load16S Half
  code_one opcode.Load = load_one op.Load Whole
  code_one opcode.Store8 = store_one op.Store8 Byte
  code_one opcode.Store16 = store_one op.Store16 Half
  code_one opcode.Store = store_one op.Store Whole
  code_one opcode.CCall = call_one
  code_one opcode.Patchpoint = patch_one
  code_one opcode.Check =
      let c = condition_of t (child v.children 0) in
      map_one (op.CheckIf c.test) c.over 1 []
  code_one opcode.CheckAdd = map_one op.CheckAdd (use_of t (child v.children 0) ∷ use_of t (child v.children 1) ∷ []) 2 (result_of t v ∷ [])
  code_one opcode.CheckSub = map_one op.CheckSub (use_of t (child v.children 0) ∷ use_of t (child v.children 1) ∷ []) 2 (result_of t v ∷ [])
  code_one opcode.CheckMul = map_one op.CheckMul (use_of t (child v.children 0) ∷ use_of t (child v.children 1) ∷ []) 2 (result_of t v ∷ [])
  code_one o = weakly o (code_plain t v o refl)

  value_one : HasOneSite (value_code t v)
  unfolding value_code
  value_one = by (folds t v.id)
    where
      by : (b : Bool) → HasOneSite (if b then [] else code_of t v.kind.opcode v)
      by true = quiet_one [] (All-nil IsQuiet)
      by false = code_one v.kind.opcode

-- ---- stackmaps

abbrev IsMapless : AirInst → Type 0
IsMapless i = has_stackmap (kind_of i.op) ≡ false

arithmetic_mapless : (k : Kind) → is_arithmetic_kind k ≡ true → has_stackmap k ≡ false
arithmetic_mapless (Patches typed) e = absurd cc
arithmetic_mapless (Checks test) e = absurd cc
arithmetic_mapless (ChecksResult checked) e = absurd cc
arithmetic_mapless _ e = refl

plain_mapless : (i : AirInst) → IsPlain i → IsMapless i
plain_mapless i plain = arithmetic_mapless (kind_of i.op) (kind_arithmetic i.op plain.arithmetic)

module _ (t : Tables) (v : Value) where
  before_mapless : (pointer bytes : ℕ) → All IsMapless (before_access t v pointer bytes)
  before_mapless pointer bytes = All-weaker IsPlain IsMapless plain_mapless (before_access t v pointer bytes) (before_plain t v pointer bytes)

  load_mapless : (air_op : AirOp) (extent : Extent) → has_stackmap (kind_of air_op) ≡ false → All IsMapless (load_of t v air_op extent)
  load_mapless air_op extent is =
      let pointer = child v.children 0 in
      let bytes = extent_bytes extent (width_of v.ty) in
      All-append IsMapless (before_access t v pointer bytes) _ (before_mapless pointer bytes) (All-one IsMapless _ is)

  store_mapless : (air_op : AirOp) (extent : Extent) → has_stackmap (kind_of air_op) ≡ false → All IsMapless (store_of t v air_op extent)
  store_mapless air_op extent is =
      let pointer = child v.children 1 in
      let bytes = extent_bytes extent (width_at t.index (child v.children 0)) in
      All-append IsMapless (before_access t v pointer bytes) _ (before_mapless pointer bytes) (All-one IsMapless _ is)

  plainly : (o : Opcode) → touches o ≡ false → All IsMapless (code_of t o v)
  plainly o e = All-weaker IsPlain IsMapless plain_mapless (code_of t o v) (code_plain t v o e)

  -- no other value has an instruction with a stackmap
  code_mapless : (o : Opcode) → has_map o ≡ false → All IsMapless (code_of t o v)
  code_mapless opcode.Patchpoint e = absurd cc
  code_mapless opcode.Check e = absurd cc
  code_mapless opcode.CheckAdd e = absurd cc
  code_mapless opcode.CheckSub e = absurd cc
  code_mapless opcode.CheckMul e = absurd cc
  code_mapless opcode.CCall e = call_all t v IsMapless (λ k c at. refl) refl refl
  code_mapless opcode.FramePointer e = All-one IsMapless _ refl
  code_mapless opcode.SlotBase e = All-one IsMapless _ refl
  code_mapless opcode.Load8Z e = load_mapless op.Load8Z Byte refl
  code_mapless opcode.Load8S e = load_mapless op.Load8S Byte refl
  code_mapless opcode.Load16Z e = load_mapless op.Load16Z Half refl
  code_mapless opcode.Load16S e = load_mapless op.Load16S Half refl
  code_mapless opcode.Load e = load_mapless op.Load Whole refl
  code_mapless opcode.Store8 e = store_mapless op.Store8 Byte refl
  code_mapless opcode.Store16 e = store_mapless op.Store16 Half refl
  code_mapless opcode.Store e = store_mapless op.Store Whole refl
  code_mapless o e = plainly o refl

module _ (p : Procedure) (valid : IsValidProcedure p) where
  -- an instruction that makes a site is one of a value's, and stands behind those of the values before it
  record IsMade (b k : ℕ) (i : AirInst) : Type 0 where
    block : ℕ
    is_block : b ≡ suc block
    at : ℕ
    value : Value
    stands : StandsAt p block at value
    made : i.value ≡ value.id
    within : ℕ
    here : slice_get (value_code (tables p) value) within ≡ Some i
    is : k ≡ length (flat_map (value_code (tables p)) (take at (values_of p block))) + within

  made_at : (b k : ℕ) (i : AirInst) → air.StandsAt (selected p) b k i → makes_site (kind_of i.op) i.traps ≡ true → IsMade b k i
  unfolding selected_by block_code
  made_at zero k i at made =
      let t = tables p in
      let of : entry_of t.index (values_of p 0) ≡ at.of = (let e = at.block_there in cc) in
      let there : slice_get (entry_of t.index (values_of p 0)).insts k ≡ Some i =
      subst (λ (b : AirBlock). slice_get b.insts k ≡ Some i) (sym of) at.inst_there in
      absurd (not_both (makes_site (kind_of i.op) i.traps) made
      (makes_none i (All-at IsPlain (entry_of t.index (values_of p 0)).insts k i (entry_plain t.index (values_of p 0)) there)))
  made_at (suc b) k i at made =
      let t = tables p in
      let block = mapped (block_code t) (slice_get p.blocks b) at.of (sym (slice_get-map (block_code t) p.blocks b) ∙ at.block_there) in
      let of : Block = block.0 in
      let there : slice_get (flat_map (value_code t) of.values) k ≡ Some i =
      subst (λ (x : AirBlock). slice_get x.insts k ≡ Some i) (sym block.2) at.inst_there in
      let piece = flat_found (value_code t) of.values k i there in
      let v : Value = piece.part in
      let values : values_of p b ≡ of.values = ap (λ (x : Block). x.values) (get_or_from_slice_get p.blocks b of no_block block.1) in
      record {
        block = b;
        is_block = refl;
        at = piece.at;
        value = v;
        stands = subst (λ (vs : List Value). slice_get vs piece.at ≡ Some v) (sym values) piece.there;
        made = All-at (IsFor v.id) (value_code t v) piece.within i (made_for t v) piece.here;
        within = piece.within;
        here = piece.here;
        is = piece.is ∙ ap (λ (vs : List Value). length (flat_map (value_code t) (take piece.at vs)) + piece.within) (sym values);
      }

  -- each patchpoint and each check is expressed for the value that it names
  site_of_map : (k : Kind) (traps : Bool) → has_stackmap k ≡ true → makes_site k traps ≡ true
  site_of_map (Patches typed) traps e = refl
  site_of_map (Checks test) traps e = refl
  site_of_map (ChecksResult checked) traps e = refl
  site_of_map _ traps e = absurd cc

  module _ (fit : ValuesFit p.blocks) where
    abbrev Expresses : Value → AirInst → Type 0
    Expresses v i = has_stackmap (kind_of i.op) ≡ true → IsExpressed p v i

    value_expressed : (b j : ℕ) (v : Value) → StandsAt p b j v → All (Expresses v) (value_code (tables p) v)
    unfolding value_code
    value_expressed b j v at =
        pick (All (Expresses v)) (folds (tables p) v.id) [] (code_of (tables p) v.kind.opcode v) (All-nil (Expresses v)) (by (has_map v.kind.opcode) refl)
      where
        by : (map : Bool) → has_map v.kind.opcode ≡ map → All (Expresses v) (code_of (tables p) v.kind.opcode v)
        by true has = site_expressed p valid fit b j v at (tables p) (sound p valid) has
        by false plain =
            All-weaker IsMapless (Expresses v) (λ i none e. absurd (not_both (has_stackmap (kind_of i.op)) e none)) (code_of (tables p) v.kind.opcode v)
            (code_mapless (tables p) v v.kind.opcode plain)

    pub are_expressed : AreExpressed p (selected p)
    are_expressed b k i at has =
        let x = made_at b k i at (site_of_map (kind_of i.op) i.traps has) in
        let v = x.value in
        let all = value_expressed x.block x.at v x.stands in (
          v,
          ap (value_named p) x.made ∙ value_of_id p (is_kept p valid fit).distinct x.block v (Contains-at (values_of p x.block) x.at v x.stands),
          All-at (Expresses v) (value_code (tables p) v) x.within i all x.here has,
        )

  -- two values with one id stand at one place
  one_place : (b j c m : ℕ) (v w : Value) → StandsAt p b j v → StandsAt p c m w → v.id ≡ w.id → (b ≡ c) × (j ≡ m)
  one_place b j c m v w at other same =
      elim (cases_lt b c) [
        | inl less ↦ absurd (valid rule.Ids (ValueAt c m w) other b j v at (inl less) same)
        | inr past ↦ elim (cases_lt c b) [
          | inl less ↦ absurd (valid rule.Ids (ValueAt b j v) at c m w other (inl less) (sym same))
          | inr also ↦
              let blocks : b ≡ c = omega (arith, past, also) in
              elim (cases_lt j m) [
                | inl less ↦ absurd (valid rule.Ids (ValueAt c m w) other b j v at (inr (blocks, less)) same)
                | inr behind ↦ elim (cases_lt m j) [
                  | inl less ↦ absurd (valid rule.Ids (ValueAt b j v) at c m w other (inr (sym blocks, less)) (sym same))
                  | inr never ↦ (blocks, omega (arith, behind, never))
                ]
              ]
        ]
      ]

  pub sites : air.HasOneSiteEach (selected p)
  sites b c k l i j at other made also same =
      let x = made_at b k i at made in
      let y = made_at c l j other also in
      let ids : x.value.id ≡ y.value.id = sym x.made ∙ same ∙ y.made in
      let place = one_place x.block x.at y.block y.at x.value y.value x.stands y.stands ids in
      let value : x.value ≡ y.value =
      same_Some x.value y.value
      (sym x.stands ∙ ap (λ n. slice_get (values_of p n) x.at) place.0 ∙ ap (slice_get (values_of p y.block)) place.1 ∙ y.stands) in
      let here : slice_get (value_code (tables p) y.value) x.within ≡ Some i =
      subst (λ (w : Value). slice_get (value_code (tables p) w) x.within ≡ Some i) value x.here in
      let within : x.within ≡ y.within = value_one (tables p) y.value x.within y.within i j here y.here made also in (
        x.is_block ∙ ap suc place.0 ∙ sym y.is_block,
        x.is ∙ ap (λ n. length (flat_map (value_code (tables p)) (take x.at (values_of p n))) + x.within) place.0
            ∙ ap (λ n. length (flat_map (value_code (tables p)) (take n (values_of p y.block))) + x.within) place.1
            ∙ ap (λ n. length (flat_map (value_code (tables p)) (take y.at (values_of p y.block))) + n) within ∙ sym y.is,
      )

  -- and it is one of the value's that it names
  pub all_made_for : ValuesFit p.blocks → AreMadeFor p (selected p)
  all_made_for fit b k i at made =
      let x = made_at b k i at made in
      let named = value_of_id p (is_kept p valid fit).distinct x.block x.value (Contains-at (values_of p x.block) x.at x.value x.stands) in
      (x.value, ap (value_named p) x.made ∙ named)
