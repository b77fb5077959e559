-- What is selected is well formed.
use Rattle.std.proofs.Common.{◌≡◌, ℕ, zero, suc, ◌+◌, ◌<◌, inl, inr, Bool, true, false, ◌||◌, List, [], ◌∷◌, ◌++◌, map, Some, None, length, refl, sym, ap, ◌∙◌, subst, arith}
use Rattle.std.specs.Prelude.{All, Contains, if◌then◌else◌, slice_get}
use Rattle.std.specs.List.{flat_map}
use Rattle.std.proofs.lemmas.List.{append-nil, append_assoc, length-map}
use Rattle.std.proofs.lemmas.List.Concat.{flat_map-cons}
use Rattle.std.proofs.lemmas.List.Elements.{All-append, All-cons, All-map, All-nil, All-weaker}
use Rattle.b3_base.specs.declared.word.Width.TheVariants.{W64}
use Rattle.b3_ir.specs.Fits.{HasCases, HasTargets, IsBody, IsPlain, IsSlot, reported_count}
use Rattle.b3_ir.specs.Procedure.{Block, StandsAt, no_block, values_of, AllFit as ValuesFit, Procedure}
use Rattle.b3_ir.specs.Table.{is_terminal, row_of}
use Rattle.b3_ir.specs.declared.opcode.Opcode.{Opcode}
use Rattle.b3_ir.specs.declared.opcode.Opcode.TheVariants as opcode
use Rattle.b3_ir.specs.declared.opcode.Ty.{Ty}
use Rattle.b3_ir.specs.declared.procedure.SlotLine.{SlotLine}
use Rattle.b3_ir.specs.declared.value.Body.{Body}
use Rattle.b3_ir.specs.declared.value.Body.TheVariants.{Plain, Argument, Slot, Targets, Cases}
use Rattle.b3_ir.specs.declared.value.Value.{Value}
use Rattle.b3_ir.specs.Types.{width_of}
use Rattle.b3_meaning.specs.declared.role.Extent.{Extent}
use Rattle.b3_meaning.specs.declared.role.Extent.TheVariants.{Byte, Half, Whole}
use Rattle.b3_rules.specs.Paths.{successors_in}
use Rattle.b3_rules.specs.Rules.{IsArgumentIn}
use Rattle.std.proofs.lemmas.Option.{get_or_from_slice_get, slice_get_within}
use Rattle.b3_base.proofs.Lists.{Contains-first, Contains-later, All-one, All-two}
use Rattle.b3_base.proofs.Booleans.{not_both, and_first}
use Rattle.b3_rules.specs.Valid.{ValueAt, IsValidProcedure}
use Rattle.b3_rules.specs.declared.rule.Rule.TheVariants as rule
use Rattle.b3_sound.proofs.Distinct.{stands}
use Rattle.b3_sound.proofs.FromValid.{is_kept}
use Rattle.b3_sound.proofs.Kept.{EndsBlock, IsKept, NamesSlot}
use Rattle.air_ir.specs.Forms.{AnyWord, Result, Word, is_offset}
use Rattle.air_ir.specs.Kinds.{Kind, Checks, ChecksResult, Patches, extent_bytes, kind_of, target_count, targets_by}
use Rattle.air_ir.specs.WellFormed.{IsGoodBlock, IsGoodInst, IsWellFormed}
use Rattle.air_ir.specs.declared.op.AirOp.{AirOp}
use Rattle.air_ir.specs.declared.op.AirOp.TheVariants as op
use Rattle.air_ir.specs.declared.operand.Arg.TheVariants.{At}
use Rattle.air_ir.specs.declared.procedure.AirInst.{AirInst}
use Rattle.air_ir.specs.declared.procedure.AirProc.{AirProc}
use Rattle.air_select.specs.Contract.{has_stackmap}
use Rattle.air_fold.specs.Foldable.{is_add, is_and, is_comparison, is_constant, is_shl}
use Rattle.air_select.specs.Selected.{Tables, arg_of, argument_move, argument_moves, before_access, block_code, cases_in, code_of, def_at, entry_of, far_sum, folds, inst, last_id, load_of, move, names_argument, op_of, register, register_in, return_of, selected_by, slot_in, store_of, targets_of, use_at, value_code}
use Rattle.air_select.specs.Temporaries.{argument, tmp_count}
use Rattle.air_fold.specs.Values.{child, offset_in, width_at}
use Rattle.air_stackmap.specs.Laws.{has_stackmap as has_map}
use Rattle.air_select.proofs.CallCode.{call_all}
use Rattle.air_select.proofs.MapCode.{map_code_all, pick}
use Rattle.air_select.proofs.MapFacts.{site_good}
use Rattle.air_select.proofs.Forms.{fit_none, fit_two}
use Rattle.air_select.proofs.Good.{Has, code_has}
use Rattle.air_select.proofs.Named.{IsOwnInst, entry_own, value_own}
use Rattle.air_select.proofs.Returned.{at_place}
use Rattle.air_select.proofs.Setting.{IsFoldedKind, IsSound}
use Rattle.air_select.proofs.Sites.{all_three}

-- ---- ends
abbrev pub IsInner : AirInst → Type 0
IsInner i = target_count i.op ≡ None

inner_op : (o : Opcode) → target_count (op_of o) ≡ None
inner_op opcode.Add = refl
inner_op _ = refl

inner_before : (t : Tables) (v : Value) (pointer bytes : ℕ) → All IsInner (before_access t v pointer bytes)
inner_before t v pointer bytes =
    pick (All IsInner) (folds t pointer || is_offset bytes (offset_in v.body)) [] (far_sum t v pointer) (All-nil IsInner) (All-two IsInner _ _ refl refl)

inner_load : (t : Tables) (v : Value) (air_op : AirOp) (extent : Extent) → target_count air_op ≡ None → All IsInner (load_of t v air_op extent)
inner_load t v air_op extent e =
    let bytes = extent_bytes extent (width_of v.ty) in
    All-append IsInner (before_access t v (child v.children 0) bytes) _ (inner_before t v (child v.children 0) bytes) (All-one IsInner _ e)

inner_store : (t : Tables) (v : Value) (air_op : AirOp) (extent : Extent) → target_count air_op ≡ None → All IsInner (store_of t v air_op extent)
inner_store t v air_op extent e =
    let bytes = extent_bytes extent (width_at t.index (child v.children 0)) in
    All-append IsInner (before_access t v (child v.children 1) bytes) _ (inner_before t v (child v.children 1) bytes) (All-one IsInner _ e)

stackmap_inner : (k : Kind) → has_stackmap k ≡ true → targets_by k ≡ None
stackmap_inner (Patches typed) e = refl
stackmap_inner (Checks test) e = refl
stackmap_inner (ChecksResult checked) e = refl
stackmap_inner _ e = absurd cc

map_inner : (t : Tables) (v : Value) (o : Opcode) → has_map o ≡ true → All IsInner (code_of t o v)
map_inner t v o e =
    map_code_all t v IsInner (λ c reg is. refl) (λ reg. refl) (λ air inputs results n has ins outs. stackmap_inner (kind_of air) has) o e

inner_code : (t : Tables) (v : Value) (o : Opcode) → is_terminal o ≡ false → All IsInner (code_of t o v)
inner_code t v opcode.Nop e = All-nil IsInner
inner_code t v opcode.Const32 e = All-one IsInner _ refl
inner_code t v opcode.Const64 e = All-one IsInner _ refl
inner_code t v opcode.ArgumentReg e = All-one IsInner _ refl
inner_code t v opcode.Trunc e = All-one IsInner _ refl
inner_code t v opcode.Upsilon e = All-one IsInner _ refl
inner_code t v opcode.Phi e = All-one IsInner _ refl
inner_code t v opcode.FramePointer e = All-one IsInner _ refl
inner_code t v opcode.SlotBase e = All-one IsInner _ refl
inner_code t v opcode.Load8Z e = inner_load t v op.Load8Z Byte refl
inner_code t v opcode.Load8S e = inner_load t v op.Load8S Byte refl
inner_code t v opcode.Load16Z e = inner_load t v op.Load16Z Half refl
inner_code t v opcode.Load16S e = inner_load t v op.Load16S Half refl
inner_code t v opcode.Load e = inner_load t v op.Load Whole refl
inner_code t v opcode.Store8 e = inner_store t v op.Store8 Byte refl
inner_code t v opcode.Store16 e = inner_store t v op.Store16 Half refl
inner_code t v opcode.Store e = inner_store t v op.Store Whole refl
inner_code t v opcode.Patchpoint e = map_inner t v opcode.Patchpoint refl
inner_code t v opcode.Check e = map_inner t v opcode.Check refl
inner_code t v opcode.CheckAdd e = map_inner t v opcode.CheckAdd refl
inner_code t v opcode.CheckSub e = map_inner t v opcode.CheckSub refl
inner_code t v opcode.CheckMul e = map_inner t v opcode.CheckMul refl
inner_code t v opcode.CCall e = call_all t v IsInner (λ k c at. refl) refl refl
inner_code t v opcode.Mod e = pick (All IsInner) v.kind.chill _ _ (all_three IsInner _ _ _ refl refl refl) (All-two IsInner _ _ refl refl)
inner_code t v opcode.UMod e = pick (All IsInner) v.kind.chill _ _ (all_three IsInner _ _ _ refl refl refl) (All-two IsInner _ _ refl refl)
inner_code t v opcode.RotL e = pick (All IsInner) (folds t (child v.children 1)) _ _ (All-one IsInner _ refl) (All-two IsInner _ _ refl refl)
inner_code t v opcode.Select e = All-one IsInner _ refl
inner_code t v opcode.Jump e = absurd cc
inner_code t v opcode.Oops e = absurd cc
inner_code t v opcode.Branch e = absurd cc
inner_code t v opcode.Switch e = absurd cc
inner_code t v opcode.Return e = absurd cc
inner_code t v o e = All-one IsInner _ (inner_op o)

-- instructions that end in a terminal, which takes so many targets
pub record Ends (is : List AirInst) (targets : List ℕ) : Type 0 where
  pub body : List AirInst
  pub last : AirInst
  pub parts : is ≡ body ++ last ∷ []
  pub inner : All IsInner body
  pub ends : target_count last.op ≡ Some (length targets)

targets_counted : (n : ℕ) (body : Body) → HasTargets n body → length (map (λ b. b + 1) (successors_in body)) ≡ n
targets_counted n (Targets blocks) has = length-map blocks (λ b. b + 1) ∙ has
targets_counted n _ has = absurd has

cases_counted : (body : Body) → HasCases body → length (map (λ b. b + 1) (successors_in body)) ≡ suc (length (cases_in body))
cases_counted (Cases cases targets) has = let count = length-map targets (λ b. b + 1) in omega (arith, count, has.0)
cases_counted _ has = absurd has

none_counted : (body : Body) → IsPlain body → length (map (λ b. b + 1) (successors_in body)) ≡ 0
none_counted Plain has = refl
none_counted _ has = absurd has

alone : (i : AirInst) (targets : List ℕ) → target_count i.op ≡ Some (length targets) → Ends (i ∷ []) targets
alone i targets e = record { body = []; last = i; parts = refl; inner = All-nil IsInner; ends = e }

return_ends : (t : Tables) (v : Value) (cs : List ℕ) → IsPlain v.body → Ends (return_of t v cs) (targets_of v)
return_ends t v [] plain = alone (inst v op.Return []) (targets_of v) (ap Some (sym (none_counted v.body plain)))
return_ends t v (c ∷ cs) plain = record {
  body = move v (width_at t.index c) (arg_of t c) (register 0) ∷ [];
  last = inst v op.Return (use_at (width_at t.index c) (At (register 0)) ∷ []);
  parts = refl;
  inner = All-one IsInner (move v (width_at t.index c) (arg_of t c) (register 0)) refl;
  ends = ap Some (sym (none_counted v.body plain));
}

last_code : (t : Tables) (v : Value) (o : Opcode) → is_terminal o ≡ true → IsBody (row_of o).carries v.ty (reported_count v) v.body
    → Ends (code_of t o v) (targets_of v)
last_code t v opcode.Jump e body = alone (inst v op.Jump []) (targets_of v) (ap Some (sym (targets_counted 1 v.body body)))
last_code t v opcode.Oops e body = alone (inst v op.Oops []) (targets_of v) (ap Some (sym (none_counted v.body body)))
last_code t v opcode.Branch e body = alone _ (targets_of v) (ap Some (sym (targets_counted 2 v.body body)))
last_code t v opcode.Switch e body = alone _ (targets_of v) (ap Some (sym (cases_counted v.body body)))
last_code t v opcode.Return e body = return_ends t v v.children body
last_code t v _ e body = absurd cc

-- what isn't a terminal names no successors
no_successors : (o : Opcode) (ty : Ty) (n : ℕ) (body : Body) → is_terminal o ≡ false → IsBody (row_of o).carries ty n body → successors_in body ≡ []
no_successors o ty n (Targets blocks) e fits = absurd (by_targets o e fits)
  where
    by_targets : (o : Opcode) → is_terminal o ≡ false → IsBody (row_of o).carries ty n (Targets blocks) → ⊥
    by_targets opcode.Jump e fits = cc
    by_targets opcode.Branch e fits = cc
    by_targets opcode.Switch e fits = fits
    by_targets opcode.Return e fits = fits
    by_targets opcode.Oops e fits = fits
    by_targets _ e fits = fits
no_successors o ty n (Cases cases blocks) e fits = absurd (by_cases o e fits)
  where
    by_cases : (o : Opcode) → is_terminal o ≡ false → IsBody (row_of o).carries ty n (Cases cases blocks) → ⊥
    by_cases opcode.Switch e fits = cc
    by_cases opcode.Jump e fits = fits
    by_cases _ e fits = fits
no_successors o ty n _ e fits = refl

-- what is folded is no terminal
record IsNoKind (o : Opcode) : Type 0 where
  constant : is_constant o ≡ false
  comparison : is_comparison o ≡ false
  conjunction : is_and o ≡ false
  sum : is_add o ≡ false
  shift : is_shl o ≡ false

plain_terminal : (o : Opcode) → is_terminal o ≡ true → IsNoKind o
plain_terminal opcode.Jump e = record { constant = refl; comparison = refl; conjunction = refl; sum = refl; shift = refl }
plain_terminal opcode.Oops e = record { constant = refl; comparison = refl; conjunction = refl; sum = refl; shift = refl }
plain_terminal opcode.Branch e = record { constant = refl; comparison = refl; conjunction = refl; sum = refl; shift = refl }
plain_terminal opcode.Switch e = record { constant = refl; comparison = refl; conjunction = refl; sum = refl; shift = refl }
plain_terminal opcode.Return e = record { constant = refl; comparison = refl; conjunction = refl; sum = refl; shift = refl }
plain_terminal _ e = absurd cc

folded_inner : (t : Tables) (b : ℕ) (v : Value) → is_terminal v.kind.opcode ≡ true → IsFoldedKind t b v → ⊥
folded_inner t b v ends (inl constant) = not_both (is_constant v.kind.opcode) constant (plain_terminal v.kind.opcode ends).constant
folded_inner t b v ends (inr (inl comparison)) =
    not_both (is_comparison v.kind.opcode) comparison (plain_terminal v.kind.opcode ends).comparison
folded_inner t b v ends (inr (inr (inl bit))) =
    not_both (is_and v.kind.opcode) (and_first (is_and v.kind.opcode) _ bit) (plain_terminal v.kind.opcode ends).conjunction
folded_inner t b v ends (inr (inr (inr (inl sum)))) = not_both (is_add v.kind.opcode) sum (plain_terminal v.kind.opcode ends).sum
folded_inner t b v ends (inr (inr (inr (inr shift)))) = not_both (is_shl v.kind.opcode) shift (plain_terminal v.kind.opcode ends).shift

module _ (p : Procedure) (valid : IsValidProcedure p) (fit : ValuesFit p.blocks) (t : Tables) (sound : IsSound p t) where
  q : AirProc
  q = selected_by t p

  kept : IsKept p
  kept = is_kept p valid fit

  unfolded : (b : ℕ) (v : Value) → Contains (values_of p b) v → is_terminal v.kind.opcode ≡ true → folds t v.id ≡ false
  unfolded b v here ends = by (folds t v.id) refl
    where
      by : (f : Bool) → folds t v.id ≡ f → folds t v.id ≡ false
      by false e = e
      by true e = absurd (folded_inner t b v ends (sound.kinds b v here e))

  body_fits : (b : ℕ) (v : Value) → Contains (values_of p b) v → IsBody (row_of v.kind.opcode).carries v.ty (reported_count v) v.body
  body_fits b v here = let st = stands p b v here in (kept.rules b st.0 v st.1).fits.body

  inner_value : (v : Value) → is_terminal v.kind.opcode ≡ false → All IsInner (value_code t v)
  unfolding value_code
  inner_value v e = pick (All IsInner) (folds t v.id) [] (code_of t v.kind.opcode v) (All-nil IsInner) (inner_code t v v.kind.opcode e)

  last_value : (b : ℕ) (v : Value) → Contains (values_of p b) v → is_terminal v.kind.opcode ≡ true → Ends (value_code t v) (targets_of v)
  unfolding value_code
  last_value b v here ends =
      subst (λ f. Ends (if f then [] else code_of t v.kind.opcode v) (targets_of v)) (sym (unfolded b v here ends))
      (last_code t v v.kind.opcode ends (body_fits b v here))

  -- a value in front of others
  in_front : (v : Value) (is : List AirInst) (targets : List ℕ) → is_terminal v.kind.opcode ≡ false → targets_of v ≡ [] → Ends is targets
      → Ends (value_code t v ++ is) (targets_of v ++ targets)
  in_front v is targets inner none ends = record {
    body = value_code t v ++ ends.body;
    last = ends.last;
    parts = ap (λ (l : List AirInst). value_code t v ++ l) ends.parts ∙ sym (append_assoc (value_code t v) ends.body (ends.last ∷ []));
    inner = All-append IsInner (value_code t v) ends.body (inner_value v inner) ends.inner;
    ends = ends.ends ∙ ap (λ (l : List ℕ). Some (length (l ++ targets))) (sym none);
  }

  values_end : (b : ℕ) (vs : List Value) → ((v : Value) → Contains vs v → Contains (values_of p b) v) → EndsBlock vs
      → Ends (flat_map (value_code t) vs) (flat_map targets_of vs)
  values_end b [] here ends = absurd ends
  values_end b (v ∷ []) here ends =
      subst (λ (l : List AirInst). Ends l (flat_map targets_of (v ∷ []))) (sym (flat_map-cons (value_code t) v [] ∙ append-nil (value_code t v)))
      (subst (Ends (value_code t v)) (sym (flat_map-cons targets_of v [] ∙ append-nil (targets_of v))) (last_value b v (here v (Contains-first v [])) ends))
  values_end b (v ∷ w ∷ vs) here ends =
      subst (λ (l : List AirInst). Ends l (flat_map targets_of (v ∷ w ∷ vs))) (sym (flat_map-cons (value_code t) v (w ∷ vs)))
      (subst (Ends (value_code t v ++ flat_map (value_code t) (w ∷ vs))) (sym (flat_map-cons targets_of v (w ∷ vs)))
      (in_front v (flat_map (value_code t) (w ∷ vs)) (flat_map targets_of (w ∷ vs)) ends.0
      (ap (map (λ n. n + 1)) (no_successors v.kind.opcode v.ty (reported_count v) v.body ends.0 (body_fits b v (here v (Contains-first v (w ∷ vs))))))
      (values_end b (w ∷ vs) (λ u has. here u (Contains-later v (w ∷ vs) u has)) ends.1)))

  -- ---- instructions
  block_values : (b : ℕ) (block : Block) → slice_get p.blocks b ≡ Some block → values_of p b ≡ block.values
  block_values b block there = ap (λ (x : Block). x.values) (get_or_from_slice_get p.blocks b block no_block there)

  here_at : (b : ℕ) (v : Value) → Contains (values_of p b) v → (j : ℕ) × StandsAt p b j v
  here_at b v has = (has.0, at_place (values_of p b) has.0 v has.1 has.2)

  tmps_are : q.tmps ≡ tmp_count t.index
  unfolding q selected_by
  tmps_are = refl

  register_below : (o : Opcode) (body : Body) → (o ≡ opcode.ArgumentReg → IsArgumentIn body) → o ≡ opcode.ArgumentReg → register_in body < 8
  register_below o (Argument reg) argument is = let le = argument is in omega (arith, le)
  register_below o _ argument is = omega arith

  slots_are : length q.slots ≡ length p.slots
  unfolding q selected_by
  slots_are = length-map p.slots (λ (slot : SlotLine). slot.bytes)

  slot_below : (body : Body) → IsSlot body → NamesSlot p body → slot_in body < length q.slots
  slot_below (Slot number) is names = omega (arith, names, slots_are)
  slot_below _ is names = absurd is

  -- what a SlotBase names is a slot
  slot_named : (b : ℕ) (v : Value) → Contains (values_of p b) v → v.kind.opcode ≡ opcode.SlotBase → slot_in v.body < length q.slots
  slot_named b v here is =
      let st = stands p b v here in
      let rules = kept.rules b st.0 v st.1 in
      slot_below v.body (subst (λ (o : Opcode). IsBody (row_of o).carries v.ty (reported_count v) v.body) is rules.fits.body) rules.slot

  code_by : (b : ℕ) (v : Value) (j : ℕ) → StandsAt p b j v → has_map v.kind.opcode ≡ false → (f : Bool) → folds t v.id ≡ f
      → All (Has p valid fit t sound) (if f then [] else code_of t v.kind.opcode v)
  code_by b v j at plain true e = All-nil (Has p valid fit t sound)
  code_by b v j at plain false e = code_has p valid fit t sound b j v at e v.kind.opcode refl plain

  plain_good : (b j : ℕ) (v : Value) → StandsAt p b j v → Contains (values_of p b) v → has_map v.kind.opcode ≡ false → All (IsGoodInst q) (value_code t v)
  unfolding q selected_by value_code
  plain_good b j v at in_values plain =
      let operands : All (Has p valid fit t sound) (value_code t v) = code_by b v j at plain (folds t v.id) refl in
      let named : All (IsOwnInst q t tmps_are) (value_code t v) =
      value_own q t tmps_are v (register_below v.kind.opcode v.body (λ is. (valid rule.Arguments (ValueAt b j v) at is).1))
      (slot_named b v in_values) (valid rule.Sizes (ValueAt b j v) at).0 plain in
      λ k d lt. record { operands = operands k d lt; names = named k d lt }

  map_good : (b j : ℕ) (v : Value) → StandsAt p b j v → has_map v.kind.opcode ≡ true → All (IsGoodInst q) (value_code t v)
  unfolding value_code
  map_good b j v at has =
      pick (All (IsGoodInst q)) (folds t v.id) [] (code_of t v.kind.opcode v) (All-nil (IsGoodInst q)) (site_good p valid fit b j v at t sound has q tmps_are)

  value_good : (b : ℕ) (block : Block) → slice_get p.blocks b ≡ Some block → (v : Value) → Contains block.values v → All (IsGoodInst q) (value_code t v)
  value_good b block there v has =
      let in_values : Contains (values_of p b) v = subst (λ (l : List Value). Contains l v) (sym (block_values b block there)) has in
      let at = here_at b v in_values in
      by at.0 at.1 in_values (has_map v.kind.opcode) refl
    where
      by : (j : ℕ) → StandsAt p b j v → Contains (values_of p b) v → (map : Bool) → has_map v.kind.opcode ≡ map → All (IsGoodInst q) (value_code t v)
      by j at in_values true is = map_good b j v at is
      by j at in_values false is = plain_good b j v at in_values is

  -- ---- blocks
  all_here : {X Y : Type 0} (P : Y → Type 0) (f : X → List Y) (xs : List X) → ((x : X) → Contains xs x → All P (f x)) → All P (flat_map f xs)
  all_here P f [] each = All-nil P
  all_here P f (x ∷ xs) each =
      subst (All P) (sym (flat_map-cons f x xs))
      (All-append P (f x) (flat_map f xs) (each x (Contains-first x xs)) (all_here P f xs (λ y has. each y (Contains-later x xs y has))))

  abbrev IsTarget : ℕ → Type 0
  IsTarget n = (0 < n) × (n < length q.blocks)

  blocks_counted : length q.blocks ≡ suc (length p.blocks)
  unfolding q selected_by
  blocks_counted = ap suc (length-map p.blocks (block_code t))

  target_good : (b : ℕ) (v : Value) → Contains (values_of p b) v → All IsTarget (targets_of v)
  target_good b v here =
      let st = stands p b v here in
      All-map IsTarget (λ n. n + 1) (successors_in v.body)
      (All-weaker (λ n. n < length p.blocks) (λ n. IsTarget (n + 1)) (λ n lt. (omega arith, omega (arith, lt, blocks_counted))) (successors_in v.body)
      (kept.rules b st.0 v st.1).successors)

  block_good : (b : ℕ) (block : Block) → slice_get p.blocks b ≡ Some block → IsGoodBlock q (block_code t block)
  unfolding block_code
  block_good b block there =
      let here : (v : Value) → Contains block.values v → Contains (values_of p b) v =
      λ v has. subst (λ (l : List Value). Contains l v) (sym (block_values b block there)) has in
      let ends = values_end b block.values here (subst EndsBlock (block_values b block there) (kept.ends b (slice_get_within p.blocks b block there))) in
      record {
        body = ends.body;
        last = ends.last;
        parts = ends.parts;
        inner = ends.inner;
        ends = ends.ends;
        targets = all_here IsTarget targets_of block.values (λ v has. target_good b v (here v has));
        insts = all_here (IsGoodInst q) (value_code t) block.values (value_good b block there);
      }

  -- ---- the entry
  entry_operands : (vs : List Value) (value n : ℕ) → All (Has p valid fit t sound) (argument_moves t.index vs value n)
  entry_operands vs value zero = All-nil (Has p valid fit t sound)
  entry_operands vs value (suc r) =
      All-append (Has p valid fit t sound) (argument_moves t.index vs value r) (if names_argument vs r then argument_move t.index value r ∷ [] else [])
      (entry_operands vs value r)
      (pick (All (Has p valid fit t sound)) (names_argument vs r) (argument_move t.index value r ∷ []) []
      (All-one (Has p valid fit t sound) (argument_move t.index value r)
      (W64, W64, fit_two (Word W64 AnyWord) (Result W64) (use_at W64 (At (register r))) (def_at W64 (argument t.index r)) (refl, refl, tt) (refl, refl, tt)))
      (All-nil (Has p valid fit t sound)))

  entry_inner : (vs : List Value) (value n : ℕ) → All IsInner (argument_moves t.index vs value n)
  entry_inner vs value zero = All-nil IsInner
  entry_inner vs value (suc r) =
      All-append IsInner (argument_moves t.index vs value r) (if names_argument vs r then argument_move t.index value r ∷ [] else [])
      (entry_inner vs value r)
      (pick (All IsInner) (names_argument vs r) (argument_move t.index value r ∷ []) [] (All-one IsInner (argument_move t.index value r) refl)
      (All-nil IsInner))

  entry_insts : All (Has p valid fit t sound) (entry_of t.index (values_of p 0)).insts → All (IsOwnInst q t tmps_are) (entry_of t.index (values_of p 0)).insts
      → All (IsGoodInst q) (entry_of t.index (values_of p 0)).insts
  unfolding q selected_by entry_of
  entry_insts operands named = λ k d lt. record { operands = operands k d lt; names = named k d lt }

  entry_good : IsGoodBlock q (entry_of t.index (values_of p 0))
  unfolding entry_of
  entry_good =
      let vs = values_of p 0 in
      let jump : AirInst = record { op = op.Jump; operands = []; value = last_id vs; traps = false } in
      let operands : All (Has p valid fit t sound) (argument_moves t.index vs (last_id vs) 8 ++ jump ∷ []) =
      All-append (Has p valid fit t sound) (argument_moves t.index vs (last_id vs) 8) (jump ∷ []) (entry_operands vs (last_id vs) 8)
      (All-one (Has p valid fit t sound) jump (W64, W64, fit_none)) in
      let named = entry_own q t tmps_are vs in
      record {
        body = argument_moves t.index vs (last_id vs) 8;
        last = jump;
        parts = refl;
        inner = entry_inner vs (last_id vs) 8;
        ends = refl;
        targets = All-one IsTarget 1 (omega arith, omega (arith, blocks_counted, kept.some));
        insts = entry_insts operands named;
      }

  blocks_good : (bs : List Block) (n : ℕ) → ((k : ℕ) (block : Block) → slice_get bs k ≡ Some block → slice_get p.blocks (n + k) ≡ Some block)
      → All (IsGoodBlock q) (map (block_code t) bs)
  blocks_good [] n there = All-nil (IsGoodBlock q)
  blocks_good (block ∷ bs) n there =
      All-cons (IsGoodBlock q) (block_code t block) (map (block_code t) bs)
      (block_good (n + 0) block (there 0 block refl))
      (blocks_good bs (n + 1) (λ k b at. subst (λ m. slice_get p.blocks m ≡ Some b) (omega arith) (there (suc k) b at)))

  pub well : IsWellFormed (selected_by t p)
  unfolding q selected_by
  well = record {
    entry = omega arith;
    blocks = All-cons (IsGoodBlock q) (entry_of t.index (values_of p 0)) (map (block_code t) p.blocks) entry_good
        (blocks_good p.blocks 0 (λ k block at. subst (λ m. slice_get p.blocks m ≡ Some block) (omega arith) at));
  }
