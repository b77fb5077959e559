-- The pieces of a list that is made of those of each item, and which value an instruction is made for.
use Rattle.std.proofs.Common.{◌≡◌, ℕ, zero, suc, ◌+◌, ◌-◌, inl, inr, Bool, true, false, ◌||◌, List, [], ◌∷◌, ◌++◌, Some, length, take, refl, sym, ap, ◌∙◌, subst, arith, length-append}
use Rattle.std.specs.Prelude.{All, if◌then◌else◌, slice_get}
use Rattle.std.specs.List.{flat_map}
use Rattle.std.proofs.lemmas.Bool.{cases_lt}
use Rattle.std.proofs.lemmas.List.Elements.{All-append, All-nil}
use Rattle.b3_base.proofs.Lists.{get_front, get_behind, All-one, All-two}
use Rattle.b3_ir.specs.Types.{width_of}
use Rattle.b3_ir.specs.declared.opcode.Opcode.{Opcode}
use Rattle.b3_ir.specs.declared.opcode.Opcode.TheVariants as opcode
use Rattle.b3_ir.specs.declared.value.Value.{Value}
use Rattle.b3_meaning.specs.declared.role.Extent.{Extent}
use Rattle.b3_meaning.specs.declared.role.Extent.TheVariants.{Byte, Half, Whole}
use Rattle.air_ir.specs.Forms.{is_offset}
use Rattle.air_ir.specs.Kinds.{extent_bytes}
use Rattle.air_ir.specs.declared.op.AirOp.{AirOp}
use Rattle.air_ir.specs.declared.op.AirOp.TheVariants as op
use Rattle.air_ir.specs.declared.procedure.AirInst.{AirInst}
use Rattle.air_fold.specs.Values.{Index, child, offset_in, width_at}
use Rattle.air_fold.proofs.Places.{get_within}
use Rattle.air_select.specs.Selected.{argument_move, argument_moves, before_access, code_of, entry_of, far_sum, folds, last_id, load_of, names_argument, return_of, store_of, value_code, Tables}
use Rattle.air_stackmap.specs.Laws.{has_stackmap as has_map}
use Rattle.air_select.proofs.CallCode.{call_all}
use Rattle.air_select.proofs.MapCode.{map_code_all}
use Rattle.air_select.proofs.Sites.{all_three}

-- ---- pieces of a list

-- an item of the piece of a part
pub flat_get : {X Y : Type 0} (f : X → List Y) (xs : List X) (j : ℕ) (x : X) (n : ℕ) (y : Y) → slice_get xs j ≡ Some x → slice_get (f x) n ≡ Some y
    → slice_get (flat_map f xs) (length (flat_map f (take j xs)) + n) ≡ Some y
flat_get f [] j x n y there at = absurd cc
flat_get f (z ∷ xs) zero x n y there at =
    let same : x ≡ z = cc in
    let first : 0 + n ≡ n = omega arith in
    ap (slice_get (f z ++ flat_map f xs)) first ∙ get_front (f z) (flat_map f xs) n y (subst (λ w. slice_get (f w) n ≡ Some y) same at)
flat_get f (z ∷ xs) (suc j) x n y there at =
    let far : length (f z ++ flat_map f (take j xs)) + n ≡ length (f z) + (length (flat_map f (take j xs)) + n) =
    omega (arith, length-append (f z) (flat_map f (take j xs))) in
    ap (slice_get (f z ++ flat_map f xs)) far ∙ get_behind (f z) (flat_map f xs) (length (flat_map f (take j xs)) + n) ∙ flat_get f xs j x n y there at

pub record IsPieceOf {X Y : Type 0} (f : X → List Y) (xs : List X) (k : ℕ) (y : Y) : Type 0 where
  pub at : ℕ
  pub part : X
  pub there : slice_get xs at ≡ Some part
  pub within : ℕ
  pub here : slice_get (f part) within ≡ Some y
  pub is : k ≡ length (flat_map f (take at xs)) + within

pub flat_found : {X Y : Type 0} (f : X → List Y) (xs : List X) (k : ℕ) (y : Y) → slice_get (flat_map f xs) k ≡ Some y → IsPieceOf f xs k y
flat_found f [] k y e = absurd cc
flat_found f (x ∷ xs) k y e =
    elim (cases_lt k (length (f x))) [
      | inl less ↦ record { at = 0; part = x; there = refl; within = k; here = get_within (f x) (flat_map f xs) k y less e; is = omega arith }
      | inr past ↦
          let m : ℕ = k - length (f x) in
          let split : length (f x) + m ≡ k = omega arith in
          let more = flat_found f xs m y (sym (get_behind (f x) (flat_map f xs) m) ∙ ap (slice_get (flat_map f (x ∷ xs))) split ∙ e) in
          record {
            at = suc more.at;
            part = more.part;
            there = more.there;
            within = more.within;
            here = more.here;
            is = omega (arith, more.is, length-append (f x) (flat_map f (take more.at xs)));
          }
    ]

-- ---- what an instruction is made for

abbrev pub IsFor : ℕ → AirInst → Type 0
IsFor id i = i.value ≡ id

module _ (t : Tables) (v : Value) where
  either_for : (b : Bool) (is other : List AirInst) → All (IsFor v.id) is → All (IsFor v.id) other → All (IsFor v.id) (if b then is else other)
  either_for true is other h k = h
  either_for false is other h k = k

  return_for : (cs : List ℕ) → All (IsFor v.id) (return_of t v cs)
  return_for [] = All-one (IsFor v.id) _ refl
  return_for (c ∷ cs) = All-two (IsFor v.id) _ _ refl refl

  before_for : (pointer bytes : ℕ) → All (IsFor v.id) (before_access t v pointer bytes)
  before_for pointer bytes =
      either_for (folds t pointer || is_offset bytes (offset_in v.body)) [] (far_sum t v pointer) (All-nil (IsFor v.id)) (All-two (IsFor v.id) _ _ refl refl)

  load_for : (air_op : AirOp) (extent : Extent) → All (IsFor v.id) (load_of t v air_op extent)
  load_for air_op extent =
      All-append (IsFor v.id) (before_access t v (child v.children 0) (extent_bytes extent (width_of v.ty))) _
      (before_for (child v.children 0) (extent_bytes extent (width_of v.ty))) (All-one (IsFor v.id) _ refl)

  store_for : (air_op : AirOp) (extent : Extent) → All (IsFor v.id) (store_of t v air_op extent)
  store_for air_op extent =
      let bytes = extent_bytes extent (width_at t.index (child v.children 0)) in
      All-append (IsFor v.id) (before_access t v (child v.children 1) bytes) _ (before_for (child v.children 1) bytes) (All-one (IsFor v.id) _ refl)

  map_for : (o : Opcode) → has_map o ≡ true → All (IsFor v.id) (code_of t o v)
  map_for o e = map_code_all t v (IsFor v.id) (λ c reg is. refl) (λ reg. refl) (λ air inputs results n has ins outs. refl) o e

  code_for : (o : Opcode) → All (IsFor v.id) (code_of t o v)
  code_for opcode.Nop = All-nil (IsFor v.id)
  code_for opcode.Load8Z = load_for op.Load8Z Byte
  code_for opcode.Load8S = load_for op.Load8S Byte
  code_for opcode.Load16Z = load_for op.Load16Z Half
  code_for opcode.Load16S = load_for op.Load16S Half
  code_for opcode.Load = load_for op.Load Whole
  code_for opcode.Store8 = store_for op.Store8 Byte
  code_for opcode.Store16 = store_for op.Store16 Half
  code_for opcode.Store = store_for op.Store Whole
  code_for opcode.Patchpoint = map_for opcode.Patchpoint refl
  code_for opcode.Check = map_for opcode.Check refl
  code_for opcode.CheckAdd = map_for opcode.CheckAdd refl
  code_for opcode.CheckSub = map_for opcode.CheckSub refl
  code_for opcode.CheckMul = map_for opcode.CheckMul refl
  code_for opcode.CCall = call_all t v (IsFor v.id) (λ k c at. refl) refl refl
  code_for opcode.Mod = either_for v.kind.chill _ _ (all_three (IsFor v.id) _ _ _ refl refl refl) (All-two (IsFor v.id) _ _ refl refl)
  code_for opcode.UMod = either_for v.kind.chill _ _ (all_three (IsFor v.id) _ _ _ refl refl refl) (All-two (IsFor v.id) _ _ refl refl)
  code_for opcode.RotL = either_for (folds t (child v.children 1)) _ _ (All-one (IsFor v.id) _ refl) (All-two (IsFor v.id) _ _ refl refl)
  code_for opcode.Return = return_for v.children
  code_for _ = All-one (IsFor v.id) _ refl

  pub made_for : All (IsFor v.id) (value_code t v)
  unfolding value_code
  made_for = either_for (folds t v.id) [] (code_of t v.kind.opcode v) (All-nil (IsFor v.id)) (code_for v.kind.opcode)

  -- a value that has an instruction is not folded
  pub unfolded_by : (n : ℕ) (i : AirInst) → slice_get (value_code t v) n ≡ Some i → folds t v.id ≡ false
  unfolding value_code
  unfolded_by n i e = by (folds t v.id) e
    where
      by : (b : Bool) → slice_get (if b then [] else code_of t v.kind.opcode v) n ≡ Some i → b ≡ false
      by true at = absurd cc
      by false at = refl

  pub code_is : folds t v.id ≡ false → value_code t v ≡ code_of t v.kind.opcode v
  unfolding value_code
  code_is e = rw e refl

moves_for : (x : Index) (vs : List Value) (value n : ℕ) → All (IsFor value) (argument_moves x vs value n)
moves_for x vs value zero = All-nil (IsFor value)
moves_for x vs value (suc r) =
    All-append (IsFor value) (argument_moves x vs value r) _ (moves_for x vs value r) (by (names_argument vs r))
  where
    by : (b : Bool) → All (IsFor value) (if b then argument_move x value r ∷ [] else [])
    by true = All-one (IsFor value) _ refl
    by false = All-nil (IsFor value)

pub entry_for : (x : Index) (vs : List Value) → All (IsFor (last_id vs)) (entry_of x vs).insts
unfolding entry_of
entry_for x vs = All-append (IsFor (last_id vs)) (argument_moves x vs (last_id vs) 8) _ (moves_for x vs (last_id vs) 8) (All-one (IsFor (last_id vs)) _ refl)
