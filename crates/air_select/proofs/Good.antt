-- The instructions of each value have the operands that their ops take.
use Rattle.std.proofs.Common.{◌≡◌, ◌≢◌, ℕ, ℤ, suc, pos, negsuc, ◌+◌, ◌^◌, ◌<◌, ◌≤◌, ◌⊎◌, inl, inr, Bool, true, false, ◌&&◌, ◌||◌, List, [], ◌∷◌, ◌++◌, drop, length, map, Option, Some, None, refl, sym, ap, ◌∙◌, subst, arith}
use Rattle.std.specs.Prelude.{All, AllPairs, Contains, if◌then◌else◌, slice_get}
use Rattle.std.specs.Int.{cast_unsigned, w64}
use Rattle.std.proofs.lemmas.Int.{ints}
use Rattle.std.proofs.Math.ListN.{drop_of_length-le}
use Rattle.std.proofs.lemmas.Bool.{lt-ltb, or_cases}
use Rattle.std.proofs.lemmas.List.{append-nil, append_assoc, length-map}
use Rattle.std.proofs.lemmas.List.Elements.{All-append, All-nil}
use Rattle.b3_base.proofs.Lists.{Contains-none, Contains-cases, Contains-at, All-one, All-two}
use Rattle.b3_base.specs.Word.{bits}
use Rattle.b3_base.specs.declared.word.Width.{Width}
use Rattle.b3_base.specs.declared.word.Width.TheVariants.{W32, W64}
use Rattle.b3_ir.specs.Fits.{IsConstantBelow, IsOffset, reported_count}
use Rattle.b3_ir.specs.Naming.{all_values, type_of}
use Rattle.b3_ir.specs.Procedure.{values_of, AllFit as ValuesFit, Procedure, StandsAt}
use Rattle.b3_ir.specs.Types.{AllowsTypes, AreMore, AreTaken, IsTaken, width_of}
use Rattle.b3_ir.specs.declared.opcode.Opcode.{Opcode}
use Rattle.b3_ir.specs.declared.opcode.Opcode.TheVariants as opcode
use Rattle.b3_ir.specs.declared.opcode.Ty.{Ty}
use Rattle.b3_ir.specs.declared.opcode.Ty.TheVariants.{Void, Int32, Int64}
use Rattle.b3_ir.specs.declared.table.More.TheVariants.{Arguments, NoMore}
use Rattle.b3_ir.specs.declared.table.Takes.{Takes as Taken}
use Rattle.b3_ir.specs.declared.table.Takes.TheVariants.{Alike, Any, This}
use Rattle.b3_ir.specs.declared.value.Body.{Body}
use Rattle.b3_ir.specs.declared.value.Body.TheVariants.{Cases, Offset}
use Rattle.b3_ir.specs.declared.value.Value.{Value}
use Rattle.b3_ir.proofs.Typing.{allowed}
use Rattle.b3_ir.specs.Table.{row_of}
use Rattle.b3_rules.specs.Rules.{AreCasesOf, first_return, first_type, if_return, types_of}
use Rattle.b3_meaning.specs.Roles.{role_of}
use Rattle.b3_meaning.specs.declared.role.Extent.{Extent}
use Rattle.b3_meaning.specs.declared.role.Extent.TheVariants.{Byte, Half, Whole}
use Rattle.b3_meaning.specs.declared.role.Role.{Role}
use Rattle.b3_meaning.specs.declared.role.Role.TheVariants as role
use Rattle.b3_rules.specs.Valid.{ValueAt, IsValidProcedure}
use Rattle.b3_rules.specs.declared.rule.Rule.TheVariants as rule
use Rattle.b3_sound.proofs.Distinct.{stands}
use Rattle.b3_sound.proofs.FromValid.{is_kept}
use Rattle.b3_sound.proofs.Kept.{IsKept}
use Rattle.b3_sound.proofs.Rows.{IsRow, row_by_role}
use Rattle.stackmap.specs.declared.site.Returns.{Returns}
use Rattle.air_ir.specs.Forms.{AllFit, AreThese, DifferIn, Fits, HasOperands, Immediates, NoImmediate, AnyWord, OfSum, OnlyZero, IsAddress, IsWord, Takes, Word, Address, Slot, Result, argument_home, arguments_from, call_clobbers, is_offset, load, operand_in, returned, spills_changed, store, takes, test_takes}
use Rattle.air_ir.specs.Kinds.{extent_bytes}
use Rattle.air_ir.specs.declared.op.AirOp.{AirOp}
use Rattle.air_ir.specs.declared.op.AirOp.TheVariants as op
use Rattle.air_ir.specs.declared.operand.Arg.{Arg}
use Rattle.air_ir.specs.declared.operand.Arg.TheVariants.{Addr, At, FrameSlot, Imm}
use Rattle.air_ir.specs.declared.operand.Home.{Home}
use Rattle.air_ir.specs.declared.operand.Operand.{Operand}
use Rattle.air_ir.specs.declared.operand.Role.TheVariants.{Clobber}
use Rattle.air_ir.specs.declared.procedure.AirInst.{AirInst}
use Rattle.air_stackmap.specs.Laws.{has_stackmap as has_map}
use Rattle.air_fold.specs.Foldable.{constant_fits, first_immediates, is_add, is_index, is_pointer, pointers, sum_fits, value_fits, is_bit_test, is_comparison, second_immediates}
use Rattle.air_select.specs.Selected.{Condition, Tables, access, address_of, arg_of, arguments_at, before_access, call_of, call_to, cases_in, chosen_rest, code_of, condition_of, def_at, far_sum, folds, frame_of, home_address, inst, load_of, negative_amount, op_of, phi_in, quotient_of, register, register_in, rest_into, result_into, result_of, return_of, returns_by, returns_child, returns_type, rotate_by, slot_in, slot_of, store_of, sum_address, turned, use_at, use_of}
use Rattle.air_select.specs.Temporaries.{argument, first_extra, home, location, second_extra}
use Rattle.air_fold.specs.Values.{Index, child, known, known_in, offset_in, width_at, word_in}
use Rattle.air_fold.specs.declared.known.Known.{Known}
use Rattle.air_select.proofs.CallCode.{behind_count, behind_first, call_all}
use Rattle.air_select.proofs.Facts.{body_below}
use Rattle.air_select.proofs.Forms as forms
use Rattle.air_select.proofs.Forms.{any_fits, fit_four, fit_none, fit_one, fit_three, fit_two}
use Rattle.air_select.proofs.Operands.{one_of, three_of, two_of}
use Rattle.air_select.proofs.Pointers.{PointerAt, load16s_at, load16z_at, load8s_at, load8z_at, load_at, store16_at, store8_at, store_at, sum_is_address}
use Rattle.air_select.proofs.Returned.{in_all}
use Rattle.air_select.proofs.SiteForms.{site_child}
use Rattle.air_select.proofs.Sites.{all_three}
use Rattle.air_select.proofs.Tested.{IsTested, condition_tested}
use Rattle.air_select.proofs.Setting.{IsSound}

-- the operands of a call, as its form lists them
joined : (a c s r : List Operand) → s ≡ [] → a ++ (c ++ r) ≡ a ++ c ++ s ++ r
joined a c s r e = rw e (simp (append_assoc, append-nil) refl)

uses_are : (t : Tables) (cs : List ℕ) (n : ℕ) → n + length cs ≤ 8 → arguments_at t n cs ≡ arguments_from n (map (width_at t.index) cs)
uses_are t [] n le = refl
uses_are t (c ∷ cs) n le =
    let here : argument_home n ≡ register n = rw (lt-ltb n 8 (omega (arith, le))) refl in
    let next : n + 1 ≡ suc n = omega arith in
    let width = width_at t.index c in
    ap (λ (l : List Operand). use_at width (At (register n)) ∷ l) (uses_are t cs (suc n) (omega (arith, le)))
    ∙ ap (λ (a : Home). use_at width (At a) ∷ arguments_from (suc n) (map (width_at t.index) cs)) (sym here)
    ∙ ap (λ m. use_at width (At (argument_home n)) ∷ arguments_from m (map (width_at t.index) cs)) (sym next)

callee_there : (ty : ℕ → Ty) (a : Ty) (cs : List ℕ) → AreTaken a (This Int64 ∷ []) Arguments (map ty cs)
    → (slice_get cs 0 ≡ Some (child cs 0)) × (ty (child cs 0) ≡ Int64)
callee_there ty a [] taken = absurd taken
callee_there ty a (c ∷ cs) taken = (refl, taken.0)

fit_append : (ts us : List Takes) (os ps : List Operand) → AllFit ts os → AllFit us ps → AllFit (ts ++ us) (os ++ ps)
unfolding AllFit
fit_append [] us [] ps a b = b
fit_append [] us (o ∷ os) ps a b = absurd a
fit_append (t ∷ ts) us [] ps a b = absurd a
fit_append (t ∷ ts) us (o ∷ os) ps a b = (a.0, fit_append ts us os ps a.1 b)

-- the type of what is returned settles it
returns_alike : (x : Index) (ty : ℕ → Ty) → ((id : ℕ) → (known x id).ty ≡ ty id) → (cs ds : List ℕ) → map ty cs ≡ map ty ds
    → returns_child x cs ≡ returns_child x ds
returns_alike x ty types [] [] e = refl
returns_alike x ty types [] (d ∷ ds) e = absurd cc
returns_alike x ty types (c ∷ cs) [] e = absurd cc
returns_alike x ty types (c ∷ cs) (d ∷ ds) e =
    let same : ty c ≡ ty d = cc in ap returns_type (types c ∙ same ∙ sym (types d))

more_typed : (ty : ℕ → Ty) (c : ℕ) (cs : List ℕ) → AreMore (row_of opcode.Return).more (map ty (c ∷ cs)) → ty c ≢ Void
more_typed ty c cs (inl none) = absurd cc
more_typed ty c cs (inr some) = let same : ty c ≡ some.0 = cc in λ void. some.1 (sym same ∙ void)

returned_type : (ty : Ty) → ty ≢ Void → use_at (width_of ty) (At (register 0)) ∷ [] ≡ returned (returns_type ty)
returned_type Int32 some = refl
returned_type Int64 some = refl
returned_type Void some = absurd (some refl)

returned_is : (x : Index) (c : ℕ) (ty : Ty) → ty ≢ Void → (known x c).ty ≡ ty → {r : Returns} → returns_type (known x c).ty ≡ r
    → use_at (width_at x c) (At (register 0)) ∷ [] ≡ returned r
returned_is x c ty some is same =
    ap (λ (k : Ty). use_at (width_of k) (At (register 0)) ∷ []) is ∙ returned_type ty some ∙ sym (ap (λ k. returned (returns_type k)) is) ∙ ap returned same

-- a Return among some values is found
first_there : (vs : List Value) (v : Value) → Contains vs v → v.kind.opcode ≡ opcode.Return → first_return vs ≡ None → ⊥
first_there [] v has is e = Contains-none v has
first_there (w ∷ vs) v has is e = by w.kind.opcode refl e (Contains-cases w vs v has) (λ more. first_there vs v more is)
  where
    by : (o : Opcode) → w.kind.opcode ≡ o → if_return o w (first_return vs) ≡ None → (w ≡ v) ⊎ Contains vs v → (Contains vs v → first_return vs ≡ None → ⊥) → ⊥
    by opcode.Return is' e' cases rest = cc
    by _ is' e' (inr more) rest = rest more e'
    by _ is' e' (inl same) rest = let bad = sym is' ∙ ap (λ (x : Value). x.kind.opcode) same ∙ is in cc

-- what is moved may be any word
moved : (width : Width) (os : List Operand) (z : Operand) → AllFit (Word width NoImmediate ∷ Result width ∷ []) (os ++ z ∷ [])
    → AllFit (Word width AnyWord ∷ Result width ∷ []) (os ++ z ∷ [])
unfolding AllFit
moved width [] z f = absurd f.1
moved width (o ∷ os) z f = (any_fits width o f.0, f.1)

-- accesses of a whole word
whole_load : (width : Width) (os : List Operand) → AllFit (load width (extent_bytes Whole width)) os → AreThese (takes op.Load width W64) os
whole_load W32 os f = f
whole_load W64 os f = f

whole_store : (width : Width) (os : List Operand) → AllFit (store width (extent_bytes Whole width)) os → AreThese (takes op.Store width W64) os
whole_store W32 os f = f
whole_store W64 os f = f

-- whether a load puts the sign above what it loads
abbrev extends_by : Opcode → Bool
extends_by opcode.Load8S = true
extends_by opcode.Load16S = true
extends_by _ = false

turned_small : (width : Width) (amount : ℕ) → turned width amount < 2 ^ bits W32
turned_small W32 amount = omega arith
turned_small W64 amount = omega arith

module _ (p : Procedure) (valid : IsValidProcedure p) (fit : ValuesFit p.blocks) (t : Tables) (sound : IsSound p t) where
  kept : IsKept p
  kept = is_kept p valid fit

  -- what the procedure returns
  abbrev pub r : Returns
  r = returns_by t.index (first_return (all_values p))

  abbrev pub Has : AirInst → Type 0
  Has i = HasOperands r i.op i.operands

  -- a child that is no immediate is a home at any width
  home_word : (width : Width) (id : ℕ) → Fits (Word width NoImmediate) (use_of t id) → (imm : Immediates) (w : Width) → IsWord imm w (arg_of t id)
  home_word width id fits imm w = by (folds t id) refl
    where
      by : (f : Bool) → folds t id ≡ f → IsWord imm w (arg_of t id)
      by false e = subst (λ b. IsWord imm w (if b then Imm (known t.index id).word else At (home t.index id))) (sym e) tt
      by true e = absurd (subst (λ b. IsWord NoImmediate width (if b then Imm (known t.index id).word else At (home t.index id))) e fits.2).1

  module _ (b j : ℕ) (v : Value) (at : StandsAt p b j v) where
    here : Contains (values_of p b) v
    here = Contains-at (values_of p b) j v at

    -- no value fits as child i, and no constant as a part of a sum
    abbrev NoneFits : Opcode → ℕ → Type 0
    NoneFits o i = ((k : Known) → value_fits t.index (pointers p) o i v.id k ≡ false) × (sum_fits t.index (pointers p) o i v.id ≡ false)

    allows : AllowsTypes v.kind.opcode v.ty (types_of p v)
    allows = allowed v.kind.opcode v.ty (types_of p v) (valid rule.Types (ValueAt b j v) at)

    move_has : (width : Width) (from : Arg) (to : Home) → IsWord AnyWord width from → Has (inst v op.Move (use_at width from ∷ def_at width to ∷ []))
    move_has width from to is = (
      width,
      width,
      fit_two (Word width AnyWord) (Result width) (use_at width from) (def_at width to) (refl, refl, is)
          (refl, refl, tt),
    )

    one_move : (width : Width) (from : Arg) (to : Home) → IsWord AnyWord width from → All Has (inst v op.Move (use_at width from ∷ def_at width to ∷ []) ∷ [])
    one_move width from to is = All-one Has (inst v op.Move (use_at width from ∷ def_at width to ∷ [])) (move_has width from to is)

    module _ (o : Opcode) (is : v.kind.opcode ≡ o) where
      row : AllowsTypes o v.ty (types_of p v)
      row = subst (λ q. AllowsTypes q v.ty (types_of p v)) is allows

      -- the word of a constant
      constant_word : IsConstantBelow (2 ^ bits (width_of v.ty)) v.body → IsWord AnyWord (width_of v.ty) (Imm (word_in v.body))
      constant_word below = ((body_below (2 ^ bits (width_of v.ty)) v.body below).1, tt)

    -- the first child, where the row takes just one
    abbrev pub FirstFits : Type 0
    FirstFits = (width : Width) × Fits (Word width NoImmediate) (use_of t (child v.children 0))

    first_of : (o : Opcode) → v.kind.opcode ≡ o → (c : ℕ) (cs : List ℕ) → v.children ≡ c ∷ cs → type_of p c ≢ Void
        → first_immediates o ≡ NoImmediate → NoneFits o 0 → FirstFits
    first_of o is c cs e typed none_first none =
        let first : child v.children 0 ≡ c = ap (λ (l : List ℕ). child l 0) e in (
          width_of (type_of p c),
          subst (λ (x : ℕ). Fits (Word (width_of (type_of p c)) NoImmediate) (use_of t x)) (sym first)
              (subst (λ (m : Immediates). Fits (Word (width_of (type_of p c)) m) (use_of t c)) none_first
              (forms.child_as p kept t sound b v here o is 0 c (type_of p c) (ap (λ (l : List ℕ). slice_get l 0) e) none.0 none.1 refl typed)),
        )

    -- ---- remainders
    quotient_has : (op : AirOp) (w : Width) → ((os : List Operand) → AllFit (Word w NoImmediate ∷ Word w NoImmediate ∷ Result w ∷ []) os → HasOperands r op os)
        → (width_of v.ty ≡ w) → Fits (Word w NoImmediate) (use_of t (child v.children 0)) → Fits (Word w NoImmediate) (use_of t (child v.children 1))
        → Has (quotient_of t v op)
    quotient_has op w has e x y =
        has (quotient_of t v op).operands
        (fit_three (Word w NoImmediate) (Word w NoImmediate) (Result w) (use_of t (child v.children 0)) (use_of t (child v.children 1))
        (def_at (width_of v.ty) (first_extra t.index v.id)) x y (refl, e, tt))

    rest_has : (to : Home) → Fits (Word (width_of v.ty) NoImmediate) (use_of t (child v.children 0))
        → Fits (Word (width_of v.ty) NoImmediate) (use_of t (child v.children 1))
        → Has (rest_into t v to)
    rest_has to x y =
        let w = width_of v.ty in (
          w,
          w,
          fit_four (Word w NoImmediate) (Word w NoImmediate) (Word w NoImmediate) (Result w) (use_at w (At (first_extra t.index v.id)))
              (use_of t (child v.children 1)) (use_of t (child v.children 0)) (def_at w to) (refl, refl, tt) y x (refl, refl, tt),
        )

    chosen_has : Fits (Word (width_of v.ty) NoImmediate) (use_of t (child v.children 1)) → Has (chosen_rest t v)
    chosen_has y =
        let w = width_of v.ty in (
          w,
          w,
          fit_four (Word w NoImmediate) (Word w NoImmediate) (Word w NoImmediate) (Result w) (use_of t (child v.children 1))
              (use_at w (At (second_extra t.index v.id))) (use_at w (At (first_extra t.index v.id))) (result_of t v) y (refl, refl, tt) (refl, refl, tt)
              (refl, refl, tt),
        )

    remainder_has : (op : AirOp) → ((w : Width) (os : List Operand) → AllFit (Word w NoImmediate ∷ Word w NoImmediate ∷ Result w ∷ []) os → HasOperands r op os)
        → Fits (Word (width_of v.ty) NoImmediate) (use_of t (child v.children 0)) → Fits (Word (width_of v.ty) NoImmediate) (use_of t (child v.children 1))
        → (c : Bool)
        → All Has (if c then quotient_of t v op ∷ rest_into t v (second_extra t.index v.id) ∷ chosen_rest t v ∷ []
        else quotient_of t v op ∷ rest_into t v (home t.index v.id) ∷ [])
    remainder_has op has x y true =
        all_three Has (quotient_of t v op) (rest_into t v (second_extra t.index v.id)) (chosen_rest t v)
        (quotient_has op (width_of v.ty) (has (width_of v.ty)) refl x y) (rest_has (second_extra t.index v.id) x y) (chosen_has y)
    remainder_has op has x y false =
        All-two Has (quotient_of t v op) (rest_into t v (home t.index v.id))
        (quotient_has op (width_of v.ty) (has (width_of v.ty)) refl x y) (rest_has (home t.index v.id) x y)

    -- ---- rotations
    rotate_has : (w : Width) → width_of v.ty ≡ w → (amount : Arg) → IsWord AnyWord W32 amount → Fits (Word w NoImmediate) (use_of t (child v.children 0))
        → Has (rotate_by t v amount)
    rotate_has w e amount is x = (
      w,
      w,
      fit_three (Word w NoImmediate) (Word W32 AnyWord) (Result w) (use_of t (child v.children 0)) (use_at W32 amount) (result_of t v)
          x (refl, refl, is) (refl, e, tt),
    )

    rotate_left_has : (w : Width) → width_of v.ty ≡ w → Fits (Word w NoImmediate) (use_of t (child v.children 0))
        → (folds t (child v.children 1) ≡ false → Fits (Word W32 NoImmediate) (use_of t (child v.children 1))) → (c : Bool) → folds t (child v.children 1) ≡ c
        → All Has (if c then rotate_by t v (Imm (turned (width_of v.ty) (known t.index (child v.children 1)).word)) ∷ []
        else negative_amount t v ∷ rotate_by t v (At (first_extra t.index v.id)) ∷ [])
    rotate_left_has w e x amount true f =
        let turn : Arg = Imm (turned (width_of v.ty) (known t.index (child v.children 1)).word) in
        All-one Has (rotate_by t v turn) (rotate_has w e turn (turned_small (width_of v.ty) (known t.index (child v.children 1)).word, tt) x)
    rotate_left_has w e x amount false f =
        All-two Has (negative_amount t v) (rotate_by t v (At (first_extra t.index v.id))) (
          W32,
          W32,
          fit_two (Word W32 NoImmediate) (Result W32) (use_of t (child v.children 1)) (def_at W32 (first_extra t.index v.id)) (amount f)
              (refl, refl, tt),
        )
        (rotate_has w e (At (first_extra t.index v.id)) tt x)

    -- ---- cases
    cases_differ : (ty : Ty) (body : Body) → AreCasesOf ty body → AllPairs (DifferIn (width_of ty)) (cases_in body)
    cases_differ ty (Cases cases targets) are = are.0
    cases_differ ty _ are = λ i k d less lt. absurd (omega (arith, lt))

    -- ---- returns
    none_or_one : (types : List Ty) → AreMore (row_of opcode.Return).more types → (types ≡ []) ⊎ ((ty : Ty) × (ty ≢ Void) × (types ≡ ty ∷ []))
    none_or_one types more = more

    -- each Return returns what the first one does
    same_returns : v.kind.opcode ≡ opcode.Return → (cs : List ℕ) → v.children ≡ cs → returns_child t.index cs ≡ r
    same_returns is cs e = by_first (first_return (all_values p)) refl
      where
        child_returns : (ds : List ℕ) → map (type_of p) cs ≡ map (type_of p) ds → returns_child t.index cs ≡ returns_child t.index ds
        child_returns ds types = returns_alike t.index (type_of p) sound.types cs ds types

        by_first : (x : Option Value) → first_return (all_values p) ≡ x → returns_child t.index cs ≡ returns_by t.index x
        by_first (Some w) first =
            child_returns w.children (sym (ap (map (type_of p)) e) ∙ valid rule.Returns (ValueAt b j v) at is w first)
        by_first None first = absurd (first_there (all_values p) v (in_all p b v here) is first)

    return_has : v.kind.opcode ≡ opcode.Return → (cs : List ℕ) → v.children ≡ cs → All Has (return_of t v cs)
    return_has is [] e =
        All-one Has (inst v op.Return []) (ap returned (same_returns is [] e))
    return_has is (c ∷ cs) e =
        let w = width_at t.index c in
        let row' = subst (λ (l : List ℕ). AreMore (row_of opcode.Return).more (map (type_of p) l)) e (row opcode.Return is).children in
        let typed = more_typed (type_of p) c cs row' in
        let x = forms.child_as p kept t sound b v here opcode.Return is 0 c (type_of p c) (ap (λ (l : List ℕ). slice_get l 0) e) (λ k. refl) refl refl typed in
        All-two Has (inst v op.Move (use_at w (arg_of t c) ∷ def_at w (register 0) ∷ [])) (inst v op.Return (use_at w (At (register 0)) ∷ []))
        (move_has w (arg_of t c) (register 0) (home_word (width_of (type_of p c)) c x AnyWord w))
        (returned_is t.index c (type_of p c) typed (sound.types c) (same_returns is (c ∷ cs) e))

    -- ---- each opcode
    -- one op over the children
    one_has : (o : AirOp) → HasOperands r o (map (use_of t) v.children ++ result_of t v ∷ [])
        → All Has (inst v o (map (use_of t) v.children ++ result_of t v ∷ []) ∷ [])
    one_has o has = All-one Has (inst v o (map (use_of t) v.children ++ result_of t v ∷ [])) has

    module _ (o : Opcode) (is : v.kind.opcode ≡ o) (none_first : first_immediates o ≡ NoImmediate)
        (none : NoneFits o 0)
        (none' : NoneFits o 1) where
      pair : (a r : Ty) → a ≢ Void → AreTaken a (Alike ∷ Alike ∷ []) NoMore (types_of p v) → v.ty ≡ r
          → AllFit (Word (width_of a) NoImmediate ∷ Word (width_of a) (second_immediates o) ∷ Result (width_of r) ∷ [])
          (map (use_of t) v.children ++ result_of t v ∷ [])
      pair a r some taken own = forms.alike_two p kept t sound b v here o is a some none_first none none' r taken own

      amount : (a : Ty) → a ≢ Void → AreTaken a (Alike ∷ This Int32 ∷ []) NoMore (types_of p v) → v.ty ≡ a
          → AllFit (Word (width_of a) NoImmediate ∷ Word W32 (second_immediates o) ∷ Result (width_of a) ∷ []) (map (use_of t) v.children ++ result_of t v ∷ [])
      amount a some taken own = forms.shifted p kept t sound b v here o is a some none_first none none' taken own

      single : (a : Ty) → a ≢ Void → AreTaken a (Alike ∷ []) NoMore (types_of p v) → v.ty ≡ a
          → AllFit (Word (width_of a) NoImmediate ∷ Result (width_of a) ∷ []) (map (use_of t) v.children ++ result_of t v ∷ [])
      single a some taken own = forms.alike_one p kept t sound b v here o is a some none_first none none' taken own

      from : (alike f r : Ty) → f ≢ Void → AreTaken alike (This f ∷ []) NoMore (types_of p v) → v.ty ≡ r
          → AllFit (Word (width_of f) NoImmediate ∷ Result (width_of r) ∷ []) (map (use_of t) v.children ++ result_of t v ∷ [])
      from alike f r some taken own = forms.from_one p kept t sound b v here o is alike f r some taken own none_first none

      split : (a : Ty) → a ≢ Void → second_immediates o ≡ NoImmediate → AreTaken a (Alike ∷ Alike ∷ []) NoMore (types_of p v) → v.ty ≡ a → forms.Divided t v
      split a some never taken own = forms.divided p kept t sound b v here o is a some none_first none none' never taken own

    -- the body by the role
    its_row : IsRow (role_of v.kind.opcode) v.ty (types_of p v) v.body
    its_row =
        let st = stands p b v here in
        row_by_role v.kind.opcode v.ty (types_of p v) (reported_count v) v.body allows (kept.rules b st.0 v st.1).fits.body

    role_row : (o : Opcode) → v.kind.opcode ≡ o → IsRow (role_of o) v.ty (types_of p v) v.body
    role_row o is = subst (λ (q : Opcode). IsRow (role_of q) v.ty (types_of p v) v.body) is its_row

    int_some : Int32 ≢ Void
    int_some e = cc

    long_some : Int64 ≢ Void
    long_some e = cc

    -- the only child of an opcode that takes one of any type
    any_child : (a : Ty) → AreTaken a (Any ∷ []) NoMore (types_of p v) → (c : ℕ) × (v.children ≡ c ∷ []) × (type_of p c ≢ Void)
    any_child a taken = one_of (type_of p) a Any v.children taken

    moved_child : (o : Opcode) → v.kind.opcode ≡ o → (c : ℕ) × (v.children ≡ c ∷ []) × (type_of p c ≢ Void)
        → first_immediates o ≡ NoImmediate → NoneFits o 0
        → (w : Width) → IsWord AnyWord w (arg_of t (child v.children 0))
    moved_child o is one none_first none w =
        let first = first_of o is one.0 [] one.1 one.2 none_first none in
        home_word first.0 (child v.children 0) first.1 AnyWord w

    branch_allows : v.kind.opcode ≡ opcode.Branch → (k : Known) → value_fits t.index (pointers p) v.kind.opcode 0 v.id k ≡ true
        → (is_comparison k.opcode ≡ true) ⊎ (is_bit_test t.index k ≡ true)
    branch_allows is k fits = or_cases (is_comparison k.opcode) (is_bit_test t.index k) (sym (ap (λ q. value_fits t.index (pointers p) q 0 v.id k) is) ∙ fits)

    select_allows : v.kind.opcode ≡ opcode.Select → (k : Known) → value_fits t.index (pointers p) v.kind.opcode 0 v.id k ≡ true
        → (is_comparison k.opcode ≡ true) ⊎ (is_bit_test t.index k ≡ true)
    select_allows is k fits = inl (sym (ap (λ q. value_fits t.index (pointers p) q 0 v.id k) is) ∙ fits)

    tested : (c : ℕ) → slice_get v.children 0 ≡ Some c → type_of p c ≢ Void
        → ((k : Known) → value_fits t.index (pointers p) v.kind.opcode 0 v.id k ≡ true → (is_comparison k.opcode ≡ true) ⊎ (is_bit_test t.index k ≡ true))
        → ((width : Width) (word : ℕ) → constant_fits v.kind.opcode 0 width word ≡ false)
        → sum_fits t.index (pointers p) v.kind.opcode 0 v.id ≡ false → IsTested (condition_of t c)
    tested c first typed allowed never no_sum = condition_tested p kept t sound b v here c first typed allowed never no_sum

    switch_has : v.kind.opcode ≡ opcode.Switch → (one : (c : ℕ) × (v.children ≡ c ∷ []) × (type_of p c ≢ Void))
        → Has (inst v (op.Switch (cases_in v.body)) (use_of t (child v.children 0) ∷ []))
    switch_has is one =
        let ty = type_of p one.0 in
        let first : child v.children 0 ≡ one.0 = ap (λ (l : List ℕ). child l 0) one.1 in
        let fits = forms.child_as p kept t sound b v here opcode.Switch is 0 one.0 ty (ap (λ (l : List ℕ). slice_get l 0) one.1) (λ k. refl) refl refl one.2 in
        let same : first_type (types_of p v) ≡ ty = ap (λ (l : List ℕ). first_type (map (type_of p) l)) one.1 in
        let cases = subst (λ (k : Ty). AreCasesOf k v.body) same (valid rule.Cases (ValueAt b j v) at) in (
          width_of ty,
          fit_one (Word (width_of ty) NoImmediate) (use_of t (child v.children 0))
              (subst (λ n. Fits (Word (width_of ty) NoImmediate) (use_of t n)) (sym first) fits),
          cases_differ ty v.body cases,
        )

    select_has : v.kind.opcode ≡ opcode.Select → (a : Ty) → a ≢ Void → v.ty ≡ a → AreTaken a (Any ∷ Alike ∷ Alike ∷ []) NoMore (types_of p v)
        → Has (inst v (op.SelectIf (condition_of t (child v.children 0)).test)
        ((condition_of t (child v.children 0)).over ++ use_of t (child v.children 1) ∷ use_of t (child v.children 2) ∷ result_of t v ∷ []))
    select_has is a some own taken =
        let cs = three_of (type_of p) a Any Alike Alike v.children taken in
        let x : child v.children 0 ≡ cs.0 = ap (λ (l : List ℕ). child l 0) cs.3 in
        let y : child v.children 1 ≡ cs.1 = ap (λ (l : List ℕ). child l 1) cs.3 in
        let z : child v.children 2 ≡ cs.2 = ap (λ (l : List ℕ). child l 2) cs.3 in
        let c = subst (λ n. IsTested (condition_of t n)) (sym x) (tested cs.0 (ap (λ (l : List ℕ). slice_get l 0) cs.3) cs.4 (select_allows is)
        (λ width word. ap (λ q. constant_fits q 0 width word) is) (ap (λ q. sum_fits t.index (pointers p) q 0 v.id) is)) in
        let fy = forms.child_as p kept t sound b v here opcode.Select is 1 cs.1 a (ap (λ (l : List ℕ). slice_get l 1) cs.3) (λ k. refl) refl cs.5 some in
        let fz = forms.child_as p kept t sound b v here opcode.Select is 2 cs.2 a (ap (λ (l : List ℕ). slice_get l 2) cs.3) (λ k. refl) refl cs.6 some in
        let w = width_of a in
        let rest : List Takes = Word w NoImmediate ∷ Word w NoImmediate ∷ Result w ∷ [] in
        let condition : Condition = condition_of t (child v.children 0) in (
          c.0,
          w,
          fit_append (test_takes condition.test c.0) rest condition.over (use_of t (child v.children 1) ∷ use_of t (child v.children 2) ∷ result_of t v ∷ [])
              c.1
              (fit_three (Word w NoImmediate) (Word w NoImmediate) (Result w) (use_of t (child v.children 1)) (use_of t (child v.children 2)) (result_of t v)
              (subst (λ n. Fits (Word w NoImmediate) (use_of t n)) (sym y) fy) (subst (λ n. Fits (Word w NoImmediate) (use_of t n)) (sym z) fz)
              (refl, ap width_of own, tt)),
        )

    branch_has : v.kind.opcode ≡ opcode.Branch → (one : (c : ℕ) × (v.children ≡ c ∷ []) × (type_of p c ≢ Void))
        → Has (inst v (op.BranchIf (condition_of t (child v.children 0)).test) (condition_of t (child v.children 0)).over)
    branch_has is one =
        let x : child v.children 0 ≡ one.0 = ap (λ (l : List ℕ). child l 0) one.1 in
        let c = subst (λ n. IsTested (condition_of t n)) (sym x) (tested one.0 (ap (λ (l : List ℕ). slice_get l 0) one.1) one.2 (branch_allows is)
        (λ width word. ap (λ q. constant_fits q 0 width word) is) (ap (λ q. sum_fits t.index (pointers p) q 0 v.id) is)) in
        (c.0, c.0, c.1)

    -- a rotation left
    rotated : (h : AllowsTypes opcode.RotL v.ty (types_of p v)) → v.kind.opcode ≡ opcode.RotL → All Has (code_of t opcode.RotL v)
    rotated h is =
        let cs = two_of (type_of p) h.alike Alike (This Int32) v.children h.children in
        let first = forms.child_as p kept t sound b v here opcode.RotL is 0 cs.0 h.alike (ap (λ (l : List ℕ). slice_get l 0) cs.2)
        (λ k. refl) refl cs.3 h.typed in
        let second = forms.child_as p kept t sound b v here opcode.RotL is 1 cs.1 Int32 (ap (λ (l : List ℕ). slice_get l 1) cs.2)
        (λ k. refl) refl cs.4 int_some in
        let x : child v.children 0 ≡ cs.0 = ap (λ (l : List ℕ). child l 0) cs.2 in
        let y : child v.children 1 ≡ cs.1 = ap (λ (l : List ℕ). child l 1) cs.2 in
        rotate_left_has (width_of h.alike) (ap width_of h.gives) (subst (λ n. Fits (Word (width_of h.alike) NoImmediate) (use_of t n)) (sym x) first)
        (λ unfolded. let fits = subst (λ n. Fits (Word W32 AnyWord) (use_of t n)) (sym y) second in (
          fits.0,
          fits.1,
          subst (λ f. IsWord NoImmediate W32
              (if f then Imm (known t.index (child v.children 1)).word else At (home t.index (child v.children 1)))) (sym unfolded) tt,
        ))
        (folds t (child v.children 1)) refl

    -- ---- accesses, slots and the frame pointer

    offset_word : (offset : ℤ) → IsOffset (Offset offset) → cast_unsigned w64 offset < 2 ^ 64
    offset_word (pos n) in_range = let le = in_range.1 in omega (arith, ints, le)
    offset_word (negsuc n) in_range = omega arith

    offset_small : (body : Body) → IsOffset body → cast_unsigned w64 (offset_in body) < 2 ^ 64
    offset_small (Offset offset) in_range = offset_word offset in_range
    offset_small _ in_range = absurd in_range

    -- a pointer that isn't folded stands in its home
    pointer_fits_home : (c : ℕ) → type_of p c ≡ Int64 → folds t c ≡ false → Fits (Word W64 NoImmediate) (use_of t c)
    pointer_fits_home c typed un = (
      refl,
      ap width_of (sound.types c ∙ typed),
      subst (λ f. IsWord NoImmediate W64 (if f then Imm (known t.index c).word else At (home t.index c))) (sym un) tt,
    )

    module _ (o : Opcode) (eo : v.kind.opcode ≡ o) (i bytes : ℕ) (pointed : PointerAt p t v o i bytes) (pointer : ℕ)
        (there : slice_get v.children i ≡ Some pointer)
        (typed : type_of p pointer ≡ Int64) (in_range : IsOffset v.body) where
      far_has : Fits (Word W64 NoImmediate) (use_of t pointer) → All Has (far_sum t v pointer)
      far_has fits =
          let k : Arg = Imm (cast_unsigned w64 (offset_in v.body)) in
          let first = first_extra t.index v.id in
          let second = second_extra t.index v.id in
          All-two Has (inst v op.Move (use_at W64 k ∷ def_at W64 first ∷ []))
          (inst v op.Add (use_of t pointer ∷ use_at W64 (At first) ∷ def_at W64 second ∷ []))
          (move_has W64 k first (offset_small v.body in_range, tt)) (
            W64,
            W64,
            fit_three (Word W64 NoImmediate) (Word W64 OfSum) (Result W64) (use_of t pointer) (use_at W64 (At first)) (def_at W64 second)
                fits (refl, refl, tt) (refl, refl, tt),
          )

      before_has : All Has (before_access t v pointer bytes)
      before_has = by (folds t pointer) refl (is_offset bytes (offset_in v.body))
        where
          by : (f : Bool) → folds t pointer ≡ f → (near : Bool) → All Has (if f || near then [] else far_sum t v pointer)
          by true gone near = All-nil Has
          by false un true = All-nil Has
          by false un false = far_has (pointer_fits_home pointer typed un)

      address_is : IsAddress bytes (address_of t v pointer bytes)
      address_is = by (folds t pointer) refl
        where
          near_by : (near : Bool) → is_offset bytes (offset_in v.body) ≡ near
              → IsAddress bytes (if near then Addr (home t.index pointer) (offset_in v.body) else Addr (second_extra t.index v.id) (pos 0))
          near_by true e = e
          near_by false e = refl

          by : (f : Bool) → folds t pointer ≡ f
              → IsAddress bytes (if f then sum_address t v (known t.index pointer) else home_address t v pointer bytes)
          by true gone = sum_is_address p t sound b v here o eo i bytes pointed pointer there gone
          by false un = near_by (is_offset bytes (offset_in v.body)) refl

    -- a load of this width and so many bytes, from the only child
    load_has : (o : Opcode) (air_op : AirOp) (extent : Extent) (ty : Ty) (bytes : ℕ) → v.kind.opcode ≡ o → role_of o ≡ role.Load extent (extends_by o)
        → v.ty ≡ ty → extent_bytes extent (width_of ty) ≡ bytes → PointerAt p t v o 0 (extent_bytes extent (width_of v.ty))
        → ((ty : Ty) (types : List Ty) (a : AllowsTypes o ty types) → AreTaken a.alike (This Int64 ∷ []) NoMore types)
        → ((os : List Operand) → AllFit (load (width_of ty) bytes) os → HasOperands r air_op os)
        → All Has (load_of t v air_op extent)
    load_has o air_op extent ty bytes is acts own count pointed takes has =
        let h = row o is in
        let one = one_of (type_of p) h.alike (This Int64) v.children (takes v.ty (types_of p v) h) in
        let pointer = child v.children 0 in
        let here_bytes = extent_bytes extent (width_of v.ty) in
        let at = address_of t v pointer here_bytes in
        let in_range : IsOffset v.body = (subst (λ (q : Role). IsRow q v.ty (types_of p v) v.body) acts (role_row o is)).1 in
        let first : pointer ≡ one.0 = ap (λ (l : List ℕ). child l 0) one.1 in
        let there : slice_get v.children 0 ≡ Some pointer = ap (λ (l : List ℕ). slice_get l 0) one.1 ∙ ap Some (sym first) in
        let typed : type_of p pointer ≡ Int64 = ap (type_of p) first ∙ one.2 in
        let last : AirInst = access v air_op (use_at (width_of v.ty) at ∷ result_of t v ∷ []) in
        let width : width_of v.ty ≡ width_of ty = ap width_of own in
        let counted : here_bytes ≡ bytes = ap (extent_bytes extent) width ∙ count in
        All-append Has (before_access t v pointer here_bytes) (last ∷ [])
        (before_has o is 0 here_bytes pointed pointer there typed in_range)
        (All-one Has last (has last.operands (fit_two (Address (width_of ty) bytes) (Result (width_of ty)) (use_at (width_of v.ty) at) (result_of t v)
        (refl, width, subst (λ n. IsAddress n at) counted (address_is o is 0 here_bytes pointed pointer there typed in_range)) (refl, width, tt))))

    -- a store of a word of a type
    store_has : (o : Opcode) (air_op : AirOp) (extent : Extent) (value : Taken) → v.kind.opcode ≡ o → role_of o ≡ role.Store extent
        → first_immediates o ≡ OnlyZero → NoneFits o 0 → PointerAt p t v o 1 (extent_bytes extent (width_at t.index (child v.children 0)))
        → ((ty : Ty) (types : List Ty) (a : AllowsTypes o ty types) → AreTaken a.alike (value ∷ This Int64 ∷ []) NoMore types)
        → ((alike ty : Ty) → IsTaken alike value ty → ty ≢ Void)
        → ((alike ty : Ty) → IsTaken alike value ty → (os : List Operand)
        → AllFit (store (width_of ty) (extent_bytes extent (width_of ty))) os → HasOperands r air_op os)
        → All Has (store_of t v air_op extent)
    store_has o air_op extent value is acts zero_first none pointed takes some has =
        let h = row o is in
        let cs = two_of (type_of p) h.alike value (This Int64) v.children (takes v.ty (types_of p v) h) in
        let from = child v.children 0 in
        let pointer = child v.children 1 in
        let ty = type_of p cs.0 in
        let first : from ≡ cs.0 = ap (λ (l : List ℕ). child l 0) cs.2 in
        let second : pointer ≡ cs.1 = ap (λ (l : List ℕ). child l 1) cs.2 in
        let width : width_at t.index from ≡ width_of ty = ap width_of (sound.types from ∙ ap (type_of p) first) in
        let bytes = extent_bytes extent (width_at t.index from) in
        let at = address_of t v pointer bytes in
        let in_range : IsOffset v.body = (subst (λ (q : Role). IsRow q v.ty (types_of p v) v.body) acts (role_row o is)).2 in
        let there : slice_get v.children 1 ≡ Some pointer = ap (λ (l : List ℕ). slice_get l 1) cs.2 ∙ ap Some (sym second) in
        let typed : type_of p pointer ≡ Int64 = ap (type_of p) second ∙ cs.4 in
        let stored : Fits (Word (width_of ty) OnlyZero) (use_of t from) =
        subst (λ n. Fits (Word (width_of ty) OnlyZero) (use_of t n)) (sym first)
        (subst (λ (m : Immediates). Fits (Word (width_of ty) m) (use_of t cs.0)) zero_first
        (forms.child_as p kept t sound b v here o is 0 cs.0 ty (ap (λ (l : List ℕ). slice_get l 0) cs.2) none.0 none.1 refl (some h.alike ty cs.3))) in
        let last : AirInst = access v air_op (use_of t from ∷ use_at (width_at t.index from) at ∷ []) in
        let counted : bytes ≡ extent_bytes extent (width_of ty) = ap (extent_bytes extent) width in
        All-append Has (before_access t v pointer bytes) (last ∷ []) (before_has o is 1 bytes pointed pointer there typed in_range)
        (All-one Has last (has h.alike ty cs.3 last.operands
        (fit_two (Word (width_of ty) OnlyZero) (Address (width_of ty) (extent_bytes extent (width_of ty))) (use_of t from) (use_at (width_at t.index from) at)
        stored (refl, width, subst (λ n. IsAddress n at) counted (address_is o is 1 bytes pointed pointer there typed in_range)))))

    -- ---- calls

    call_is : (cs : List ℕ) → length cs ≤ 8 → (callee : ℕ) → type_of p callee ≡ Int64 → Fits (Word (width_of (type_of p callee)) NoImmediate) (use_of t callee)
        → Has (call_to t v callee cs)
    call_is cs few callee typed fits =
        let widths = map (width_at t.index) cs in
        let changed : List Operand = map (operand_in Clobber W64) call_clobbers in
        let count : length widths ≤ 8 = omega (arith, few, length-map cs (width_at t.index)) in
        let none : spills_changed 0 (drop 8 widths) ≡ [] = ap (spills_changed 0) (drop_of_length-le widths count) in
        record {
          callee = use_of t callee;
          widths = widths;
          width = width_of v.ty;
          few = count;
          parts = ap (λ (l : List Operand). use_of t callee ∷ (l ++ (changed ++ result_into v 0))) (uses_are t cs 0 (omega (arith, few)))
              ∙ ap (λ (l : List Operand). use_of t callee ∷ l)
              (joined (arguments_from 0 widths) changed (spills_changed 0 (drop 8 widths)) (result_into v 0) none);
          fits = subst (λ (ty : Ty). Fits (Word (width_of ty) NoImmediate) (use_of t callee)) typed fits;
        }

    call_has : v.kind.opcode ≡ opcode.CCall → All Has (call_of t v)
    call_has is =
        let h = row opcode.CCall is in
        let callee = callee_there (type_of p) h.alike v.children h.children in
        let few = behind_count v.children 8 ((valid rule.Sizes (ValueAt b j v) at).0 is) in
        call_all t v Has
        (λ k c there.
        let fits = site_child p kept t sound b v here opcode.CCall is refl (suc k) c refl (behind_first v.children k c there) in
        move_has (width_at t.index c) (arg_of t c) (register (0 + k)) (home_word (width_of (type_of p c)) c fits AnyWord (width_at t.index c)))
        (call_is (drop 1 v.children) few (child v.children 0) callee.1
        (site_child p kept t sound b v here opcode.CCall is refl 0 (child v.children 0) refl callee.0))
        (move_has (width_of v.ty) (At (register 0)) (home t.index v.id) tt)

    its_known : known t.index v.id ≡ known_in b v
    its_known = sound.is_known b v here

    module _ (un : folds t v.id ≡ false) where
      pub code_has : (o : Opcode) → v.kind.opcode ≡ o → has_map o ≡ false → All Has (code_of t o v)
      code_has opcode.Nop is plain = All-nil Has
      code_has opcode.Const32 is plain =
          one_move (width_of v.ty) (Imm (word_in v.body)) (home t.index v.id) (constant_word opcode.Const32 is (role_row opcode.Const32 is))
      code_has opcode.Const64 is plain =
          one_move (width_of v.ty) (Imm (word_in v.body)) (home t.index v.id) (constant_word opcode.Const64 is (role_row opcode.Const64 is))
      code_has opcode.ArgumentReg is plain = one_move W64 (At (argument t.index (register_in v.body))) (home t.index v.id) tt
      code_has opcode.Trunc is plain =
          let h = row opcode.Trunc is in
          let one = one_of (type_of p) h.alike (This Int64) v.children h.children in
          one_move W32 (arg_of t (child v.children 0)) (home t.index v.id)
          (moved_child opcode.Trunc is (one.0, one.1, λ e. long_some (sym one.2 ∙ e)) refl ((λ k. refl), refl) W32)
      code_has opcode.Upsilon is plain =
          one_move (width_at t.index (child v.children 0)) (arg_of t (child v.children 0)) (location t.index (phi_in v.body))
          (moved_child opcode.Upsilon is (any_child (row opcode.Upsilon is).alike (row opcode.Upsilon is).children) refl ((λ k. refl), refl)
          (width_at t.index (child v.children 0)))
      code_has opcode.Phi is plain = one_move (width_of v.ty) (At (location t.index v.id)) (home t.index v.id) tt
      code_has opcode.FramePointer is plain =
          All-one Has (frame_of t v)
          (W64, W64, fit_one (Result W64) (result_of t v) (refl, ap width_of (role_row opcode.FramePointer is), tt))
      code_has opcode.SlotBase is plain =
          All-one Has (slot_of t v) (
            W64,
            W64,
            fit_two Slot (Result W64) (use_at W64 (FrameSlot (slot_in v.body))) (result_of t v) (refl, refl, tt)
                (refl, ap width_of (role_row opcode.SlotBase is).0, tt),
          )
      code_has opcode.Load8Z is plain =
          load_has opcode.Load8Z op.Load8Z Byte Int32 1 is refl (row opcode.Load8Z is).gives refl (load8z_at p t v b its_known)
          (λ ty ts a. a.children) (λ os f. (W32, W32, f))
      code_has opcode.Load8S is plain =
          load_has opcode.Load8S op.Load8S Byte Int32 1 is refl (row opcode.Load8S is).gives refl (load8s_at p t v b its_known)
          (λ ty ts a. a.children) (λ os f. (W32, W32, f))
      code_has opcode.Load16Z is plain =
          load_has opcode.Load16Z op.Load16Z Half Int32 2 is refl (row opcode.Load16Z is).gives refl (load16z_at p t v b its_known) (λ ty ts a. a.children)
          (λ os f. (W32, W32, f))
      code_has opcode.Load16S is plain =
          load_has opcode.Load16S op.Load16S Half Int32 2 is refl (row opcode.Load16S is).gives refl (load16s_at p t v b its_known) (λ ty ts a. a.children)
          (λ os f. (W32, W32, f))
      code_has opcode.Load is plain =
          load_has opcode.Load op.Load Whole v.ty (extent_bytes Whole (width_of v.ty)) is refl refl refl (load_at p t v b its_known) (λ ty ts a. a.children)
          (λ os f. (width_of v.ty, W64, whole_load (width_of v.ty) os f))
      code_has opcode.Store8 is plain =
          store_has opcode.Store8 op.Store8 Byte (This Int32) is refl refl ((λ k. refl), refl) (store8_at p t v b its_known) (λ ty ts a. a.children)
          (λ alike ty e void. int_some (sym e ∙ void)) (λ alike ty e os f. (W32, W32, subst (λ (u : Ty). AllFit (store (width_of u) 1) os) e f))
      code_has opcode.Store16 is plain =
          store_has opcode.Store16 op.Store16 Half (This Int32) is refl refl ((λ k. refl), refl) (store16_at p t v b its_known) (λ ty ts a. a.children)
          (λ alike ty e void. int_some (sym e ∙ void)) (λ alike ty e os f. (W32, W32, subst (λ (u : Ty). AllFit (store (width_of u) 2) os) e f))
      code_has opcode.Store is plain =
          store_has opcode.Store op.Store Whole Any is refl refl ((λ k. refl), refl) (store_at p t v b its_known) (λ ty ts a. a.children) (λ alike ty e. e)
          (λ alike ty e os f. (width_of ty, W64, whole_store (width_of ty) os f))
      code_has opcode.CCall is plain = call_has is
      code_has opcode.Mod is plain =
          let h = row opcode.Mod is in
          let d = split opcode.Mod is refl ((λ k. refl), refl) ((λ k. refl), refl) h.alike h.typed refl h.children h.gives in
          remainder_has op.Div (λ w os f. (w, w, f)) d.dividend d.divisor v.kind.chill
      code_has opcode.UMod is plain =
          let h = row opcode.UMod is in
          let d = split opcode.UMod is refl ((λ k. refl), refl) ((λ k. refl), refl) h.alike h.typed refl h.children h.gives in
          remainder_has op.UDiv (λ w os f. (w, w, f)) d.dividend d.divisor v.kind.chill
      code_has opcode.RotL is plain = rotated (row opcode.RotL is) is
      code_has opcode.Select is plain =
          let h = row opcode.Select is in
          All-one Has (inst v (op.SelectIf (condition_of t (child v.children 0)).test)
          ((condition_of t (child v.children 0)).over ++ use_of t (child v.children 1) ∷ use_of t (child v.children 2) ∷ result_of t v ∷ []))
          (select_has is h.alike h.typed h.gives h.children)
      code_has opcode.Jump is plain = All-one Has (inst v op.Jump []) (W64, W64, fit_none)
      code_has opcode.Oops is plain = All-one Has (inst v op.Oops []) (W64, W64, fit_none)
      code_has opcode.Branch is plain =
          All-one Has (inst v (op.BranchIf (condition_of t (child v.children 0)).test) (condition_of t (child v.children 0)).over)
          (branch_has is (any_child (row opcode.Branch is).alike (row opcode.Branch is).children))
      code_has opcode.Switch is plain =
          All-one Has (inst v (op.Switch (cases_in v.body)) (use_of t (child v.children 0) ∷ []))
          (switch_has is (any_child (row opcode.Switch is).alike (row opcode.Switch is).children))
      code_has opcode.Return is plain = return_has is v.children refl
      code_has opcode.Add is plain =
          let h = row opcode.Add is in
          let free : is_pointer t.index (pointers p) v.id ≡ false = sound.pointer b v here (ap is_add is) ∙ un in
          one_has op.Add (
            width_of h.alike,
            W64,
            pair opcode.Add is refl ((λ k. refl), refl) ((λ k. ap (λ c. c && is_index t.index k) free), free) h.alike h.alike h.typed h.children h.gives,
          )
      code_has opcode.Sub is plain = let h = row opcode.Sub is in one_has op.Sub
          (width_of h.alike, W64, pair opcode.Sub is refl ((λ k. refl), refl) ((λ k. refl), refl) h.alike h.alike h.typed h.children h.gives)
      code_has opcode.Mul is plain = let h = row opcode.Mul is in one_has op.Mul
          (width_of h.alike, W64, pair opcode.Mul is refl ((λ k. refl), refl) ((λ k. refl), refl) h.alike h.alike h.typed h.children h.gives)
      code_has opcode.BitAnd is plain = let h = row opcode.BitAnd is in one_has op.And
          (width_of h.alike, W64, pair opcode.BitAnd is refl ((λ k. refl), refl) ((λ k. refl), refl) h.alike h.alike h.typed h.children h.gives)
      code_has opcode.BitOr is plain = let h = row opcode.BitOr is in one_has op.Or
          (width_of h.alike, W64, pair opcode.BitOr is refl ((λ k. refl), refl) ((λ k. refl), refl) h.alike h.alike h.typed h.children h.gives)
      code_has opcode.BitXor is plain = let h = row opcode.BitXor is in one_has op.Xor
          (width_of h.alike, W64, pair opcode.BitXor is refl ((λ k. refl), refl) ((λ k. refl), refl) h.alike h.alike h.typed h.children h.gives)
      code_has opcode.Div is plain = let h = row opcode.Div is in one_has op.Div
          (width_of h.alike, W64, pair opcode.Div is refl ((λ k. refl), refl) ((λ k. refl), refl) h.alike h.alike h.typed h.children h.gives)
      code_has opcode.UDiv is plain = let h = row opcode.UDiv is in one_has op.UDiv
          (width_of h.alike, W64, pair opcode.UDiv is refl ((λ k. refl), refl) ((λ k. refl), refl) h.alike h.alike h.typed h.children h.gives)
      code_has opcode.Shl is plain = let h = row opcode.Shl is in one_has op.Lsl
          (width_of h.alike, W64, amount opcode.Shl is refl ((λ k. refl), refl) ((λ k. refl), refl) h.alike h.typed h.children h.gives)
      code_has opcode.SShr is plain = let h = row opcode.SShr is in one_has op.Asr
          (width_of h.alike, W64, amount opcode.SShr is refl ((λ k. refl), refl) ((λ k. refl), refl) h.alike h.typed h.children h.gives)
      code_has opcode.ZShr is plain = let h = row opcode.ZShr is in one_has op.Lsr
          (width_of h.alike, W64, amount opcode.ZShr is refl ((λ k. refl), refl) ((λ k. refl), refl) h.alike h.typed h.children h.gives)
      code_has opcode.RotR is plain = let h = row opcode.RotR is in one_has op.Ror
          (width_of h.alike, W64, amount opcode.RotR is refl ((λ k. refl), refl) ((λ k. refl), refl) h.alike h.typed h.children h.gives)
      code_has opcode.Neg is plain = let h = row opcode.Neg is in one_has op.Neg
          (width_of h.alike, W64, single opcode.Neg is refl ((λ k. refl), refl) ((λ k. refl), refl) h.alike h.typed h.children h.gives)
      code_has opcode.Clz is plain = let h = row opcode.Clz is in one_has op.Clz
          (width_of h.alike, W64, single opcode.Clz is refl ((λ k. refl), refl) ((λ k. refl), refl) h.alike h.typed h.children h.gives)
      code_has opcode.SExt8 is plain = let h = row opcode.SExt8 is in one_has op.SExt8
          (W64, W64, from opcode.SExt8 is refl ((λ k. refl), refl) ((λ k. refl), refl) h.alike Int32 Int32 int_some h.children h.gives)
      code_has opcode.SExt16 is plain = let h = row opcode.SExt16 is in one_has op.SExt16
          (W64, W64, from opcode.SExt16 is refl ((λ k. refl), refl) ((λ k. refl), refl) h.alike Int32 Int32 int_some h.children h.gives)
      code_has opcode.SExt32 is plain = let h = row opcode.SExt32 is in one_has op.SExt32
          (W64, W64, from opcode.SExt32 is refl ((λ k. refl), refl) ((λ k. refl), refl) h.alike Int32 Int64 int_some h.children h.gives)
      code_has opcode.ZExt32 is plain = let h = row opcode.ZExt32 is in one_has op.ZExt32
          (W64, W64, from opcode.ZExt32 is refl ((λ k. refl), refl) ((λ k. refl), refl) h.alike Int32 Int64 int_some h.children h.gives)
      code_has opcode.Identity is plain =
          let h = row opcode.Identity is in
          one_has op.Move (
            width_of h.alike,
            W64,
            moved (width_of h.alike) (map (use_of t) v.children) (result_of t v)
                (single opcode.Identity is refl ((λ k. refl), refl) ((λ k. refl), refl) h.alike h.typed h.children h.gives),
          )
      code_has opcode.Equal is plain = let h = row opcode.Equal is in one_has (op_of opcode.Equal)
          (width_of h.alike, W64, pair opcode.Equal is refl ((λ k. refl), refl) ((λ k. refl), refl) h.alike Int32 h.typed h.children h.gives)
      code_has opcode.NotEqual is plain = let h = row opcode.NotEqual is in one_has (op_of opcode.NotEqual)
          (width_of h.alike, W64, pair opcode.NotEqual is refl ((λ k. refl), refl) ((λ k. refl), refl) h.alike Int32 h.typed h.children h.gives)
      code_has opcode.LessThan is plain = let h = row opcode.LessThan is in one_has (op_of opcode.LessThan)
          (width_of h.alike, W64, pair opcode.LessThan is refl ((λ k. refl), refl) ((λ k. refl), refl) h.alike Int32 h.typed h.children h.gives)
      code_has opcode.GreaterThan is plain = let h =
          row opcode.GreaterThan is in one_has (op_of opcode.GreaterThan)
          (width_of h.alike, W64, pair opcode.GreaterThan is refl ((λ k. refl), refl) ((λ k. refl), refl) h.alike Int32 h.typed h.children h.gives)
      code_has opcode.LessEqual is plain = let h = row opcode.LessEqual is in one_has (op_of opcode.LessEqual)
          (width_of h.alike, W64, pair opcode.LessEqual is refl ((λ k. refl), refl) ((λ k. refl), refl) h.alike Int32 h.typed h.children h.gives)
      code_has opcode.GreaterEqual is plain = let h =
          row opcode.GreaterEqual is in one_has (op_of opcode.GreaterEqual)
          (width_of h.alike, W64, pair opcode.GreaterEqual is refl ((λ k. refl), refl) ((λ k. refl), refl) h.alike Int32 h.typed h.children h.gives)
      code_has opcode.Above is plain = let h = row opcode.Above is in one_has (op_of opcode.Above)
          (width_of h.alike, W64, pair opcode.Above is refl ((λ k. refl), refl) ((λ k. refl), refl) h.alike Int32 h.typed h.children h.gives)
      code_has opcode.Below is plain = let h = row opcode.Below is in one_has (op_of opcode.Below)
          (width_of h.alike, W64, pair opcode.Below is refl ((λ k. refl), refl) ((λ k. refl), refl) h.alike Int32 h.typed h.children h.gives)
      code_has opcode.AboveEqual is plain = let h =
          row opcode.AboveEqual is in one_has (op_of opcode.AboveEqual)
          (width_of h.alike, W64, pair opcode.AboveEqual is refl ((λ k. refl), refl) ((λ k. refl), refl) h.alike Int32 h.typed h.children h.gives)
      code_has opcode.BelowEqual is plain = let h =
          row opcode.BelowEqual is in one_has (op_of opcode.BelowEqual)
          (width_of h.alike, W64, pair opcode.BelowEqual is refl ((λ k. refl), refl) ((λ k. refl), refl) h.alike Int32 h.typed h.children h.gives)
      code_has _ is plain = absurd cc
