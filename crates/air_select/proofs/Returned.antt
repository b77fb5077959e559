-- What a selected procedure returns is what some Return of the procedure has.
use Rattle.std.proofs.Common.{◌≡◌, ◌≢◌, ℕ, zero, suc, ◌<◌, inl, inr, true, false, List, [], ◌∷◌, map, length, Option, Some, None, refl, sym, ap, ◌∙◌, subst, ⊎_elim, arith, nat_eq}
use Rattle.std.specs.Prelude.{Contains, if◌then◌else◌, slice_get, slice_index_or}
use Rattle.std.specs.List.{flat_map}
use Rattle.std.proofs.lemmas.Bool.Decides.{eqb_tells}
use Rattle.std.proofs.lemmas.List.Concat.{flat_map-cons}
use Rattle.std.proofs.lemmas.List.Elements.{Contains-append_cases, Contains-append_left, Contains-append_right}
use Rattle.b3_base.proofs.Lists.{Contains-none, Contains-first, Contains-later, Contains-at}
use Rattle.b3_ir.specs.Naming.{all_values, type_of, type_or_void, value_named, with_id}
use Rattle.b3_ir.specs.Procedure.{Block, Procedure, StandsAt, no_block, values_of}
use Rattle.b3_ir.specs.Types.{AllowsTypes, AreMore}
use Rattle.b3_ir.specs.Table.{row_of}
use Rattle.b3_ir.specs.declared.opcode.Opcode.{Opcode}
use Rattle.b3_ir.specs.declared.opcode.Opcode.TheVariants.{Return}
use Rattle.b3_ir.specs.declared.opcode.Ty.{Ty}
use Rattle.b3_ir.specs.declared.opcode.Ty.TheVariants.{Void, Int32, Int64}
use Rattle.b3_ir.specs.declared.value.Value.{Value}
use Rattle.b3_ir.proofs.Typing.{allowed}
use Rattle.b3_rules.specs.Rules.{first_return, if_return, types_of}
use Rattle.b3_sound.proofs.Distinct.{stands}
use Rattle.b3_sound.proofs.Kept.{IsKept}
use Rattle.stackmap.specs.declared.site.Returns.{Returns}
use Rattle.stackmap.specs.declared.site.Returns.TheVariants as returns
use Rattle.air_select.specs.Contract.{ReturnsType}
use Rattle.air_select.specs.Selected.{returns_by, returns_child, returns_type, selected, selected_by}
use Rattle.air_fold.specs.Values.{Index, index_of, known}

-- ---- where values stand
pub at_place : {X : Type 0} (xs : List X) (k : ℕ) (x : X) → k < length xs → slice_index_or xs k x ≡ x → slice_get xs k ≡ Some x
at_place [] k x lt e = absurd (omega (arith, lt))
at_place (y ∷ ys) zero x lt e = ap Some e
at_place (y ∷ ys) (suc k) x lt e = at_place ys k x (omega (arith, lt)) e

values_in : List Block → ℕ → List Value
values_in blocks b = (slice_index_or blocks b no_block).values

all_in : List Block → List Value
all_in blocks = flat_map (λ (b : Block). b.values) blocks

in_some_block : (blocks : List Block) (v : Value) → Contains (all_in blocks) v → (b : ℕ) × Contains (values_in blocks b) v
unfolding all_in values_in
in_some_block [] v has = absurd (Contains-none v has)
in_some_block (block ∷ blocks) v has =
    elim (Contains-append_cases block.values (all_in blocks) v (subst (λ l. Contains l v) (flat_map-cons (λ (b : Block). b.values) block blocks) has)) [
      | inl here ↦ (0, here)
      | inr more ↦ let there = in_some_block blocks v more in (suc there.0, there.1)
    ]

in_list : (blocks : List Block) (b : ℕ) (v : Value) → Contains (values_in blocks b) v → Contains (all_in blocks) v
unfolding all_in values_in
in_list [] b v has = absurd (Contains-none v has)
in_list (block ∷ blocks) zero v has = rw (flat_map-cons (λ (b : Block). b.values) block blocks) (Contains-append_left block.values (all_in blocks) v has)
in_list (block ∷ blocks) (suc b) v has =
    rw (flat_map-cons (λ (b : Block). b.values) block blocks) (Contains-append_right block.values (all_in blocks) v (in_list blocks b v has))

-- a value of a block is one of the procedure
pub in_all : (p : Procedure) (b : ℕ) (v : Value) → Contains (values_of p b) v → Contains (all_values p) v
unfolding all_in values_in
in_all p b v has = in_list p.blocks b v has

-- a value of the procedure stands at a place of a block
pub stands_somewhere : (p : Procedure) (v : Value) → Contains (all_values p) v → (b : ℕ) × (k : ℕ) × StandsAt p b k v
unfolding all_in values_in
stands_somewhere p v has =
    let there = in_some_block p.blocks v has in
    (there.0, there.1.0, at_place (values_of p there.0) there.1.0 v there.1.1 there.1.2)

pub id_found : (id : ℕ) (vs : List Value) (v : Value) → with_id id vs ≡ Some v → Contains vs v × (v.id ≡ id)
id_found id [] v e = absurd cc
id_found id (w ∷ vs) v e =
    ⊎_elim
    (λ (yes : (nat_eq w.id id ≡ true) × (w.id ≡ id)).
    let same : Some w ≡ Some v = subst (λ b. (if b then Some w else with_id id vs) ≡ Some v) yes.0 e in
    let it : w ≡ v = cc in
    (subst (Contains (w ∷ vs)) it (Contains-first w vs), ap (λ (x : Value). x.id) (sym it) ∙ yes.1))
    (λ (no_ : (nat_eq w.id id ≡ false) × (w.id ≢ id)).
    let rest = id_found id vs v (subst (λ b. (if b then Some w else with_id id vs) ≡ Some v) no_.0 e) in
    (Contains-later w vs v rest.0, rest.1))
    (eqb_tells w.id id)

-- an id of a type other than Void names a value of that type
pub named_of : (id : ℕ) (found : Option Value) (ty : Ty) → type_or_void found ≡ ty → ty ≢ Void → (v : Value) × (found ≡ Some v) × (v.ty ≡ ty)
named_of id (Some v) ty e some = (v, refl, e)
named_of id None ty e some = absurd (some (sym e))

abbrev IsFound : Value → List Value → Value → Type 0
IsFound w vs v = Contains (w ∷ vs) v × (v.kind.opcode ≡ Return)

return_by : (w : Value) (vs : List Value) (v : Value) → (first_return vs ≡ Some v → IsFound w vs v)
    → (o : Opcode) → w.kind.opcode ≡ o → if_return o w (first_return vs) ≡ Some v → IsFound w vs v
return_by w vs v later Return is e =
    let it : w ≡ v = cc in
    (subst (Contains (w ∷ vs)) it (Contains-first w vs), ap (λ (x : Value). x.kind.opcode) (sym it) ∙ is)
return_by w vs v later _ is e = later e

pub return_found : (vs : List Value) (v : Value) → first_return vs ≡ Some v → Contains vs v × (v.kind.opcode ≡ Return)
return_found [] v e = absurd cc
return_found (w ∷ vs) v e =
    return_by w vs v (λ later. let rest = return_found vs v later in (Contains-later w vs v rest.0, rest.1)) w.kind.opcode refl e

-- ---- what is returned

one_child : (ty : ℕ → Ty) (c : ℕ) (cs : List ℕ) → AreMore (row_of Return).more (map ty (c ∷ cs)) → (cs ≡ []) × (ty c ≢ Void)
one_child ty c [] (inl none) = absurd cc
one_child ty c [] (inr some) = let same : ty c ≡ some.0 = cc in (refl, λ void. some.1 (sym same ∙ void))
one_child ty c (d ∷ cs) (inl none) = absurd cc
one_child ty c (d ∷ cs) (inr some) = absurd cc

wide_type : (ty : Ty) → returns_type ty ≡ returns.W32 → ty ≡ Int32
wide_type Int32 e = refl
wide_type Int64 e = absurd cc
wide_type Void e = absurd cc

narrow_type : (ty : Ty) → ty ≢ Void → returns_type ty ≡ returns.W64 → ty ≡ Int64
narrow_type Int32 some e = absurd cc
narrow_type Int64 some e = refl
narrow_type Void some e = absurd (some refl)

returned_child : (p : Procedure) → IsKept p → (b k : ℕ) (v : Value) (c : ℕ) (cs : List ℕ) (ty : Ty) → StandsAt p b k v
    → v.kind.opcode ≡ Return → v.children ≡ c ∷ cs → (type_of p c ≢ Void → type_of p c ≡ ty) → ReturnsType p ty
returned_child p kept b k v c cs ty at is children typed =
    let in_block : Contains (values_of p b) v = Contains-at (values_of p b) k v at in
    let st = stands p b v in_block in
    let rules = kept.rules b st.0 v st.1 in
    let row : AllowsTypes Return v.ty (types_of p v) =
    subst (λ o. AllowsTypes o v.ty (types_of p v)) is (allowed v.kind.opcode v.ty (types_of p v) rules.typed) in
    let more : AreMore (row_of Return).more (map (type_of p) (c ∷ cs)) =
    subst (λ (l : List ℕ). AreMore (row_of Return).more (map (type_of p) l)) children row.children in
    let one = one_child (type_of p) c cs more in
    let named = named_of c (value_named p c) (type_of p c) refl one.1 in
    let found = id_found c (all_values p) named.0 named.1 in
    let there = stands_somewhere p named.0 found.0 in
    (b, k, v, c, there.0, there.1, named.0, at, is, children ∙ ap (λ (l : List ℕ). c ∷ l) one.0, there.2, found.1, named.2 ∙ typed one.1)

by_first : (p : Procedure) → IsKept p → (x : Index) → ((id : ℕ) → (known x id).ty ≡ type_of p id) → (r : Returns) (ty : Ty)
    → ((t : Ty) → t ≢ Void → returns_type t ≡ r → t ≡ ty) → r ≢ returns.Nothing
    → (o : Option Value) → first_return (all_values p) ≡ o → returns_by x o ≡ r → ReturnsType p ty
by_first p kept x types r ty from some None first e = absurd (some (sym e))
by_first p kept x types r ty from some (Some v) first e =
    let found = return_found (all_values p) v first in
    let there = stands_somewhere p v found.0 in
    by_children v.children refl there
  where
    by_children : (cs : List ℕ) → v.children ≡ cs → (b : ℕ) × (k : ℕ) × StandsAt p b k v → ReturnsType p ty
    by_children [] is at = absurd (some (sym e ∙ ap (returns_child x) is))
    by_children (c ∷ cs) is at =
        returned_child p kept at.0 at.1 v c cs ty at.2 (return_found (all_values p) v first).1 is
        (λ typed. from (type_of p c) typed (sym (ap returns_type (types c)) ∙ sym (ap (returns_child x) is) ∙ e))

pub returns_32 : (p : Procedure) → IsKept p → ((id : ℕ) → (known (index_of p) id).ty ≡ type_of p id)
    → (selected p).returns ≡ returns.W32 → ReturnsType p Int32
unfolding selected_by
returns_32 p kept types e =
    by_first p kept (index_of p) types returns.W32 Int32 (λ t typed is. wide_type t is) (λ none. cc) (first_return (all_values p)) refl e

pub returns_64 : (p : Procedure) → IsKept p → ((id : ℕ) → (known (index_of p) id).ty ≡ type_of p id)
    → (selected p).returns ≡ returns.W64 → ReturnsType p Int64
unfolding selected_by
returns_64 p kept types e =
    by_first p kept (index_of p) types returns.W64 Int64 narrow_type (λ none. cc) (first_return (all_values p)) refl e
