-- A valid procedure has one value of an id.
use Rattle.std.proofs.Common.{◌≡◌, ◌≢◌, ℕ, zero, suc, inl, inr, List, [], ◌∷◌, ◌++◌, true, false, Some, sym, ap, ◌∙◌, subst, ⊎_elim, nat_eq}
use Rattle.std.proofs.lemmas.List.{append_cancel_left}
use Rattle.std.proofs.lemmas.List.Elements.{Contains-append_left, Contains-append_right, Contains-append_cases}
use Rattle.std.proofs.lemmas.Bool.Decides.{eqb_tells}
use Rattle.std.specs.Prelude.{Contains, slice_index_or}
use Rattle.b3_ir.specs.declared.value.Value.{Value}
use Rattle.b3_ir.specs.Naming.{all_values, type_of, type_or_void, value_named, with_id}
use Rattle.b3_ir.specs.Procedure.{Block, Procedure, no_block, values_of}
use Rattle.std.specs.List.{flat_map}
use Rattle.std.proofs.lemmas.List.Concat.{flat_map-cons}
use Rattle.b3_base.proofs.Lists.{Contains-none, Contains-first, Contains-later, Contains-cases}
use Rattle.b3_sound.specs.Laws.{StandsAfter}
use Rattle.b3_sound.proofs.Kept.{HasDistinctIds}
use Rattle.b3_sound.proofs.Lists.{contains_split}

-- a value of a block stands after some values of it
pub stands : (p : Procedure) (b : ℕ) (v : Value) → Contains (values_of p b) v → (before : List Value) × StandsAfter p b before v
stands p b v has = let cut = contains_split (values_of p b) v has in (cut.0, (cut.1, cut.2))

-- two values with one id are one value
head_is : {X : Type 0} (x y : X) (xs ys : List X) → x ∷ xs ≡ y ∷ ys → x ≡ y
head_is x y xs ys e = cc

pub same_value : (p : Procedure) → HasDistinctIds p → (b c : ℕ) (v w : Value) → Contains (values_of p b) v → Contains (values_of p c) w → v.id ≡ w.id → v ≡ w
same_value p valid b c v w in_b in_c e =
    let x = stands p b v in_b in
    let y = stands p c w in_c in
    let same = valid b c x.0 y.0 v w x.1 y.1 e in
    let blocks : values_of p b ≡ values_of p c = ap (values_of p) same.0 in
    let left : values_of p b ≡ x.0 ++ v ∷ x.1.0 = x.1.1 in
    let right : values_of p c ≡ x.0 ++ w ∷ y.1.0 = subst (λ l. values_of p c ≡ l ++ w ∷ y.1.0) (sym same.1) y.1.1 in
    let lists : x.0 ++ v ∷ x.1.0 ≡ x.0 ++ w ∷ y.1.0 = sym left ∙ blocks ∙ right in
    head_is v w x.1.0 y.1.0 (append_cancel_left x.0 (v ∷ x.1.0) (w ∷ y.1.0) lists)

-- the value that an id names is the one with this id
with_id_value : (vs : List Value) (v : Value) → Contains vs v → ((w : Value) → Contains vs w → w.id ≡ v.id → w ≡ v) → with_id v.id vs ≡ Some v
with_id_value [] v has one = absurd (Contains-none v has)
with_id_value (u ∷ vs) v has one =
    ⊎_elim
    (λ (yes : (nat_eq u.id v.id ≡ true) × (u.id ≡ v.id)).
    rw yes.0 (ap Some (one u (Contains-first u vs) yes.1)))
    (λ (no : (nat_eq u.id v.id ≡ false) × (u.id ≢ v.id)).
    rw no.0 (⊎_elim
    (λ (e : u ≡ v). absurd (no.1 (ap (λ (w : Value). w.id) e)))
    (λ more. with_id_value vs v more (λ w h. one w (Contains-later u vs w h)))
    (Contains-cases u vs v has)))
    (eqb_tells u.id v.id)

abbrev values_in : List Block → ℕ → List Value
values_in blocks b = (slice_index_or blocks b no_block).values

abbrev all_in : List Block → List Value
all_in blocks = flat_map (λ (b : Block). b.values) blocks

in_all : (blocks : List Block) (b : ℕ) (v : Value) → Contains (values_in blocks b) v → Contains (all_in blocks) v
in_all [] b v has = absurd (Contains-none v has)
in_all (block ∷ blocks) zero v has = rw (flat_map-cons (λ (b : Block). b.values) block blocks) (Contains-append_left block.values (all_in blocks) v has)
in_all (block ∷ blocks) (suc b) v has =
    rw (flat_map-cons (λ (b : Block). b.values) block blocks) (Contains-append_right block.values (all_in blocks) v (in_all blocks b v has))

in_some_block : (blocks : List Block) (v : Value) → Contains (all_in blocks) v → (b : ℕ) × Contains (values_in blocks b) v
in_some_block [] v has = absurd (Contains-none v has)
in_some_block (block ∷ blocks) v has =
    elim (Contains-append_cases block.values (all_in blocks) v (subst (λ l. Contains l v) (flat_map-cons (λ (b : Block). b.values) block blocks) has)) [
      | inl here ↦ (0, here)
      | inr more ↦ let there = in_some_block blocks v more in (suc there.0, there.1)
    ]

pub value_of_id : (p : Procedure) → HasDistinctIds p → (b : ℕ) (v : Value) → Contains (values_of p b) v → value_named p v.id ≡ Some v
value_of_id p valid b v has =
    with_id_value (all_values p) v (in_all p.blocks b v has)
    (λ w in_p e. let there = in_some_block p.blocks w in_p in same_value p valid there.0 b w v there.1 has e)

pub type_of_value : (p : Procedure) → HasDistinctIds p → (b : ℕ) (v : Value) → Contains (values_of p b) v → type_of p v.id ≡ v.ty
type_of_value p valid b v has = ap type_or_void (value_of_id p valid b v has)
