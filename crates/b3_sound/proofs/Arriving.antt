-- The first time that a path comes to a block, and what that says of the uses in the block.
use Rattle.std.proofs.Common.{◌≡◌, ◌≢◌, ℕ, ◌⊎◌, inl, inr, List, [], ◌∷◌, ◌++◌, ap, ◌∙◌, subst, ⊎_elim}
use Rattle.std.proofs.lemmas.Bool.{cases_eq}
use Rattle.std.proofs.lemmas.List.{append_assoc}
use Rattle.std.proofs.lemmas.List.Elements.{All-contains}
use Rattle.std.specs.Prelude.{Contains}
use Rattle.b3_base.proofs.Lists.{Contains-none, Contains-cases}
use Rattle.b3_ir.specs.declared.value.Value.{Value}
use Rattle.b3_ir.specs.Procedure.{Procedure, values_of}
use Rattle.b3_rules.specs.Paths.{IsPath, IsCovered}
use Rattle.b3_sound.specs.Laws.{StandsAfter}
use Rattle.b3_sound.proofs.Kept.{IsKept}
use Rattle.b3_sound.proofs.Lists.{contains_split, not_longer}
use Rattle.b3_sound.proofs.Distinct.{stands}

-- a path to a block that it didn't pass before
abbrev pub FirstArrival : Procedure → ℕ → Type 0
FirstArrival p b = (passed : List ℕ) × IsPath p passed b × (Contains passed b → ⊥)

-- a path that passed a block came to it a first time
first_of_passed : (p : Procedure) (b : ℕ) (passed : List ℕ) (last : ℕ) → IsPath p passed last → (Contains passed b → ⊥) ⊎ FirstArrival p b
first_of_passed p b [] last path = inl (Contains-none b)
first_of_passed p b (c ∷ passed) last path =
    elim (first_of_passed p b passed c path.1) [
      | inr first ↦ inr first
      | inl never ↦ elim (cases_eq c b) [
        | inl e ↦ inr (passed, subst (λ (x : ℕ). IsPath p passed x) e path.1, never)
        | inr other ↦ inl (λ has. ⊎_elim other never (Contains-cases c passed b has))
      ]
    ]

pub first_arrival : (p : Procedure) (b : ℕ) (passed : List ℕ) → IsPath p passed b → FirstArrival p b
first_arrival p b passed path =
    elim (first_of_passed p b passed b path) [ inl never ↦ (passed, path, never) | inr first ↦ first ]

-- no value of a block defines, at its own place or later, what an earlier value of the block uses
pub not_used_before : (p : Procedure) → IsKept p → (b : ℕ) (passed : List ℕ) → IsPath p passed b → (before more : List Value) (v u : Value) (i : ℕ)
    → StandsAfter p b before v → Contains v.children i → StandsAfter p b (before ++ more) u → i ≢ u.id
not_used_before p valid b passed path before more v u i at_v child at_u same =
    let first = first_arrival p b passed path in
    let covered : IsCovered p b before i = All-contains (IsCovered p b before) v.children i (valid.rules b before v at_v).covered child in
    let d = covered first.0 first.1 in
    let ids : (d.0).id ≡ u.id = d.1 ∙ same in
    ⊎_elim
    (λ (early : Contains before d.0).
    let cut = contains_split before d.0 early in
    let at_d : StandsAfter p b cut.0 d.0 = (cut.1 ++ v ∷ at_v.0, at_v.1 ∙ ap (λ l. l ++ v ∷ at_v.0) cut.2 ∙ append_assoc cut.0 (d.0 ∷ cut.1) (v ∷ at_v.0)) in
    let places : cut.0 ≡ before ++ more = (valid.distinct b b cut.0 (before ++ more) d.0 u at_d at_u ids).1 in
    not_longer cut.0 d.0 (cut.1 ++ more) (places ∙ ap (λ l. l ++ more) cut.2 ∙ append_assoc cut.0 (d.0 ∷ cut.1) more))
    (λ (there : (c : ℕ) × Contains first.0 c × Contains (values_of p c) d.0).
    let at_d = stands p there.0 d.0 there.2 in
    let block : there.0 ≡ b = (valid.distinct there.0 b at_d.0 (before ++ more) d.0 u at_d.1 at_u ids).0 in
    first.2 (subst (λ (c : ℕ). Contains first.0 c) block there.1))
    d.2
