-- What the place of an id in a list of entries tells.
use Rattle.std.proofs.Common.{◌≡◌, ◌⊎◌, ℕ, zero, suc, ◌<◌, ◌≤◌, ◌==◌, true, false, List, [], ◌∷◌, ◌++◌, length, map, Option, Some, None, slice_get, insert, remove, set, refl, sym, ap, subst, inl, inr, arith, drop}
use Rattle.std.proofs.lemmas.Bool.Decides.{nat_tests}
use Rattle.std.proofs.lemmas.Option.{slice_get_cases}
use Rattle.std.proofs.lemmas.List.{length-map, drop_all}
use Rattle.std.proofs.lemmas.Bool.{eq-eqb}
use Rattle.b3_ir.specs.Procedure.{place_among, place_of}
use Rattle.ir_arena.specs.Chains.{item_in, inserted, without, with_item, first_id, last_id, next_in, before_in, Differ}
use Rattle.ir_arena.proofs.ListLemmas.{test_id, without-absent, with_item-absent}

module _ {T : Type 0} where
  abbrev pub ids : List (ℕ × T) → List ℕ
  ids es = map (λ (e : ℕ × T). e.0) es

  abbrev pub items : List (ℕ × T) → List T
  items es = map (λ (e : ℕ × T). e.1) es

  -- an id with a place has an item
  pub known : (es : List (ℕ × T)) (k id : ℕ) → slice_get (ids es) k ≡ Some id → (v : T) × (item_in es id ≡ Some v)
  known [] k id h = absurd (cc)
  known (e ∷ es) zero id h = let t : (e.0 == id) ≡ true = eq-eqb e.0 id (cc) in (e.1, rw t)
  known (e ∷ es) (suc k) id h =
      elim (test_id e.0 id) [
        | inl t ↦ (e.1, rw t.1)
        | inr t ↦ let r = known es k id h in (r.0, rw t.1 r.1)
      ]

  -- it isn't the first where it has a later place
  other : (e : ℕ × T) (es : List (ℕ × T)) (k id : ℕ) → item_in es e.0 ≡ None → slice_get (ids es) k ≡ Some id → (e.0 == id) ≡ false
  other e es k id none h =
      elim (test_id e.0 id) [
        | inl t ↦ let r = known es k id h in let there : item_in es e.0 ≡ Some r.0 = rw t.0 r.1 in absurd (cc)
        | inr t ↦ t.1
      ]

  pub item_at : (es : List (ℕ × T)) (k id : ℕ) → Differ es → slice_get (ids es) k ≡ Some id → item_in es id ≡ slice_get (items es) k
  item_at [] k id d h = absurd (cc)
  item_at (e ∷ es) zero id d h = let t : (e.0 == id) ≡ true = eq-eqb e.0 id (cc) in rw t
  item_at (e ∷ es) (suc k) id d h = rw (other e es k id d.0 h) (item_at es k id d.1 h)

  -- an id has one place
  pub one_place : (es : List (ℕ × T)) (j k id : ℕ) → Differ es → slice_get (ids es) j ≡ Some id → slice_get (ids es) k ≡ Some id → j ≡ k
  one_place [] j k id d g h = absurd (cc)
  one_place (e ∷ es) zero zero id d g h = refl
  one_place (e ∷ es) zero (suc k) id d g h = let t : (e.0 == id) ≡ true = eq-eqb e.0 id (cc) in let n = other e es k id d.0 h in absurd (cc)
  one_place (e ∷ es) (suc j) zero id d g h = let t : (e.0 == id) ≡ true = eq-eqb e.0 id (cc) in let n = other e es j id d.0 g in absurd (cc)
  one_place (e ∷ es) (suc j) (suc k) id d g h = ap suc (one_place es j k id d.1 g h)

  place_found : (es : List (ℕ × T)) (k id : ℕ) → Differ es → slice_get (ids es) k ≡ Some id → place_among (ids es) id ≡ k
  place_found [] k id d h = absurd (cc)
  place_found (e ∷ es) zero id d h = let t : (e.0 == id) ≡ true = eq-eqb e.0 id (cc) in rw t
  place_found (e ∷ es) (suc k) id d h = rw (other e es k id d.0 h) (ap suc (place_found es k id d.1 h))

  -- what stands at a place has that place
  pub place_is : (es : List (ℕ × T)) (k : ℕ) → Differ es → k ≤ length (ids es) → place_of (ids es) (slice_get (ids es) k) ≡ k
  place_is es k d le = by_case (slice_get (ids es) k) refl
    where
      by_case : (o : Option ℕ) → slice_get (ids es) k ≡ o → place_of (ids es) o ≡ k
      by_case (Some id) is = place_found es k id d is
      by_case None is =
          elim (slice_get_cases (ids es) k).1 [
            | inl s ↦ let there = s.2 in absurd (cc)
            | inr s ↦ let past = s.0 in omega arith
          ]

  -- the items from an id on
  abbrev pub items_from : List ℕ → List T → Option ℕ → List T
  items_from ns vs None = []
  items_from ns vs (Some id) = drop (place_among ns id) vs

  pub from_is : (es : List (ℕ × T)) (k : ℕ) → Differ es → items_from (ids es) (items es) (slice_get (ids es) k) ≡ drop k (items es)
  from_is es k d = by_case (slice_get (ids es) k) refl
    where
      by_case : (o : Option ℕ) → slice_get (ids es) k ≡ o → items_from (ids es) (items es) o ≡ drop k (items es)
      by_case (Some id) is = ap (λ (n : ℕ). drop n (items es)) (place_found es k id d is)
      by_case None is =
          elim (slice_get_cases (ids es) k).1 [
            | inl s ↦ let there = s.2 in absurd (cc)
            | inr s ↦
                let one = length-map es (λ (e : ℕ × T). e.0) in
                let two = length-map es (λ (e : ℕ × T). e.1) in
                let past = s.0 in
                sym (drop_all k (items es) (omega (arith, one, two)))
          ]

  pub first_at : (es : List (ℕ × T)) → first_id es ≡ slice_get (ids es) 0
  first_at [] = refl
  first_at (e ∷ es) = refl

  pub next_at : (es : List (ℕ × T)) (k id : ℕ) → Differ es → slice_get (ids es) k ≡ Some id → next_in es id ≡ slice_get (ids es) (suc k)
  next_at [] k id d h = absurd (cc)
  next_at (e ∷ es) zero id d h = let t : (e.0 == id) ≡ true = eq-eqb e.0 id (cc) in rw t (first_at es)
  next_at (e ∷ es) (suc k) id d h = rw (other e es k id d.0 h) (next_at es k id d.1 h)

  pub without_at : (es : List (ℕ × T)) (k id : ℕ) → Differ es → slice_get (ids es) k ≡ Some id → without id es ≡ remove es k
  without_at [] k id d h = absurd (cc)
  without_at (e ∷ es) zero id d h =
      let is : e.0 ≡ id = cc in
      let t : (e.0 == id) ≡ true = eq-eqb e.0 id is in
      let none : item_in es id ≡ None = rw (← is) d.0 in
      rw t (without-absent id es none)
  without_at (e ∷ es) (suc k) id d h = rw (other e es k id d.0 h) (ap (λ (l : List (ℕ × T)). e ∷ l) (without_at es k id d.1 h))

  pub with_at : (es : List (ℕ × T)) (k id : ℕ) (v : T) → Differ es → slice_get (ids es) k ≡ Some id → with_item id v es ≡ set es k (id, v)
  with_at [] k id v d h = absurd (cc)
  with_at (e ∷ es) zero id v d h =
      let is : e.0 ≡ id = cc in
      let t : (e.0 == id) ≡ true = eq-eqb e.0 id is in
      let none : item_in es id ≡ None = rw (← is) d.0 in
      rw t (ap (λ (l : List (ℕ × T)). (id, v) ∷ l) (with_item-absent id v es none))
  with_at (e ∷ es) (suc k) id v d h = rw (other e es k id d.0 h) (ap (λ (l : List (ℕ × T)). e ∷ l) (with_at es k id v d.1 h))

  -- what stands before a later place, or last, is one of the list
  before_known : (e : ℕ × T) (es : List (ℕ × T)) (k id : ℕ) → Differ es → slice_get (ids es) k ≡ Some id → (b : ℕ) × (v : T) × (before_in (Some e.0) es id ≡ Some b) × (item_in (e ∷ es) b ≡ Some v)
  before_known e [] k id d h = absurd (cc)
  before_known e (f ∷ es) zero id d h =
      let t : (f.0 == id) ≡ true = eq-eqb f.0 id (cc) in
      let own : (e.0 == e.0) ≡ true = eq-eqb e.0 e.0 refl in (e.0, e.1, rw t, rw own)
  before_known e (f ∷ es) (suc k) id d h =
      let r = before_known f es k id d.1 h in
      elim (test_id e.0 r.0) [
        | inl t ↦ (r.0, e.1, rw (other f es k id d.0 h) r.2, rw t.1)
        | inr t ↦ (r.0, r.1, rw (other f es k id d.0 h) r.2, rw t.1 r.3)
      ]

  last_known : (e : ℕ × T) (es : List (ℕ × T)) → (b : ℕ) × (v : T) × (last_id (Some e.0) es ≡ Some b) × (item_in (e ∷ es) b ≡ Some v)
  last_known e [] = let own : (e.0 == e.0) ≡ true = eq-eqb e.0 e.0 refl in (e.0, e.1, refl, rw own)
  last_known e (f ∷ es) =
      let r = last_known f es in
      elim (test_id e.0 r.0) [
        | inl t ↦ (r.0, e.1, r.2, rw t.1)
        | inr t ↦ (r.0, r.1, r.2, rw t.1 r.3)
      ]

  apart_from : (e : ℕ × T) (es : List (ℕ × T)) (b : ℕ) (v : T) → item_in es e.0 ≡ None → item_in es b ≡ Some v → (e.0 == b) ≡ false
  apart_from e es b v none some =
      elim (test_id e.0 b) [
        | inl t ↦ let there : item_in es e.0 ≡ Some v = rw t.0 some in absurd (cc)
        | inr t ↦ t.1
      ]

  later_at : (e : ℕ × T) (es : List (ℕ × T)) (k id : ℕ) (entry : ℕ × T) → Differ (e ∷ es) → slice_get (ids es) k ≡ Some id → inserted (e ∷ es) (before_in (Some e.0) es id) entry ≡ e ∷ insert es k entry
  later_at e [] k id entry d h = absurd (cc)
  later_at e (f ∷ es) zero id entry d h =
      let t : (f.0 == id) ≡ true = eq-eqb f.0 id (cc) in
      let own : (e.0 == e.0) ≡ true = eq-eqb e.0 e.0 refl in rw (t, own) refl
  later_at e (f ∷ es) (suc k) id entry d h =
      let r = before_known f es k id d.1.1 h in
      let before : before_in (Some e.0) (f ∷ es) id ≡ Some r.0 = rw (other f es k id d.1.0 h) r.2 in
      let off : (e.0 == r.0) ≡ false = apart_from e (f ∷ es) r.0 r.1 d.0 r.3 in
      let rest : inserted (f ∷ es) (Some r.0) entry ≡ f ∷ insert es k entry = subst (λ (o : Option ℕ). inserted (f ∷ es) o entry ≡ f ∷ insert es k entry) r.2 (later_at f es k id entry d.1 h) in
      rw (before, off) (ap (λ (l : List (ℕ × T)). e ∷ l) rest)

  pub inserted_at : (es : List (ℕ × T)) (k id : ℕ) (entry : ℕ × T) → Differ es → slice_get (ids es) k ≡ Some id → inserted es (before_in None es id) entry ≡ insert es k entry
  inserted_at [] k id entry d h = absurd (cc)
  inserted_at (e ∷ es) zero id entry d h = let t : (e.0 == id) ≡ true = eq-eqb e.0 id (cc) in rw t
  inserted_at (e ∷ es) (suc k) id entry d h = rw (other e es k id d.0 h) (later_at e es k id entry d h)

  last_at : (e : ℕ × T) (es : List (ℕ × T)) (entry : ℕ × T) → Differ (e ∷ es) → inserted (e ∷ es) (last_id (Some e.0) es) entry ≡ (e ∷ es) ++ entry ∷ []
  last_at e [] entry d = let own : (e.0 == e.0) ≡ true = eq-eqb e.0 e.0 refl in rw own
  last_at e (f ∷ es) entry d =
      let r = last_known f es in
      let off : (e.0 == r.0) ≡ false = apart_from e (f ∷ es) r.0 r.1 d.0 r.3 in
      let rest : inserted (f ∷ es) (Some r.0) entry ≡ (f ∷ es) ++ entry ∷ [] = subst (λ (o : Option ℕ). inserted (f ∷ es) o entry ≡ (f ∷ es) ++ entry ∷ []) r.2 (last_at f es entry d.1) in
      rw (r.2, off) (ap (λ (l : List (ℕ × T)). e ∷ l) rest)

  pub pushed_at : (es : List (ℕ × T)) (entry : ℕ × T) → Differ es → inserted es (last_id None es) entry ≡ es ++ entry ∷ []
  pushed_at [] entry d = refl
  pushed_at (e ∷ es) entry d = last_at e es entry d
