-- The numbers below a bound as a list.
use Rattle.std.proofs.Common.{◌≡◌, ℕ, ◌+◌, ◌<◌, ◌↔◌, inl, inr, List, [], ◌∷◌, ◌++◌, arith, sym, subst}
use Rattle.std.specs.Prelude.{Contains}
use Rattle.std.proofs.lemmas.Bool.{cases_lt}
use Rattle.std.proofs.lemmas.List.Elements.{Contains-append_left, Contains-push, Contains-push_cases}

pub numbers_none : (items : List ℕ) → items ≡ [] → (x : ℕ) → Contains items x ↔ (x < 0)
numbers_none items e x = (
  λ there. absurd (let lt = (subst (λ (l : List ℕ). Contains l x) e there).1 in omega (arith, lt)),
  λ lt. absurd (omega (arith, lt)),
)

pub numbers_more : (items items' : List ℕ) (j : ℕ) → items' ≡ items ++ j ∷ [] → ((x : ℕ) → Contains items x ↔ (x < j))
    → (x : ℕ) → Contains items' x ↔ (x < j + 1)
numbers_more items items' j e are x = (
  λ there. elim (Contains-push_cases items j x (subst (λ (l : List ℕ). Contains l x) e there)) [
    | inl old ↦ let lt = (are x).0 old in omega (arith, lt)
    | inr s ↦ omega (arith, s)
  ],
  λ lt. subst (λ (l : List ℕ). Contains l x) (sym e) (elim (cases_lt x j) [
    | inl less ↦ Contains-append_left items (j ∷ []) x ((are x).1 less)
    | inr le ↦ let s : j ≡ x = omega (arith, lt, le) in subst (λ (z : ℕ). Contains (items ++ j ∷ []) z) s (Contains-push items j)
  ]),
)
