-- The numbers of some items, in a set.
use Rattle.std.proofs.Common.{◌≡◌, ℕ, ◌+◌, ◌<◌, ◌↔◌, inl, inr, Bool, true, false, cond, List, length, Some, sym, ap, subst, ◌∙◌, arith}
use Rattle.std.specs.Prelude.{IsTrue, nat_eq, slice_get}
use Rattle.std.proofs.lemmas.Bool.{cases_Bool, cases_order, eq-eqb, eqb-true, false≢true}
use Rattle.std.proofs.lemmas.Option.{slice_get_within}

module _ {A : Type 0} (number : A → ℕ) (xs : List A) where
  -- the numbers of the items before a place
  abbrev pub AreBelow : ℕ → (ℕ → Bool) → Type 0
  AreBelow n has = (q : ℕ) → IsTrue (has q) ↔ ((k : ℕ) × (x : A) × (k < n) × (slice_get xs k ≡ Some x) × (number x ≡ q))

  pub none_below : (has : ℕ → Bool) → ((q : ℕ) → has q ≡ false) → AreBelow 0 has
  none_below has empty q = (λ yes. absurd (false≢true (sym (empty q) ∙ yes)), λ h. absurd (omega (arith, h.2)))

  pub more_below : (has next : ℕ → Bool) (n : ℕ) (x : A) → AreBelow n has → slice_get xs n ≡ Some x → ((q : ℕ) → next q ≡ cond (nat_eq (number x) q) true (has q)) → AreBelow (n + 1) next
  more_below has next n x below there are q =
      elim (cases_Bool (nat_eq (number x) q)) [
        | inl same ↦ (
          λ _. (n, x, omega arith, there, eqb-true (number x) q same),
          λ _. are q ∙ ap (λ (t : Bool). cond t true (has q)) same,
        )
        | inr other ↦
            let now : next q ≡ has q = are q ∙ ap (λ (t : Bool). cond t true (has q)) other in (
              λ yes. let h = (below q).0 (sym now ∙ yes) in (h.0, h.1, omega (arith, h.2), h.3, h.4),
              λ h. now ∙ (below q).1 (elim (cases_order h.0 n) [
                | inl here ↦
                    let at : slice_get xs n ≡ Some h.1 = subst (λ (k : ℕ). slice_get xs k ≡ Some h.1) here h.3 in
                    let one : x ≡ h.1 = cc in
                    absurd (false≢true (sym other ∙ eq-eqb (number x) q (ap number one ∙ h.4)))
                | inr apart ↦ elim apart [ inl less ↦ (h.0, h.1, less, h.3, h.4) | inr more ↦ absurd (omega (arith, h.2)) ]
              ]),
            )
      ]

  pub all_below : (has : ℕ → Bool) (n : ℕ) → n ≡ length xs → AreBelow n has → (q : ℕ) → IsTrue (has q) ↔ ((k : ℕ) × (x : A) × (slice_get xs k ≡ Some x) × (number x ≡ q))
  all_below has n all below q = (
    λ yes. let h = (below q).0 yes in (h.0, h.1, h.3, h.4),
    λ h. (below q).1 (h.0, h.1, omega (arith, slice_get_within xs h.0 h.1 h.2), h.2, h.3),
  )
