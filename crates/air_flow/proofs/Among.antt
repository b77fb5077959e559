-- Some element of a list.
use Rattle.std.proofs.Common.{◌≡◌, ℕ, zero, suc, ◌<◌, ◌⊎◌, inl, inr, List, [], ◌∷◌, ◌++◌, length, get_or, arith}
use Rattle.std.specs.Prelude.{Contains}

-- something holds of some element
unfoldable pub Among : {A : Type 0} → (A → Type 0) → List A → Type 0
Among P [] = ⊥
Among P (x ∷ xs) = P x ⊎ Among P xs

module _ {A : Type 0} (P : A → Type 0) where
  pub among-left : (xs ys : List A) → Among P xs → Among P (xs ++ ys)
  unfolding Among
  among-left [] ys a = absurd a
  among-left (x ∷ xs) ys (inl a) = inl a
  among-left (x ∷ xs) ys (inr a) = inr (among-left xs ys a)

  pub among-right : (xs ys : List A) → Among P ys → Among P (xs ++ ys)
  unfolding Among
  among-right [] ys a = a
  among-right (x ∷ xs) ys a = inr (among-right xs ys a)

  pub among-append : (xs ys : List A) → Among P (xs ++ ys) → Among P xs ⊎ Among P ys
  unfolding Among
  among-append [] ys a = inr a
  among-append (x ∷ xs) ys (inl a) = inl (inl a)
  among-append (x ∷ xs) ys (inr a) = elim (among-append xs ys a) [ inl b ↦ inl (inr b) | inr b ↦ inr b ]

  -- by its place
  pub index_among : (xs : List A) (d : A) → Among P xs → (k : ℕ) × (k < length xs) × P (get_or xs k d)
  unfolding Among
  index_among [] d a = absurd a
  index_among (x ∷ xs) d (inl a) = (0, omega arith, a)
  index_among (x ∷ xs) d (inr a) = let r = index_among xs d a in (suc r.0, omega (arith, r.1), r.2)

  pub among_index : (xs : List A) (d : A) (k : ℕ) → k < length xs → P (get_or xs k d) → Among P xs
  unfolding Among
  among_index [] d k lt a = absurd (omega (arith, lt))
  among_index (x ∷ xs) d zero lt a = inl a
  among_index (x ∷ xs) d (suc k) lt a = inr (among_index xs d k (omega (arith, lt)) a)

-- an element that is one of a list
pub contains_among : {A : Type 0} (x : A) (xs : List A) → Among (λ (y : A). y ≡ x) xs → Contains xs x
contains_among x xs a = index_among (λ y. y ≡ x) xs x a
