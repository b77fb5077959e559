-- What holds of each instruction of a rewritten block, and where each comes from.
use Rattle.std.proofs.Common.{◌≡◌, ℕ, zero, suc, ◌+◌, ◌≤◌, Some, List, [], ◌∷◌, ◌++◌, map, length, take, flat_map, All, length-append, refl, sym, ap, ◌∙◌, arith}
use Rattle.std.specs.Prelude.{slice_get}
use Rattle.std.proofs.lemmas.List.Elements.{All-append, All-head, All-nil, All-tail}

-- what holds of all that each element becomes
pub all_flat : {A B : Type 0} (P : A → Type 0) (Q : B → Type 0) (f : A → List B) (xs : List A) → ((x : A) → P x → All Q (f x)) → All P xs
    → All Q (flat_map f xs)
all_flat P Q f [] h all = All-nil Q
all_flat P Q f (x ∷ xs) h all =
    All-append Q (f x) (flat_map f xs) (h x (All-head P x xs all)) (all_flat P Q f xs h (All-tail P x xs all))

-- ---- where elements come from

-- each element becomes none or one
abbrev pub AtMostOne : {A B : Type 0} → (A → List B) → Type 0
AtMostOne {A = A} f = (x : A) → length (f x) ≤ 1

-- the element at a place comes from one at a place before which as many have become one
pub record Origin {A B : Type 0} (f : A → List B) (xs : List A) (k : ℕ) (y : B) : Type 0 where
  pub at : ℕ
  pub from : A
  pub there : slice_get xs at ≡ Some from
  pub place : k ≡ length (flat_map f (take at xs))
  pub becomes : f from ≡ y ∷ []

module _ {A B : Type 0} (f : A → List B) where
  later : (x : A) (xs : List A) (k j : ℕ) (y : B) → Origin f xs j y → k ≡ length (f x) + j → Origin f (x ∷ xs) k y
  later x xs k j y o e =
      let long : length (f x ++ flat_map f (take o.at xs)) ≡ length (f x) + length (flat_map f (take o.at xs)) =
      length-append (f x) (flat_map f (take o.at xs)) in
      record {
        at = suc o.at;
        from = o.from;
        there = o.there;
        place = e ∙ ap (λ (n : ℕ). length (f x) + n) o.place ∙ sym long;
        becomes = o.becomes;
      }

  module _ (x : A) (xs : List A) (y : B) (rest : (j : ℕ) → slice_get (flat_map f xs) j ≡ Some y → Origin f xs j y) where
    of_one : (z : B) → f x ≡ z ∷ [] → (k : ℕ) → slice_get (z ∷ flat_map f xs) k ≡ Some y → Origin f (x ∷ xs) k y
    of_one z is zero e =
        let same : z ≡ y = cc in
        record { at = 0; from = x; there = refl; place = refl; becomes = is ∙ ap (λ (w : B). w ∷ []) same }
    of_one z is (suc j) e =
        let one : suc j ≡ 1 + j = omega arith in
        later x xs (suc j) j y (rest j e) (one ∙ ap (λ (ys : List B). length ys + j) (sym is))

    of_some : (ys : List B) → f x ≡ ys → length ys ≤ 1 → (k : ℕ) → slice_get (ys ++ flat_map f xs) k ≡ Some y → Origin f (x ∷ xs) k y
    of_some [] is le k e =
        let none : k ≡ 0 + k = omega arith in later x xs k k y (rest k e) (none ∙ ap (λ (ys : List B). length ys + k) (sym is))
    of_some (z ∷ []) is le k e = of_one z is k e
    of_some (z ∷ w ∷ ys) is le k e = absurd (omega (arith, le))

  pub origin : AtMostOne f → (xs : List A) (k : ℕ) (y : B) → slice_get (flat_map f xs) k ≡ Some y → Origin f xs k y
  origin few [] k y e = absurd (cc)
  origin few (x ∷ xs) k y e = of_some x xs y (λ j f. origin few xs j y f) (f x) refl (few x) k e

-- an element of a list that each element was changed in
pub unmapped : {A B : Type 0} (f : A → B) (xs : List A) (k : ℕ) (y : B) → slice_get (map f xs) k ≡ Some y → (x : A) × (slice_get xs k ≡ Some x) × (f x ≡ y)
unmapped f [] k y e = absurd (cc)
unmapped f (x ∷ xs) zero y e = (x, refl, cc)
unmapped f (x ∷ xs) (suc k) y e = unmapped f xs k y e
