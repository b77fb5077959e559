-- What a list contains, and where it is cut.
use Rattle.std.proofs.Common.{◌≡◌, zero, suc, ◌⊎◌, inl, inr, List, [], ◌∷◌, ◌++◌, refl, sym, subst, arith}
use Rattle.std.specs.Prelude.{Contains}

pub contains_none : {X : Type 0} (x : X) → Contains [] x → ⊥
contains_none x h = omega (arith, h.1)

pub contains_head : {X : Type 0} (x : X) (xs : List X) → Contains (x ∷ xs) x
contains_head x xs = (0, omega arith, refl)

pub contains_tail : {X : Type 0} (y : X) (xs : List X) (x : X) → Contains xs x → Contains (y ∷ xs) x
contains_tail y xs x h = (suc h.0, omega (arith, h.1), h.2)

pub contains_cases : {X : Type 0} (y : X) (xs : List X) (x : X) → Contains (y ∷ xs) x → (y ≡ x) ⊎ Contains xs x
contains_cases y xs x (zero, lt, e) = inl e
contains_cases y xs x (suc k, lt, e) = inr (k, omega arith, e)

pub contains_middle : {X : Type 0} (ys zs : List X) (x : X) → Contains (ys ++ x ∷ zs) x
contains_middle [] zs x = contains_head x zs
contains_middle (y ∷ ys) zs x = contains_tail y (ys ++ x ∷ zs) x (contains_middle ys zs x)

-- where an element stands in a list with one more at the end: it is the last, or it stands before
pub push_split : {X : Type 0} (xs ys zs : List X) (x y : X) → xs ++ x ∷ [] ≡ ys ++ y ∷ zs → ((xs ≡ ys) × (x ≡ y)) ⊎ ((more : List X) × (xs ≡ ys ++ y ∷ more))
push_split [] [] zs x y e = inl (refl, (cc))
push_split [] (w ∷ ys) zs x y e =
    let none : [] ≡ ys ++ y ∷ zs = cc in
    absurd (contains_none y (subst (λ l. Contains l y) (sym none) (contains_middle ys zs y)))
push_split (w ∷ xs) [] zs x y e = inr (xs, (cc))
push_split (w ∷ xs) (u ∷ ys) zs x y e =
    let tail : xs ++ x ∷ [] ≡ ys ++ y ∷ zs = cc in
    let head : w ≡ u = cc in
    elim (push_split xs ys zs x y tail) [
      | inl same ↦ let rest : xs ≡ ys = same.0 in inl ((cc), same.1)
      | inr cut ↦ let rest : xs ≡ ys ++ y ∷ cut.0 = cut.1 in inr (cut.0, (cc))
    ]
