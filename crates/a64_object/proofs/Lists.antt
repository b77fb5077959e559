-- Lists, item by item.
use Rattle.std.proofs.Common.{◌≡◌, ℕ, zero, suc, ◌≤◌, Bool, true, List, [], ◌∷◌, None, Some, refl, ap, ◌∙◌, subst}
use Rattle.std.specs.Prelude.{All, Contains, slice_get, sum_by}
use Rattle.std.specs.List.{list_any}
use Rattle.std.proofs.lemmas.List.Elements.{All-get_or}
use Rattle.std.proofs.lemmas.List.Sums.{get_or-le-sum_by}
use Rattle.std.proofs.lemmas.Option.{get_or_from_slice_get, slice_get-get_or, slice_get_within}
use Rattle.std.proofs.lemmas.Bool.{or_right}

pub no_some : {X Y : Type 0} (x : X) → None ≡ Some x → Y
no_some x e = cc

pub one_in : {X : Type 0} (P : X → Type 0) (xs : List X) (k : ℕ) (x : X) → slice_get xs k ≡ Some x → All P xs → P x
one_in P xs k x there all = subst P (get_or_from_slice_get xs k x x there) (All-get_or P xs k x (slice_get_within xs k x there) all)

-- a test that an item passes
pub any_at : {X : Type 0} (p : X → Bool) (xs : List X) (k : ℕ) (x : X) → slice_get xs k ≡ Some x → p x ≡ true → list_any p xs ≡ true
any_at p [] k x there passes = absurd cc
any_at p (y ∷ xs) zero x there passes = let same : y ≡ x = cc in rw (ap p same ∙ passes) refl
any_at p (y ∷ xs) (suc k) x there passes = or_right (p y) (list_any p xs) (any_at p xs k x there passes)

pub any_among : {X : Type 0} (p : X → Bool) (xs : List X) (x : X) → Contains xs x → p x ≡ true → list_any p xs ≡ true
any_among p xs x there passes = any_at p xs there.0 x (slice_get-get_or xs there.0 x there.1 ∙ ap (λ y. Some y) there.2) passes

-- a term of a sum
pub term_least : {X : Type 0} (f : X → ℕ) (xs : List X) (k : ℕ) (x : X) → slice_get xs k ≡ Some x → f x ≤ sum_by f xs
term_least f xs k x there = subst (λ y. f y ≤ sum_by f xs) (get_or_from_slice_get xs k x x there) (get_or-le-sum_by f xs k x (slice_get_within xs k x there))
