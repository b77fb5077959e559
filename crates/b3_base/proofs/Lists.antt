-- Lists by their places.
use Rattle.std.proofs.Common.{◌≡◌, ◌⊎◌, ℕ, zero, suc, ◌+◌, ◌<◌, List, [], ◌∷◌, ◌++◌, length, map, take, drop, Some, slice_get, slice_index_or, All, Contains, inl, inr, refl, ap, subst, ◌∙◌, arith}
use Rattle.std.proofs.lemmas.List.Elements.{All-nil, All-cons, All-head, All-tail, All-get_or}
use Rattle.std.proofs.lemmas.Option.{get_or_from_slice_get, slice_get-get_or, slice_get_within}

-- ---- what stands at a place

pub get_some : {X : Type 0} (xs : List X) (k : ℕ) → k < length xs → (x : X) × (slice_get xs k ≡ Some x)
get_some [] k lt = absurd (omega arith)
get_some (x ∷ xs) zero lt = (x, refl)
get_some (x ∷ xs) (suc k) lt = get_some xs k (omega arith)

-- of two lists, one after the other
pub get_front : {X : Type 0} (xs ys : List X) (k : ℕ) (x : X) → slice_get xs k ≡ Some x → slice_get (xs ++ ys) k ≡ Some x
get_front [] ys k x e = absurd (cc)
get_front (y ∷ xs) ys zero x e = e
get_front (y ∷ xs) ys (suc k) x e = get_front xs ys k x e

pub get_behind : {X : Type 0} (xs ys : List X) (n : ℕ) → slice_get (xs ++ ys) (length xs + n) ≡ slice_get ys n
get_behind [] ys n = ap (slice_get ys) (omega arith)
get_behind (x ∷ xs) ys n =
    let e : length (x ∷ xs) + n ≡ suc (length xs + n) = omega arith in ap (slice_get (x ∷ (xs ++ ys))) e ∙ get_behind xs ys n

-- of the first few items, and of what a map makes of a list
pub get_take : {X : Type 0} (xs : List X) (n k : ℕ) (x : X) → k < n → slice_get xs k ≡ Some x → slice_get (take n xs) k ≡ Some x
get_take [] n k x lt there = absurd (cc)
get_take (y ∷ xs) zero k x lt there = absurd (omega arith)
get_take (y ∷ xs) (suc n) zero x lt there = there
get_take (y ∷ xs) (suc n) (suc k) x lt there = get_take xs n k x (omega arith) there

pub index_map : {X Y : Type 0} (f : X → Y) (xs : List X) (k : ℕ) (x : X) (d : Y) → slice_get xs k ≡ Some x → slice_index_or (map f xs) k d ≡ f x
index_map f [] k x d e = absurd (cc)
index_map f (y ∷ xs) zero x d e = let same : y ≡ x = cc in ap f same
index_map f (y ∷ xs) (suc k) x d e = index_map f xs k x d e

-- ---- the items from a place on

pub drop_suc : {X : Type 0} (xs : List X) (k : ℕ) (x : X) → slice_get xs k ≡ Some x → drop k xs ≡ x ∷ drop (suc k) xs
drop_suc [] k x e = absurd (cc)
drop_suc (y ∷ xs) zero x e = let same : y ≡ x = cc in ap (λ z. z ∷ xs) same
drop_suc (y ∷ xs) (suc k) x e = drop_suc xs k x e

pub drop_next : {X : Type 0} (xs : List X) (k : ℕ) (x : X) → slice_get xs k ≡ Some x → drop k xs ≡ x ∷ drop (k + 1) xs
drop_next xs k x e = let n : suc k ≡ k + 1 = omega arith in drop_suc xs k x e ∙ ap (λ (j : ℕ). x ∷ drop j xs) n

pub head_and_rest : {X : Type 0} (xs : List X) (x : X) → slice_get xs 0 ≡ Some x → xs ≡ x ∷ drop 1 xs
head_and_rest xs x e = drop_suc xs 0 x e

pub shorter : {X : Type 0} (ys xs : List X) (x : X) → slice_get xs 0 ≡ Some x → ys ≡ drop 1 xs → length ys < length xs
shorter ys [] x e rest = absurd (cc)
shorter ys (y ∷ xs) x e rest = let same : length ys ≡ length xs = ap length rest in omega arith

-- ---- what holds of all items

pub All-at : {X : Type 0} (P : X → Type 0) (xs : List X) (k : ℕ) (x : X) → All P xs → slice_get xs k ≡ Some x → P x
All-at P xs k x all there =
    subst P (get_or_from_slice_get xs k x x there) (All-get_or P xs k x (slice_get_within xs k x there) all)

pub All-from_places : {X : Type 0} (P : X → Type 0) (xs : List X) → ((k : ℕ) (x : X) → slice_get xs k ≡ Some x → P x) → All P xs
All-from_places P [] each = All-nil P
All-from_places P (x ∷ xs) each = All-cons P x xs (each 0 x refl) (All-from_places P xs (λ k y there. each (suc k) y there))

pub All-one : {X : Type 0} (P : X → Type 0) (x : X) → P x → All P (x ∷ [])
All-one P x p = All-cons P x [] p (All-nil P)

pub All-two : {X : Type 0} (P : X → Type 0) (x y : X) → P x → P y → All P (x ∷ y ∷ [])
All-two P x y p q = All-cons P x (y ∷ []) p (All-one P y q)

pub All-front : {X : Type 0} (P : X → Type 0) (xs ys : List X) → All P (xs ++ ys) → All P xs
All-front P [] ys all = All-nil P
All-front P (x ∷ xs) ys all = All-cons P x xs (All-head P x (xs ++ ys) all) (All-front P xs ys (All-tail P x (xs ++ ys) all))

pub All-behind : {X : Type 0} (P : X → Type 0) (xs ys : List X) → All P (xs ++ ys) → All P ys
All-behind P [] ys all = all
All-behind P (x ∷ xs) ys all = All-behind P xs ys (All-tail P x (xs ++ ys) all)

-- ---- the items of a list

pub Contains-at : {X : Type 0} (xs : List X) (k : ℕ) (x : X) → slice_get xs k ≡ Some x → Contains xs x
Contains-at xs k x there = (k, slice_get_within xs k x there, get_or_from_slice_get xs k x x there)

pub place_of : {X : Type 0} (xs : List X) (x : X) → Contains xs x → (k : ℕ) × (slice_get xs k ≡ Some x)
place_of xs x has = (has.0, slice_get-get_or xs has.0 x has.1 ∙ ap Some has.2)

pub Contains-none : {X : Type 0} (x : X) → Contains [] x → ⊥
Contains-none x h = omega (arith, h.1)

pub Contains-first : {X : Type 0} (x : X) (xs : List X) → Contains (x ∷ xs) x
Contains-first x xs = (0, omega arith, refl)

pub Contains-later : {X : Type 0} (y : X) (xs : List X) (x : X) → Contains xs x → Contains (y ∷ xs) x
Contains-later y xs x h = (suc h.0, omega (arith, h.1), h.2)

pub Contains-cases : {X : Type 0} (y : X) (xs : List X) (x : X) → Contains (y ∷ xs) x → (y ≡ x) ⊎ Contains xs x
Contains-cases y xs x (zero, lt, e) = inl e
Contains-cases y xs x (suc k, lt, e) = inr (k, omega arith, e)

pub Contains-middle : {X : Type 0} (xs ys : List X) (x : X) → Contains (xs ++ x ∷ ys) x
Contains-middle [] ys x = Contains-first x ys
Contains-middle (y ∷ xs) ys x = Contains-later y (xs ++ x ∷ ys) x (Contains-middle xs ys x)
