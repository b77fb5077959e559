-- What a loop that looked at each item knows at its end.
use Rattle.std.proofs.Common.{◌≤◌, ◌↔◌, ℕ, true, List, length, take, IsTrue, refl, subst}
use Rattle.std.proofs.lemmas.List.{take_all}

pub all_seen : {X : Type 0} (P : List X → Type 0) (xs : List X) (n : ℕ) → length xs ≤ n → P (take n xs) → IsTrue true ↔ P xs
all_seen P xs n whole seen = (λ _. subst P (take_all n xs whole) seen, λ _. refl)
