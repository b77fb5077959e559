-- Lists whose items are tested one after the other.
use Rattle.std.proofs.Common.{◌≡◌, ◌∙◌, ◌↔◌, Bool, false, ℕ, ◌+◌, ◌<◌, ◌≤◌, List, length, take, get_or, sym, subst}
use Rattle.std.specs.Prelude.{All, IsTrue}
use Rattle.std.proofs.lemmas.Bool.{false≢true}
use Rattle.std.proofs.lemmas.List.{take_all}
use Rattle.std.proofs.lemmas.List.Elements.{All-more}

pub all_more : (P : ℕ → Type 0) (xs : List ℕ) (i : ℕ) → i < length xs → All P (take i xs) → P (get_or xs i 0) → All P (take (i + 1) xs)
all_more P xs i within before here = All-more P xs i 0 within before here

pub all_taken : (P : ℕ → Type 0) (xs : List ℕ) (i : ℕ) → length xs ≤ i → All P (take i xs) → All P xs
all_taken P xs i whole all = subst (All P) (take_all i xs whole) all

-- an item fails
pub one_fails : (P : ℕ → Type 0) (xs : List ℕ) (i : ℕ) (t : Bool) → i < length xs → (IsTrue t ↔ P (get_or xs i 0)) → t ≡ false → IsTrue false ↔ All P xs
one_fails P xs i t within tells fails = (λ e. absurd (false≢true e), λ all. absurd (false≢true (sym fails ∙ tells.1 (all i 0 within))))
