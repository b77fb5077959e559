-- Tests of numbers and what they tell.
use Rattle.std.proofs.Common.{◌≡◌, ◌≢◌, ℕ, Bool, true, false, ⊎_elim}
use Rattle.std.proofs.lemmas.Bool.{cases_eq, ne_eqb}
use Rattle.std.specs.Prelude.{◌==◌}

pub true_false : {X : Type 0} (t : Bool) → t ≡ true → t ≡ false → X
true_false t e f = cc

pub eq_is : (a b : ℕ) → (a == b) ≡ true → a ≡ b
eq_is a b e = ⊎_elim (λ (same : a ≡ b). same) (λ (other : a ≢ b). true_false (a == b) e (ne_eqb a b other)) (cases_eq a b)
