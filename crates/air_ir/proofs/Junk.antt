-- Runs that take words from a list: each step says which words it wants, and the list is put together.
use Rattle.std.proofs.Common.{◌≡◌, ℕ, zero, suc, ◌*◌, ◌/◌, ◌<◌, ◌≤◌, List, [], ◌++◌, refl, ap, ◌∙◌, subst, append_assoc}
use Rattle.b3_base.specs.Run.{Simulates, iterate}
use Rattle.b3_base.proofs.Run.{run_simulated}

-- like Simulates, where an upper step takes words, and those may be chosen by what the lower one does
pub record SimulatesBy {A B : Type 0} (up : A × List ℕ → A × List ℕ) (low : B → B) (R : A → B → Type 0) (P : B → Type 0) (place : A → ℕ) (b c : ℕ) : Type 0 where
  pub below : (a : A) (s : B) → R a s → place a < b
  pub step : (a : A) (s : B) → R a s
      → (words : List ℕ) × (next : A) × (j : ℕ) × ((rest : List ℕ) → up (a, words ++ rest) ≡ (next, rest)) × (j ≤ c) × (j ≡ 0 → place a < place next)
      × ((i : ℕ) → i < j → P (iterate low i s)) × R next (iterate low j s)

module _ {A B : Type 0} (up : A × List ℕ → A × List ℕ) (low : B → B) (R : A → B → Type 0) (P : B → Type 0) (place : A → ℕ) (b c : ℕ) (sim : SimulatesBy up low R P place b c) where
  record Both : Type 0 where
    upper : A
    lower : B
    related : R upper lower

  both_step : Both → Both
  both_step x = let one = sim.step x.upper x.lower x.related in record { upper = one.1; lower = iterate low one.2 x.lower; related = one.7 }

  simulated : Simulates both_step low (λ x s. x.lower ≡ s) (λ x s. P s) (λ x. place x.upper) b c
  unfolding both_step
  simulated = record {
    below = λ x s e. sim.below x.upper x.lower x.related;
    step = λ x s e.
        let one = sim.step x.upper x.lower x.related in
        (one.2, one.4, one.5, λ i less. subst (λ (t : B). P (iterate low i t)) e (one.6 i less), ap (iterate low one.2) e);
  }

  collected : (n : ℕ) (x : Both) → (words : List ℕ) × ((rest : List ℕ) → iterate up n (x.upper, words ++ rest) ≡ ((iterate both_step n x).upper, rest))
  unfolding iterate both_step
  collected zero x = ([], λ rest. refl)
  collected (suc n) x =
      let one = sim.step x.upper x.lower x.related in
      let more = collected n (both_step x) in
      (one.0 ++ more.0, λ rest. ap (λ ws. iterate up n (up (x.upper, ws))) (append_assoc one.0 more.0 rest) ∙ ap (iterate up n) (one.3 (more.0 ++ rest)) ∙ more.1 rest)

  -- n upper steps with some words are k lower steps to related states, and the fact holds of each lower state before
  pub run_simulated_by : (n : ℕ) (a : A) (s : B) → R a s
      → (words : List ℕ) × (next : A) × (k : ℕ) × ((rest : List ℕ) → iterate up n (a, words ++ rest) ≡ (next, rest)) × (n / b ≤ k) × (k ≤ n * c)
      × ((i : ℕ) → i < k → P (iterate low i s)) × R next (iterate low k s)
  run_simulated_by n a s r =
      let x : Both = record { upper = a; lower = s; related = r } in
      let run = run_simulated both_step low (λ x s. x.lower ≡ s) (λ x s. P s) (λ x. place x.upper) b c simulated n x s refl in
      let list = collected n x in
      let last = iterate both_step n x in
      (list.0, last.upper, run.0, list.1, run.1, run.2, λ i less. (run.3 i less).2, subst (R last.upper) run.4 last.related)
