-- No public clause cites this module. Lists side by side, and what is added to them.
use Rattle.std.specs.Prelude.{◌≡◌, ℕ, ◌<◌, ◌⊎◌, ◌↔◌, List, [], length, slice_index_or, Contains}

-- the list at a place, counted from 0
abbrev pub list_at : List (List ℕ) → ℕ → List ℕ
list_at lists at = slice_index_or lists at []

-- each list has what it had, and more
pub record AddsTo (old new : List (List ℕ)) (more : ℕ → ℕ → Type 0) : Type 0 where
  pub as_many : length new ≡ length old
  pub numbers : (at number : ℕ) → Contains (list_at new at) number
      ↔ (Contains (list_at old at) number ⊎ more at number)

-- what some element of a list adds, and what the numbers below one add
abbrev pub SomeOf : {X : Type 0} → (X → ℕ → ℕ → Type 0) → List X → ℕ → ℕ → Type 0
SomeOf {X} more xs at number = (x : X) × Contains xs x × more x at number

abbrev pub SomeBelow : (ℕ → ℕ → ℕ → Type 0) → ℕ → ℕ → ℕ → Type 0
SomeBelow more end at number = (k : ℕ) × (k < end) × more k at number

-- one number in the list at one place
abbrev pub IsPut : ℕ → ℕ → ℕ → ℕ → Type 0
IsPut at number a n = (a ≡ at) × (n ≡ number)
