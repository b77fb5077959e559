-- No public clause cites this module. Lists of the members of classes.
use Rattle.std.specs.Prelude.{◌≡◌, ℕ, ◌<◌, List, [], length, slice_index_or, Contains}
use Rattle.air_colour.specs.Progress.{class_in}

-- the list of a class has each of its members, but maybe the home that stands for it
pub record AreMembers (class : List ℕ) (members : List (List ℕ)) : Type 0 where
  pub long : length members ≡ length class
  pub all : (u : ℕ) → u < length class → (class_in class u ≡ u → ⊥)
      → Contains (slice_index_or members (class_in class u) []) u
  pub below : (c u : ℕ) → Contains (slice_index_or members c []) u → u < length class
