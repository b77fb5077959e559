-- No public clause cites this module. Names of ids.
use Rattle.std.specs.Prelude.{◌≡◌, ℕ, ◌<◌, Option, Some}

-- the names lie below a number, and no two ids have one name
pub record IsNumbered (names : ℕ → Option ℕ) (count : ℕ) : Type 0 where
  pub below : (id name : ℕ) → names id ≡ Some name → name < count
  pub apart : (id other name : ℕ) → names id ≡ Some name → names other ≡ Some name → id ≡ other
