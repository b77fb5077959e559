-- No public clause cites this module.
-- What it is to mark numbers in a list of flags.
use Rattle.std.specs.Prelude.{◌≡◌, ℕ, max, Bool, false, ◌||◌, List, get_or, length}

-- the numbers that pass a test are marked beside those before, and there is a flag for each number below a
-- count
pub record Marks (before after : List Bool) (count : ℕ) (named : ℕ → Bool) : Type 0 where
  pub long : length after ≡ max (length before) count
  pub each : (k : ℕ) → get_or after k false ≡ (get_or before k false || named k)
