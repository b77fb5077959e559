-- How much a call took from a source, where the source tells.
use Rattle.std.specs.Prelude.{ℕ, List, Option, length}
use Rattle.std.specs.Io.KnownBytes.{Consumes}

-- these bytes stood at the front of what was left and are gone from it, and `P` holds of their
-- number
pub record Takes (P : ℕ → Type 0) (old new : Option (List ℕ)) : Type 0 where
  pub taken : List ℕ
  pub count : P (length taken)
  pub consumed : Consumes old new taken
