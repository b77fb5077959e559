-- The words of places, gathered one after the other.
use Rattle.std.proofs.Common.{ℕ, List, ◌++◌, Option, Some, None}

-- some words before those that are there
abbrev pub joined : List ℕ → Option (List ℕ) → Option (List ℕ)
joined found (Some words) = Some (found ++ words)
joined found None = None
