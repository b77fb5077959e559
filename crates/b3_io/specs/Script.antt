-- Scripts: which calls of a source or a sink fail.
use Rattle.std.specs.Prelude.{ℕ, Bool, nat_eq, List}
use Rattle.std.specs.List.{list_any}

-- whether the call of a number is one that fails
abbrev pub fails_at : List ℕ → ℕ → Bool
fails_at fails call = list_any (λ n. nat_eq n call) fails
