-- No public clause cites this module. Bytes that are taken over from one memory into another.
use Rattle.std.specs.Prelude.{◌≡◌, ℕ, true, if◌then◌else◌, is_some}
use Rattle.std.specs.Option.{option_or}
use Rattle.b3_base.specs.Observed.{Memory}
use Rattle.a64_run.specs.Placement.{is_within}

-- the bytes of another memory at n addresses from `first` on, and elsewhere those that stand there
abbrev pub with_range : Memory → Memory → ℕ → ℕ → Memory
with_range into from first n q = if is_within first n q then option_or (from q) (into q) else into q

-- the bytes of another memory at the addresses of a third
abbrev pub with_places : Memory → Memory → Memory → Memory
with_places into from places q = if is_some (places q) then option_or (from q) (into q) else into q

-- one of n addresses from `first` on is mapped
abbrev pub IsAnyWithin : Memory → ℕ → ℕ → Type 0
IsAnyWithin memory first n = (q : ℕ) × (is_within first n q ≡ true) × (is_some (memory q) ≡ true)
