-- The counts of failures that sources and sinks keep.
use Rattle.std.specs.Prelude.{◌≡◌, ℕ, ◌-◌, ◌^◌, ◌<◌, ◌⊎◌, List}

-- a count rose in a call: it is greater at the end, or stands at the last value of 64 bits, where
-- it can't rise
abbrev pub Rose : ℕ → ℕ → Type 0
Rose old new = (old < new) ⊎ (new ≡ 2 ^ 64 - 1)

-- the count of what never fails
abbrev pub no_faults : List ℕ → ℕ
no_faults _ = 0
