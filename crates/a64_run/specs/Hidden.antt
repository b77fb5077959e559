-- No public clause cites this module. Sets of bytes that are listed as ranges.
use Rattle.std.specs.Prelude.{ℕ, ◌+◌, ◌^◌, ◌<◌, Bool, ◌&&◌, nat_le, nat_lt, List}
use Rattle.std.specs.List.{list_any}
use Rattle.b3_base.specs.Observed.{in_range}
use Rattle.b3_base.specs.declared.range.Range.{Range}

-- whether one of the ranges has an address
abbrev pub covers : List Range → ℕ → Bool
covers ranges q = list_any (in_range q) ranges

-- whether an address is from `first` to below `end`
abbrev pub is_between : ℕ → ℕ → ℕ → Bool
is_between first end q = nat_le first q && nat_lt q end

-- the range ends at an address
abbrev pub EndsBelow : Range → Type 0
EndsBelow range = range.first + range.len < 2 ^ 64
