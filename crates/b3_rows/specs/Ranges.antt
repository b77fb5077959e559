-- The ranges of what lines say.
use Rattle.std.specs.Prelude.{◌≢◌, ℕ, List, []}
use Rattle.std.specs.List.{AllByRecursion}
use Rattle.b3_ir.specs.Names.{IsName}
use Rattle.b3_rows.specs.declared.row.Row.{Row}
use Rattle.b3_rows.specs.declared.row.Row.TheVariants.{Header, Slot, Heading, ValueRow, One, Two, Many, Bad}
use Rattle.b3_rows.specs.Listed.{IsListedValue, IsNumber}

abbrev pub AreTargets : List ℕ → Type 0
AreTargets targets = AllByRecursion IsNumber targets

-- a name is one of a procedure, numbers have 31 bits, a value is one that a line can say, and cases have a
-- fall-through
abbrev pub IsInRange : Row → Type 0
IsInRange (Header name) = IsName name
IsInRange (Slot number bytes) = IsNumber number × IsNumber bytes
IsInRange (Heading number) = IsNumber number
IsInRange (ValueRow v) = IsListedValue v
IsInRange (One target) = IsNumber target
IsInRange (Two a b) = IsNumber a × IsNumber b
IsInRange (Many targets) = AreTargets targets × (targets ≢ [])
IsInRange row = Unit {0}

-- the row of a line that may stand in a text
abbrev pub IsGoodRow : Row → Type 0
IsGoodRow Bad = ⊥
IsGoodRow row = IsInRange row
