-- No public clause cites this module. The least line of a use that isn't covered.
use Rattle.std.specs.Prelude.{◌≡◌, ℕ, ◌≤◌, ◌⊎◌, List, Option, Some, None, Contains, min}
use Rattle.b3_uses.specs.Reversed.{turned}
use Rattle.b3_uses.specs.declared.gather.OpenUse.{OpenUse}
use Rattle.flow_live.specs.Graph.{Graph, LiveOut}

-- an open use isn't covered: it stands in block 0, or its name is live out of its block
abbrev pub IsMissed : Graph → OpenUse → Type 0
IsMissed g use_ = (use_.block ≡ 0) ⊎ LiveOut g use_.name (turned g.blocks use_.block)

-- of some uses none is missed, or the least line of those that are is this
abbrev pub IsLeastMissed : Graph → List OpenUse → Option ℕ → Type 0
IsLeastMissed g uses None = (use_ : OpenUse) → Contains uses use_ → IsMissed g use_ → ⊥
IsLeastMissed g uses (Some line) =
    ((use_ : OpenUse) × Contains uses use_ × IsMissed g use_ × (use_.line ≡ line))
    × ((use_ : OpenUse) → Contains uses use_ → IsMissed g use_ → line ≤ use_.line)

-- the lower of two lines, the first of which may be missing
abbrev pub lower_of : Option ℕ → ℕ → ℕ
lower_of None line = line
lower_of (Some least) line = min least line
