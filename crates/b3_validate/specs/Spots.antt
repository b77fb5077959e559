-- Where rules are broken, and the first of such spots. No public clause cites this module.
use Rattle.std.specs.Prelude.{◌≡◌, ◌≢◌, ℕ, ◌<◌, ◌≤◌, ◌⊎◌, Option, Some, None}
use Rattle.b3_ir.specs.Procedure.{Procedure}
use Rattle.b3_rules.specs.Numbers.{number_of}
use Rattle.b3_rules.specs.Valid.{IsPartOf, Keeps, Part, Header, SlotAt, HeadingAt, ValueAt, line_of}
use Rattle.b3_rules.specs.declared.rule.Rule.{Rule}
use Rattle.b3_rules.specs.declared.rule.Rule.TheVariants as rule
use Rattle.b3_validate.specs.declared.spot.Spot.{Spot}

-- one spot comes no later than another: on an earlier line, or on the same by a rule of no higher number
abbrev pub IsNoLaterSpot : Spot → Spot → Type 0
IsNoLaterSpot a b = (a.line < b.line) ⊎ ((a.line ≡ b.line) × (number_of a.rule ≤ number_of b.rule))

-- one spot comes before another
abbrev pub IsBeforeSpot : Spot → Spot → Type 0
IsBeforeSpot a b = (a.line < b.line) ⊎ ((a.line ≡ b.line) × (number_of a.rule < number_of b.rule))

-- of two spots, the first where it comes no later, and else the second
abbrev pub IsSooner : Option Spot → Option Spot → Option Spot → Type 0
IsSooner None b r = r ≡ b
IsSooner (Some a) None r = r ≡ Some a
IsSooner (Some a) (Some b) r =
    ((r ≡ Some a) × IsNoLaterSpot a b) ⊎ ((r ≡ Some b) × IsBeforeSpot b a)

-- the first of the spots at which something is broken, or none where all is kept
abbrev pub IsLeast : Type 0 → (Spot → Type 0) → Option Spot → Type 0
IsLeast kept broken None = kept × ((s : Spot) → ¬ (broken s))
IsLeast kept broken (Some s) = broken s × ((other : Spot) → broken other → IsNoLaterSpot s other)

-- ---- some parts of a procedure

-- they keep all rules but that on uses
abbrev pub PartsKeep : Procedure → (Part → Type 0) → Type 0
PartsKeep p seen = (r : Rule) (part : Part) → r ≢ rule.Uses → IsPartOf p part → seen part → Keeps r p part

-- one of them breaks such a rule at a spot
pub record BreaksAt (p : Procedure) (seen : Part → Type 0) (spot : Spot) : Type 0 where
  pub part : Part
  pub is_part : IsPartOf p part
  pub is_seen : seen part
  pub on_line : line_of p part ≡ spot.line
  pub other_rule : spot.rule ≢ rule.Uses
  pub breaks : ¬ (Keeps spot.rule p part)

-- the first spot at which one of them breaks such a rule
abbrev pub IsLeastIn : Procedure → (Part → Type 0) → Option Spot → Type 0
IsLeastIn p seen = IsLeast (PartsKeep p seen) (BreaksAt p seen)

-- the slots, the headings of blocks, the values of a block and whole blocks before a place
abbrev pub IsHeader : Part → Type 0
IsHeader Header = Unit {0}
IsHeader _ = ⊥

abbrev pub IsSlotBelow : ℕ → Part → Type 0
IsSlotBelow n (SlotAt place slot) = place < n
IsSlotBelow n _ = ⊥

abbrev pub IsInBlock : ℕ → ℕ → Part → Type 0
IsInBlock b n (ValueAt block place value) = (block ≡ b) × (place < n)
IsInBlock b n _ = ⊥

abbrev pub IsOfBlocksBelow : ℕ → Part → Type 0
IsOfBlocksBelow n (HeadingAt place block) = place < n
IsOfBlocksBelow n (ValueAt block place value) = block < n
IsOfBlocksBelow n _ = ⊥

-- any part
abbrev pub IsAny : Part → Type 0
IsAny part = Unit {0}
