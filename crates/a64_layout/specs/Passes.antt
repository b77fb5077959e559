-- No public clause cites this module: what the passes over the items keep.
use Rattle.std.specs.Prelude.{◌≡◌, ℕ, ◌+◌, ◌^◌, ◌<◌, ◌≤◌, Bool, false, List, length, slice_index, slice_set, Option, Some, None}
use Rattle.a64_inst.specs.WellFormed.{IsWellFormed}
use Rattle.a64_inst.specs.declared.item.Item.{Item}
use Rattle.a64_inst.specs.declared.item.Item.TheVariants.{Plain, Jump, If, IfZero, IfBit, Label, Mark}
use Rattle.a64_layout.specs.Branch.{IsTest, reach}
use Rattle.a64_layout.specs.Layout.{Fits, IsEnough, IsIf, IsWithin, Set, label_place, place, position_of}
use Rattle.a64_layout.specs.declared.branch.Test.{Test}
use Rattle.a64_layout.specs.declared.branch.Test.TheVariants.{Holds, Zero, Bit}

-- a list tells the position of each label
abbrev pub TellsPositions : List Item → List ℕ → Type 0
TellsPositions items positions =
    (label : ℕ) → label < length positions → slice_index positions label ≡ position_of items label

-- each short item whose label stands before it reaches it
abbrev pub ReachBack : List Item → Set → Type 0
ReachBack items long =
    (k : ℕ) (test : Test) (label : ℕ) → IsIf items k test label → position_of items label < k → long k ≡ false
    → place items long k ≤ label_place items long label + reach test

-- each short item whose label stands after it reaches it
abbrev pub ReachForward : List Item → Set → Type 0
ReachForward items long =
    (k : ℕ) (test : Test) (label : ℕ) → IsIf items k test label → k < position_of items label → long k ≡ false
    → label_place items long label < place items long k + reach test

-- what is long in the second set and not in the first has to be: it is in each set that is enough and has
-- what the first has
abbrev pub GrowsByNeed : List Item → Set → Set → Type 0
GrowsByNeed items before after = (other : Set) → IsEnough items other → IsWithin before other → IsWithin after other

-- the label of a branch is below a number
abbrev pub NamesBelow : ℕ → Option (Test × ℕ) → Type 0
NamesBelow count (Some branch) = branch.1 < count
NamesBelow count None = Unit {0}

-- a branch at a position is long, or it reaches its label where that stands before it: the words before
-- the branch, and before the label
abbrev pub IsNearBack : Bool → ℕ → ℕ → List ℕ → List ℕ → Option (Test × ℕ) → Type 0
IsNearBack long at here positions places (Some branch) =
    long ≡ false → slice_index positions branch.1 < at → here ≤ slice_index places branch.1 + reach branch.0
IsNearBack long at here positions places None = Unit {0}

-- the same where the label stands after it: the words after the branch, and after the label
abbrev pub IsNearForward : Bool → ℕ → ℕ → List ℕ → List ℕ → Option (Test × ℕ) → Type 0
IsNearForward long at rest positions places (Some branch) =
    long ≡ false → at < slice_index positions branch.1 → rest + 1 < slice_index places branch.1 + reach branch.0
IsNearForward long at rest positions places None = Unit {0}

-- places, with that of a label put where the item is one
abbrev pub with_label : Item → ℕ → List ℕ → List ℕ
with_label (Label label) here places = slice_set places label here
with_label _ here places = places

-- places, with that of a mark put where the item is one
abbrev pub with_mark : Item → ℕ → List ℕ → List ℕ
with_mark (Mark mark) here places = slice_set places mark here
with_mark _ here places = places

-- a label that an item is is below a number, and so is a mark
abbrev pub LabelBelow : ℕ → Item → Type 0
LabelBelow count (Label label) = label < count
LabelBelow count _ = Unit {0}

abbrev pub MarkBelow : ℕ → Item → Type 0
MarkBelow count (Mark mark) = mark < count
MarkBelow count _ = Unit {0}

-- each label that an item goes to is below a number
abbrev pub GoesBelow : ℕ → Item → Type 0
GoesBelow count (Jump label) = label < count
GoesBelow count (If cond label) = label < count
GoesBelow count (IfZero width nonzero reg label) = label < count
GoesBelow count (IfBit nonzero reg at label) = label < count
GoesBelow count _ = Unit {0}

-- a branch can be written at a place: its fields are in range, and what it goes to is in reach
abbrev pub CanBranch : Bool → ℕ → ℕ → Test → Type 0
CanBranch long here to test = IsTest test × (to < 2 ^ 24) × (long ≡ false → Fits (reach test) here to)

-- an item can be written at a place
abbrev pub CanStand : Bool → ℕ → (ℕ → ℕ) → Item → Type 0
CanStand long here to (Plain inst) = IsWellFormed inst
CanStand long here to (Jump label) = to label < 2 ^ 24
CanStand long here to (If cond label) = CanBranch long here (to label) (Holds cond)
CanStand long here to (IfZero width nonzero reg label) = CanBranch long here (to label) (Zero width nonzero reg)
CanStand long here to (IfBit nonzero reg at label) = CanBranch long here (to label) (Bit nonzero reg at)
CanStand long here to (Label label) = Unit {0}
CanStand long here to (Mark mark) = Unit {0}
