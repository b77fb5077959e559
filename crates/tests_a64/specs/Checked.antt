-- No public clause cites this module: the positions of labels and of marks, by which items are seen to be well
-- labelled.
use Rattle.std.specs.Prelude.{◌≡◌, ℕ, ◌<◌, List, length, slice_get, slice_index, Some}
use Rattle.a64_inst.specs.WellFormed.{IsWellFormed}
use Rattle.a64_inst.specs.declared.item.Item.{Item}
use Rattle.a64_inst.specs.declared.item.Item.TheVariants.{Plain, Jump, If, IfZero, IfBit, Label, Mark}
use Rattle.a64_layout.specs.Branch.{IsTest}
use Rattle.a64_layout.specs.declared.branch.Test.TheVariants.{Holds, Zero, Bit}

-- the item at k is well formed, its label is in the list, and if it is a label or a mark its list has k for it
abbrev pub IsGood : List ℕ → List ℕ → ℕ → Item → Type 0
IsGood labels marks k (Plain inst) = IsWellFormed inst
IsGood labels marks k (Jump label) = label < length labels
IsGood labels marks k (If cond label) = IsTest (Holds cond) × (label < length labels)
IsGood labels marks k (IfZero width nonzero reg label) = IsTest (Zero width nonzero reg) × (label < length labels)
IsGood labels marks k (IfBit nonzero reg at label) = IsTest (Bit nonzero reg at) × (label < length labels)
IsGood labels marks k (Label label) = (label < length labels) × (slice_index labels label ≡ k)
IsGood labels marks k (Mark mark) = (mark < length marks) × (slice_index marks mark ≡ k)

abbrev pub AreGood : List Item → List ℕ → List ℕ → Type 0
AreGood items labels marks =
    (k : ℕ) (item : Item) → slice_get items k ≡ Some item → IsGood labels marks k item

-- each label and each mark stands where its list says
abbrev pub LabelsThere : List Item → List ℕ → Type 0
LabelsThere items labels =
    (label : ℕ) → label < length labels → slice_get items (slice_index labels label) ≡ Some (Label label)

abbrev pub MarksThere : List Item → List ℕ → Type 0
MarksThere items marks = (mark : ℕ) → mark < length marks → slice_get items (slice_index marks mark) ≡ Some (Mark mark)
