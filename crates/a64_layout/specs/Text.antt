-- The words of labelled code, and what its items have to keep.
use Rattle.std.specs.Prelude.{◌≡◌, ℕ, ℤ, pos, zero, suc, ◌+◌, ◌^◌, ◌<◌, Bool, true, false, ◌==◌, List, [], ◌∷◌, ◌++◌, length, slice_get, slice_index, slice_index_or, Option, Some, None}
use Rattle.std.specs.List.{count_by, position_or_len}
use Rattle.std.proofs.Math.IntN.{◌-ℤ◌}
use Rattle.a64_inst.specs.WellFormed.{IsWellFormed}
use Rattle.a64_inst.specs.declared.inst.Inst.{Inst}
use Rattle.a64_inst.specs.declared.inst.Inst.TheVariants.{Branch}
use Rattle.a64_inst.specs.declared.item.Item.{Item}
use Rattle.a64_inst.specs.declared.item.Item.TheVariants.{Plain, Jump, If, IfZero, IfBit, Label, Mark}
use Rattle.a64_word.specs.Word.{word}
use Rattle.a64_layout.specs.Branch.{IsTest, branch_by, opposite}
use Rattle.a64_layout.specs.Layout.{most_words, Set, place, position_of, label_place, IsIf}
use Rattle.a64_layout.specs.declared.branch.Test.{Test}
use Rattle.a64_layout.specs.declared.branch.Test.TheVariants.{Holds, Zero, Bit}
use Rattle.a64_layout.specs.declared.text.Text.{Text}

-- ---- words
-- the distance from one place to another, in words
abbrev pub distance : ℕ → ℕ → ℤ
distance from to = pos to -ℤ pos from

-- the conditional branch by so many words
abbrev pub test_word : Test → ℤ → ℕ
test_word test offset = word (branch_by test offset)

-- the branch from one place to another
abbrev pub jump_word : ℕ → ℕ → ℕ
jump_word from to = word (Branch (distance from to))

-- a conditional item: one branch, or the opposite one over a B
abbrev pub if_words : Bool → Test → ℕ → ℕ → List ℕ
if_words false test here to = test_word test (distance here to) ∷ []
if_words true test here to = test_word (opposite test) (pos 2) ∷ jump_word (here + 1) to ∷ []

-- the words of an item at a place, where each label has its place
abbrev pub words_of : Bool → ℕ → (ℕ → ℕ) → Item → List ℕ
words_of long here to (Plain inst) = word inst ∷ []
words_of long here to (Jump label) = jump_word here (to label) ∷ []
words_of long here to (If cond label) = if_words long (Holds cond) here (to label)
words_of long here to (IfZero width nonzero reg label) = if_words long (Zero width nonzero reg) here (to label)
words_of long here to (IfBit nonzero reg at label) = if_words long (Bit nonzero reg at) here (to label)
words_of long here to (Label label) = []
words_of long here to (Mark mark) = []

abbrev pub words_in : Bool → ℕ → (ℕ → ℕ) → Option Item → List ℕ
words_in long here to (Some item) = words_of long here to item
words_in long here to None = []

-- the words of the first items, where the items of a set are long
unfoldable pub words_before : List Item → Set → ℕ → List ℕ
words_before items long zero = []
words_before items long (suc k) =
    words_before items long k ++ words_in (long k) (place items long k) (label_place items long) (slice_get items k)

-- the position of a mark among the items
abbrev pub is_mark : ℕ → Item → Bool
is_mark mark (Mark number) = number == mark
is_mark mark _ = false

unfoldable pub mark_position_of : List Item → ℕ → ℕ
mark_position_of items mark = position_or_len (is_mark mark) items

-- a list tells the place of each label
abbrev pub TellsLabels : List Item → Set → List ℕ → Type 0
TellsLabels items long labels =
    (label : ℕ) → label < length labels → slice_index labels label ≡ label_place items long label

-- a list tells the place of each mark
abbrev pub TellsMarks : List Item → Set → List ℕ → Type 0
TellsMarks items long marks =
    (mark : ℕ) → mark < length marks → slice_index marks mark ≡ place items long (mark_position_of items mark)

-- the text of the items where those of a set are long: its words, and the places of labels and marks
pub record IsTextOf (items : List Item) (long : Set) (text : Text) : Type 0 where
  pub words : text.words ≡ words_before items long (length items)
  pub labels : TellsLabels items long text.labels
  pub marks : TellsMarks items long text.marks

-- ---- what the items keep
abbrev pub is_any_label : Item → Bool
is_any_label (Label label) = true
is_any_label _ = false

abbrev pub is_any_mark : Item → Bool
is_any_mark (Mark mark) = true
is_any_mark _ = false

-- how many labels stand among the items, and how many marks
abbrev pub label_count : List Item → ℕ
label_count items = count_by is_any_label items

abbrev pub mark_count : List Item → ℕ
mark_count items = count_by is_any_mark items

-- the fields are in range; the labels are the numbers below their count, each once, and so are the
-- marks; each label that is named is there; and the words, where all are long, are below 2^24
pub record IsWellLabelled (items : List Item) : Type 0 where
  pub insts : (k : ℕ) (inst : Inst) → slice_get items k ≡ Some (Plain inst) → IsWellFormed inst
  pub tests : (k : ℕ) (test : Test) (label : ℕ) → IsIf items k test label → IsTest test
  pub jumps : (k label : ℕ) → slice_get items k ≡ Some (Jump label) → label < label_count items
  pub ifs : (k : ℕ) (test : Test) (label : ℕ) → IsIf items k test label → label < label_count items
  pub labels : (k label : ℕ) → slice_get items k ≡ Some (Label label) → label < label_count items
  pub label_once :
      (i j label : ℕ) → slice_get items i ≡ Some (Label label) → slice_get items j ≡ Some (Label label) → i ≡ j
  pub label_there : (label : ℕ) → label < label_count items → position_of items label < length items
  pub marks : (k mark : ℕ) → slice_get items k ≡ Some (Mark mark) → mark < mark_count items
  pub mark_once :
      (i j mark : ℕ) → slice_get items i ≡ Some (Mark mark) → slice_get items j ≡ Some (Mark mark) → i ≡ j
  pub mark_there : (mark : ℕ) → mark < mark_count items → mark_position_of items mark < length items
  pub short : most_words items < 2 ^ 24

-- the set that a list of flags tells
abbrev pub chosen : List Bool → Set
chosen flags = λ k. slice_index_or flags k false
