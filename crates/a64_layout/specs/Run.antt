-- Runs of labelled code, item by item, and of its text, word by word, over what instructions do, where tests hold,
-- and what the outside does at marked places.
use Rattle.std.specs.Prelude.{◌≡◌, ◌≢◌, ℕ, zero, suc, ◌+◌, ◌^◌, ◌<◌, Bool, false, true, not, if◌then◌else◌, List, length, slice_get, Option, Some, None}
use Rattle.a64_inst.specs.WellFormed.{IsWellFormed}
use Rattle.a64_inst.specs.declared.inst.Inst.{Inst}
use Rattle.a64_inst.specs.declared.item.Item.{Item}
use Rattle.a64_inst.specs.declared.item.Item.TheVariants.{Plain, Jump, If, IfZero, IfBit, Label, Mark}
use Rattle.a64_word.specs.Word.{word}
use Rattle.a64_layout.specs.Branch.{IsTest, opposite, reach}
use Rattle.a64_layout.specs.Layout.{Fits, Set, place, position_of}
use Rattle.a64_layout.specs.Text.{distance, jump_word, mark_count, mark_position_of, test_word}
use Rattle.a64_layout.specs.declared.branch.Test.{Test}
use Rattle.a64_layout.specs.declared.branch.Test.TheVariants.{Holds, Zero, Bit}

-- a run stands before an item or a word, or it has ended, or it went past the last
pub data Config (W E : Type 0) : Type 0 where
  At : (here : ℕ) (state : W) → Config W E
  Ended : (end : E) (state : W) → Config W E
  Broken : Config W E

-- an instruction goes on past so many instructions, itself among them, or it ends the run
pub data Outcome (W E : Type 0) : Type 0 where
  Goes : (passed : ℕ) (state : W) → Outcome W E
  Ends : (end : E) (state : W) → Outcome W E

abbrev pub after : {W E : Type 0} → ℕ → Outcome W E → Config W E
after here (Goes passed s) = At (here + passed) s
after here (Ends end s) = Ended end s

-- what the instruction at a position does, by itself or where a mark stands right before it, and where tests hold
pub record Meaning (W E : Type 0) : Type 0 where
  pub does : ℕ → Option ℕ → Inst → W → Outcome W E
  pub holds : Test → W → Bool

-- the mark that stands right before an item
abbrev pub mark_in : Option Item → Option ℕ
mark_in (Some (Mark mark)) = Some mark
mark_in _ = None

abbrev pub mark_before : List Item → ℕ → Option ℕ
mark_before items zero = None
mark_before items (suc k) = mark_in (slice_get items k)

-- each mark stands right before an instruction
abbrev pub IsWellMarked : List Item → Type 0
IsWellMarked items =
    (k mark : ℕ) → slice_get items k ≡ Some (Mark mark) → (inst : Inst) × (slice_get items (k + 1) ≡ Some (Plain inst))

-- ---- items
module _ {W E : Type 0} (m : Meaning W E) (items : List Item) where
  -- an instruction goes to its label or to a next item; labels and marks do nothing by themselves
  abbrev pub goes_if : Test → ℕ → ℕ → W → Config W E
  goes_if test label k s = At (if m.holds test s then position_of items label else k + 1) s

  abbrev pub item_does : Option Item → ℕ → W → Config W E
  item_does (Some (Plain inst)) k s = after k (m.does k (mark_before items k) inst s)
  item_does (Some (Jump label)) k s = At (position_of items label) s
  item_does (Some (If cond label)) k s = goes_if (Holds cond) label k s
  item_does (Some (IfZero width nonzero reg label)) k s = goes_if (Zero width nonzero reg) label k s
  item_does (Some (IfBit nonzero reg at label)) k s = goes_if (Bit nonzero reg at) label k s
  item_does (Some (Label label)) k s = At (k + 1) s
  item_does (Some (Mark mark)) k s = At (k + 1) s
  item_does None k s = Broken

  unfoldable pub item_step : Config W E → Config W E
  item_step (At k s) = item_does (slice_get items k) k s
  item_step (Ended end s) = Ended end s
  item_step Broken = Broken

  -- how many words are run for a branch: a long one that is taken takes both
  abbrev pub branch_cost : Bool → Bool → ℕ
  branch_cost true true = 2
  branch_cost true false = 1
  branch_cost false holds = 1

  -- how many words are run for an item; a run that is over takes steps in which it stays
  abbrev pub item_cost : Set → Option Item → ℕ → W → ℕ
  item_cost long (Some (If cond label)) k s = branch_cost (long k) (m.holds (Holds cond) s)
  item_cost long (Some (IfZero width nonzero reg label)) k s = branch_cost (long k) (m.holds (Zero width nonzero reg) s)
  item_cost long (Some (IfBit nonzero reg at label)) k s = branch_cost (long k) (m.holds (Bit nonzero reg at) s)
  item_cost long (Some (Label label)) k s = 0
  item_cost long (Some (Mark mark)) k s = 0
  item_cost long (Some (Plain inst)) k s = 1
  item_cost long (Some (Jump label)) k s = 1
  item_cost long None k s = 1

  unfoldable pub cost : Set → Config W E → ℕ
  cost long (At k s) = item_cost long (slice_get items k) k s
  cost long (Ended end s) = 1
  cost long Broken = 1

  -- how many words are run for n items
  unfoldable pub run_cost : Set → ℕ → Config W E → ℕ
  run_cost long zero a = 0
  run_cost long (suc n) a = cost long a + run_cost long n (item_step a)

-- ---- words
-- what stands at a place: this mark, or none
abbrev pub IsMarked : List Item → Set → ℕ → Option ℕ → Type 0
IsMarked items long here (Some mark) =
    (mark < mark_count items) × (place items long (mark_position_of items mark) ≡ here)
IsMarked items long here None =
    (mark : ℕ) → mark < mark_count items → place items long (mark_position_of items mark) ≢ here

-- A machine that runs the words, by its step. It stands before a word in a state of the items' run, by
-- Stands, or it is over as that run is, by IsOver.
module _ {W E C : Type 0} (words : List ℕ) (Stands : ℕ → W → C → Type 0) (IsOver : E → W → C → Type 0) where
  -- the machine stands at a place; nothing is said past the last word
  abbrev pub StandsAt : ℕ → W → C → Type 0
  StandsAt here s c = here < length words → Stands here s c

  -- the machine has done what an instruction at a place does
  abbrev pub HasDone : ℕ → Outcome W E → C → Type 0
  HasDone here (Goes passed s) c = StandsAt (here + passed) s c
  HasDone here (Ends end s) c = IsOver end s c

  -- the machine is where the run of the items is, or so many words on
  abbrev pub IsAt : List Item → Set → ℕ → Config W E → C → Type 0
  IsAt items long i (At k s) c = StandsAt (place items long k + i) s c
  IsAt items long i (Ended end s) c = IsOver end s c
  IsAt items long i Broken c = Unit {0}

  abbrev pub IsAlike : List Item → Set → Config W E → C → Type 0
  IsAlike items long a c = IsAt items long 0 a c

  -- each step of the machine does what the word stands for that it stands before
  pub record Executes (m : Meaning W E) (items : List Item) (long : Set) (step : C → C) : Type 0 where
    -- an instruction, and what the outside does at its mark
    pub plain :
        (k : ℕ) (inst : Inst) (s : W) (c : C) → slice_get items k ≡ Some (Plain inst) → IsWellFormed inst
        → IsMarked items long (place items long k) (mark_before items k)
        → slice_get words (place items long k) ≡ Some (word inst) → Stands (place items long k) s c
        → HasDone (place items long k) (m.does k (mark_before items k) inst s) (step c)
    -- what an instruction passes is instructions
    pub passes :
        (k passed : ℕ) (inst : Inst) (s after : W) → slice_get items k ≡ Some (Plain inst)
        → m.does k (mark_before items k) inst s ≡ Goes passed after
        → (i : ℕ) → i < passed → (other : Inst) × (slice_get items (k + i) ≡ Some (Plain other))
    pub jump :
        (here to : ℕ) (s : W) (c : C) → here < 2 ^ 24 → to < 2 ^ 24 → IsMarked items long here None
        → slice_get words here ≡ Some (jump_word here to) → Stands here s c → StandsAt to s (step c)
    pub test :
        (test : Test) (here to : ℕ) (s : W) (c : C) → IsTest test → Fits (reach test) here to
        → IsMarked items long here None → slice_get words here ≡ Some (test_word test (distance here to))
        → Stands here s c → StandsAt (if m.holds test s then to else here + 1) s (step c)
    pub opposite : (test : Test) (s : W) → m.holds (opposite test) s ≡ not (m.holds test s)
    pub over : (end : E) (s : W) (c : C) → IsOver end s c → IsOver end s (step c)

-- ---- steps that cost nothing
-- how many labels and marks stand in a row right before an item
abbrev pub free_with : ℕ → Option Item → ℕ
free_with row (Some (Label label)) = row + 1
free_with row (Some (Mark mark)) = row + 1
free_with row _ = 0

unfoldable pub free_before : List Item → ℕ → ℕ
free_before items zero = 0
free_before items (suc k) = free_with (free_before items k) (slice_get items k)

abbrev pub free_steps : {W E : Type 0} → List Item → Config W E → ℕ
free_steps items (At k s) = free_before items k
free_steps items _ = 0

-- ---- runs that go forward
-- a step goes to an item farther on
abbrev pub GoesOn : {W E : Type 0} → Config W E → Config W E → Type 0
GoesOn (At k s) (At l t) = k < l
GoesOn _ _ = ⊥

-- n steps that each go farther on
unfoldable pub GoForward : {W E : Type 0} → Meaning W E → List Item → ℕ → Config W E → Type 0
GoForward m items zero a = Unit {0}
GoForward m items (suc n) a = GoesOn a (item_step m items a) × GoForward m items n (item_step m items a)

-- the place of what a run stands before
abbrev pub place_at : {W E : Type 0} → List Item → Set → Config W E → ℕ
place_at items long (At k s) = place items long k
place_at items long _ = 0
