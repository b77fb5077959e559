-- The run of a text's words by what instructions do (DDI 0487) and what the outside does at marks, and the run of
-- the items that the words are of.
use Rattle.std.specs.Prelude.{◌≡◌, ℕ, ◌+◌, ◌-◌, ◌*◌, ◌/◌, ◌%◌, ◌^◌, ◌<◌, ◌≤◌, Bool, true, false, ◌&&◌, nat_eq, nat_le, nat_lt, if◌then◌else◌, List, length, slice_get, Option, Some, None}
use Rattle.std.specs.List.{position_or_len}
use Rattle.b3_base.specs.Run.{iterate}
use Rattle.a64_inst.specs.Registers.{Registers, Bytes, Stepped, read}
use Rattle.a64_inst.specs.Step.{step_of}
use Rattle.a64_inst.specs.StepBranch.{is_taken}
use Rattle.a64_inst.specs.Values.{holds, low_bits}
use Rattle.a64_inst.specs.declared.inst.Inst.{Inst}
use Rattle.a64_inst.specs.declared.item.Item.{Item}
use Rattle.a64_inst.specs.declared.item.Item.TheVariants.{Mark, Plain}
use Rattle.a64_inst.specs.declared.state.Outcome.{Outcome as Left}
use Rattle.a64_inst.specs.declared.state.Outcome.TheVariants.{Next}
use Rattle.a64_word.specs.Decode.{decode}
use Rattle.a64_layout.specs.Layout.{IsLeast, IsShort, Set, place}
use Rattle.a64_layout.specs.Run.{At, Config, Ends, GoForward, Goes, IsWellMarked, Meaning, Outcome, free_before, item_step, place_at, run_cost}
use Rattle.a64_layout.specs.Text.{IsTextOf}
use Rattle.a64_layout.specs.declared.branch.Test.{Test}
use Rattle.a64_layout.specs.declared.branch.Test.TheVariants.{Holds, Zero, Bit}
use Rattle.a64_layout.specs.declared.text.Text.{Text}

-- the registers and the memory
pub record Machine : Type 0 where
  pub registers : Registers
  pub memory : Bytes

-- ---- words
-- the place of the word at an address, where the words begin at `first`
abbrev pub place_of : ℕ → ℕ → Option ℕ
place_of first address =
    if nat_le first address && nat_eq ((address - first) % 4) 0 then Some ((address - first) / 4) else None

abbrev pub decoded : Option ℕ → Option Inst
decoded (Some word) = decode word
decoded None = None

-- a number that is below a count
abbrev pub number_below : ℕ → ℕ → Option ℕ
number_below count number = if nat_lt number count then Some number else None

-- the mark at a place, by the list of the marks' places
abbrev pub mark_at : List ℕ → ℕ → Option ℕ
mark_at marks here = number_below (length marks) (position_or_len (nat_eq here) marks)

-- the machine after a step, with pc aside where it is moved
abbrev pub machine_of : Stepped → Machine
machine_of after = record { registers = after.registers; memory = after.memory }

abbrev pub moved_to : ℕ → Machine → Machine
moved_to address c = record { registers = record c.registers { pc = address }; memory = c.memory }

-- what the outside does at a mark: it passes so many instructions and leaves these registers, pc aside, and this
-- memory; or it does nothing, and the instruction is done
abbrev pub Outside : Type 0
Outside = ℕ → Machine → Option (ℕ × Machine)

abbrev pub outside_at : Outside → Option ℕ → Machine → Option (ℕ × Machine)
outside_at outside (Some mark) c = outside mark c
outside_at outside None c = None

-- what it passes is instructions, from the one after the mark on
abbrev pub PassesInstructions : List Item → Outside → Type 0
PassesInstructions items outside =
    (k mark : ℕ) (c : Machine) (done : ℕ × Machine) → slice_get items k ≡ Some (Mark mark) → outside mark c ≡ Some done
    → (i : ℕ) → i < done.0 → (inst : Inst) × (slice_get items (k + 1 + i) ≡ Some (Plain inst))

-- the machine does the instruction at its pc, and stays where there is none
abbrev pub does_one : Option Inst → Machine → Machine
does_one (Some inst) c = machine_of (step_of inst c.registers c.memory)
does_one None c = c

-- the outside goes first
abbrev pub does_first : Option (ℕ × Machine) → Option Inst → Machine → Machine
does_first (Some done) inst c = moved_to (c.registers.pc + 4 * done.0) done.1
does_first None inst c = does_one inst c

abbrev pub does_at : List ℕ → List ℕ → Outside → Option ℕ → Machine → Machine
does_at words marks outside (Some here) c =
    does_first (outside_at outside (mark_at marks here) c) (decoded (slice_get words here)) c
does_at words marks outside None c = c

abbrev pub machine_step : ℕ → List ℕ → List ℕ → Outside → Machine → Machine
machine_step first words marks outside c = does_at words marks outside (place_of first c.registers.pc) c

-- ---- items
-- whether the instruction after it follows an instruction
abbrev pub is_next : Left → Bool
is_next Next = true
is_next _ = false

abbrev pub goes_on_at : ℕ → Stepped → Bool
goes_on_at address after = is_next after.outcome && nat_eq after.registers.pc address

-- an instruction at an address goes on to the next one, or it ends the run of the items
abbrev pub instruction_does : ℕ → Inst → Machine → Outcome Machine Inst
instruction_does address inst c =
    let after = step_of inst (moved_to address c).registers c.memory in
    if goes_on_at (address + 4) after then Goes 1 (machine_of after) else Ends inst (machine_of after)

abbrev pub goes_first : Option (ℕ × Machine) → Outcome Machine Inst → Outcome Machine Inst
goes_first (Some done) other = Goes done.0 done.1
goes_first None other = other

-- whether the branch under a test is taken
abbrev pub test_holds : Test → Machine → Bool
test_holds (Holds cond) c = holds cond c.registers.flags
test_holds (Zero width nonzero reg) c = is_taken nonzero (low_bits width (read c.registers reg))
test_holds (Bit nonzero reg at) c = is_taken nonzero (read c.registers reg / 2 ^ at % 2)

-- the items of a text that begins at an address
abbrev pub items_at : ℕ → Outside → List Item → Set → Meaning Machine Inst
items_at first outside items long = record {
  does = λ k mark inst c.
      goes_first (outside_at outside mark (moved_to (first + 4 * place items long k) c))
      (instruction_does (first + 4 * place items long k) inst c);
  holds = test_holds;
}

-- how many words are run for n items
abbrev pub words_run : ℕ → Outside → List Item → Set → ℕ → Config Machine Inst → ℕ
words_run first outside items long n a = run_cost (items_at first outside items long) items long n a

abbrev pub items_run : ℕ → Outside → List Item → Set → ℕ → Config Machine Inst → Config Machine Inst
items_run first outside items long n a = iterate (item_step (items_at first outside items long) items) n a

-- words run as their items do, wherever they begin and whatever the outside does at their marks
pub record RunsAsItems (items : List Item) (long : Set) (words marks : List ℕ) : Type 0 where
  -- where n items lead from item j to item k, the words that they cost lead from the place of the one to that of the
  -- other, with the same registers and memory: so a run may be cut at any item, with another outside from there on
  pub same :
      (first j n k : ℕ) (outside : Outside) (c after : Machine) → PassesInstructions items outside
      → first + 4 * length words ≤ 2 ^ 64 → place items long k < length words
      → items_run first outside items long n (At j c) ≡ At k after
      → iterate (machine_step first words marks outside) (words_run first outside items long n (At j c))
      (moved_to (first + 4 * place items long j) c)
      ≡ moved_to (first + 4 * place items long k) after
  -- while an item is run the machine stands at each of its words in turn, with registers and memory as before it
  pub inside :
      (first j i : ℕ) (outside : Outside) (c : Machine) → PassesInstructions items outside
      → first + 4 * length words ≤ 2 ^ 64 → i < words_run first outside items long 1 (At j c)
      → iterate (machine_step first words marks outside) i (moved_to (first + 4 * place items long j) c)
      ≡ moved_to (first + 4 * (place items long j + i)) c
  -- an item costs two words at most, and where fewer than b labels and marks stand in a row b items cost one
  pub most :
      (first n : ℕ) (outside : Outside) (a : Config Machine Inst) → words_run first outside items long n a ≤ n * 2
  pub least :
      (first n b : ℕ) (outside : Outside) (a : Config Machine Inst) → ((k : ℕ) → free_before items k < b)
      → n / b ≤ words_run first outside items long n a
  -- items that cost no word are passed one by one, with registers and memory as they were
  pub free :
      (first n k : ℕ) (outside : Outside) (c : Machine) → words_run first outside items long n (At k c) ≡ 0
      → items_run first outside items long n (At k c) ≡ At (k + n) c
  -- items that each go farther on cost no more words than they pass
  pub forward :
      (first n : ℕ) (outside : Outside) (a : Config Machine Inst)
      → GoForward (items_at first outside items long) items n a
      → words_run first outside items long n a + place_at items long a
      ≤ place_at items long (items_run first outside items long n a)

-- the text of the items where as few as can be are long; it runs as they do, where each mark stands right before
-- an instruction
abbrev pub IsShortestText : List Item → Text → Type 0
IsShortestText items text =
    (long : Set) × IsLeast items long × IsShort items long × IsTextOf items long text
    × (IsWellMarked items → RunsAsItems items long text.words text.marks)
