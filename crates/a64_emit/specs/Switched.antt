-- The items of a Switch: a binary search over its cases. No public clause cites this module.
use Rattle.std.specs.Prelude.{ℕ, ◌+◌, ◌-◌, ◌^◌, ◌<◌, Bool, true, ◌||◌, nat_eq, nat_le, if◌then◌else◌, List, [], ◌∷◌, ◌++◌, length, get_or, map, All, AllPairs}
use Rattle.b3_base.specs.Arithmetic.{low}
use Rattle.b3_base.specs.Word.{bits}
use Rattle.b3_base.specs.declared.word.Width.{Width}
use Rattle.a64_inst.specs.declared.inst.Cond.TheVariants.{Eq, Hi}
use Rattle.a64_inst.specs.declared.inst.Inst.{Inst}
use Rattle.a64_inst.specs.declared.inst.Inst.TheVariants.{AddSubReg}
use Rattle.a64_inst.specs.declared.item.Item.{Item}
use Rattle.a64_inst.specs.declared.item.Item.TheVariants.{If, Jump, Label}
use Rattle.air_ir.specs.Forms.{DifferIn, is_short}
use Rattle.air_ir.specs.Meaning.{case_number}
use Rattle.a64_code.specs.Computing.{sum_with, is_sum_word}
use Rattle.a64_code.specs.Constants.{constant}
use Rattle.a64_code.specs.Places.{plains}
use Rattle.a64_emit.specs.Trees.{Tree, Leaf, Node, node_count, tree}
use Rattle.a64_emit.specs.declared.case.Case.{Case}

-- ---- comparisons

-- a word in a register is compared with one of a width, which is put in x16 where it is no immediate
abbrev pub compare_word : Width → ℕ → ℕ → List Inst
compare_word width reg word =
    if is_sum_word width word then sum_with width true true 31 reg word ∷ [] else
    constant width 16 word ++ AddSubReg width true true 31 reg 16 0 0 ∷ []

-- ---- the cases in order

-- a word is put before the first one that isn't below it
unfoldable pub insert_word : ℕ → List ℕ → List ℕ
insert_word word [] = word ∷ []
insert_word word (first ∷ rest) = if nat_le word first then word ∷ first ∷ rest else first ∷ insert_word word rest

-- the words of cases at a width, in ascending order
unfoldable pub sorted_words : Width → List ℕ → List ℕ
sorted_words width [] = []
sorted_words width (case ∷ cases) = insert_word (low width case) (sorted_words width cases)

-- where a Switch leads at a word: to the target of the first case that is equal to it, or else to the last target
abbrev pub target_of : Width → List ℕ → List ℕ → ℕ → ℕ
target_of width cases targets word = get_or targets (case_number width word cases) 0

abbrev pub case_of : Width → List ℕ → List ℕ → ℕ → Case
case_of width cases targets word = record { word = word; target = target_of width cases targets word }

-- two cases differ at a width
abbrev pub AreDifferent : Width → List ℕ → Type 0
AreDifferent width cases = AllPairs (DifferIn width) cases

abbrev pub AreSmall : Width → List Case → Type 0
AreSmall width cases = All (λ (case : Case). case.word < 2 ^ bits width) cases

abbrev pub cases_in_order : Width → List ℕ → List ℕ → List Case
cases_in_order width cases targets = map (case_of width cases targets) (sorted_words width cases)

-- ---- the search

-- a jump to a block, which costs no word where it is the next one
abbrev pub jump_to : ℕ → ℕ → List Item
jump_to next label = if nat_eq label next then [] else Jump label ∷ []

-- one case after the other
unfoldable pub case_items : Width → ℕ → List Case → List Item
case_items width reg [] = []
case_items width reg (case ∷ cases) =
    plains (compare_word width reg case.word) ++ If Eq case.target ∷ case_items width reg cases

-- a word in a register is sought in a tree of cases; where it isn't there, this leads to the block `other`. The items
-- stand before the label `next`, and their own labels are those from `label` on
unfoldable pub search_items : Width → ℕ → ℕ → ℕ → ℕ → Tree Case → List Item
search_items width reg other next label (Leaf cases) = case_items width reg cases ++ jump_to next other
search_items width reg other next label (Node before case behind) =
    plains (compare_word width reg case.word) ++ If Eq case.target ∷ If Hi label
    ∷ search_items width reg other label (label + 1) before
    ++ Label label ∷ search_items width reg other next (label + 1 + node_count before) behind

abbrev pub switch_items : Width → ℕ → ℕ → ℕ → List ℕ → List ℕ → List Item
switch_items width reg next label cases targets =
    search_items width reg (get_or targets (length cases) 0) next label (tree (cases_in_order width cases targets))

-- how many labels a Switch has of its own
abbrev pub switch_labels : List ℕ → ℕ
switch_labels cases = node_count (tree cases)
