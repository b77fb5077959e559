-- To see that the definitions of runs say what they mean: a branch over a marked instruction, and stretches of a run.
use Rattle.std.proofs.Common.{◌≡◌, ℕ, zero, suc, ◌+◌, ◌*◌, ◌^◌, ◌<◌, ◌≤◌, Bool, true, false, Some, None, List, [], ◌∷◌, length, refl, ap, ◌∙◌, arith}
use Rattle.b3_base.specs.Run.{iterate}
use Rattle.a64_inst.specs.declared.inst.Cond.TheVariants.{Eq}
use Rattle.a64_inst.specs.declared.inst.Inst.TheVariants.{Nop}
use Rattle.a64_inst.specs.declared.item.Item.{Item}
use Rattle.a64_inst.specs.declared.item.Item.TheVariants.{Plain, If, Label, Mark}
use Rattle.a64_inst.specs.Step.{step_of}
use Rattle.a64_layout.specs.Layout.{Set, place, position_of}
use Rattle.a64_layout.specs.Machine.{Machine, machine_step, Outside, PassesInstructions, RunsAsItems, items_run, moved_to, words_run}
use Rattle.a64_layout.specs.Run.{At, item_step, cost, run_cost}
use Rattle.a64_layout.proofs.Least.{place-zero}

abbrev code : List Item
code = If Eq 0 ∷ Mark 0 ∷ Plain Nop ∷ Label 0 ∷ []

abbrev short : Set
short = λ k. false

abbrev first_long : Set
first_long zero = true
first_long (suc k) = false

abbrev start : Bool → Machine
start zero_flag = record {
  registers = record { x = λ r. 0; sp = 0; pc = 0; flags = record { n = false; z = zero_flag; c = false; v = false } };
  memory = λ address. None;
}

abbrev silent : Outside
silent mark c = None

-- the outside passes the instruction and does nothing else
abbrev passing : Outside
passing mark c = Some (1, c)

-- the label stands behind two words, or three where the branch is long
places : (place code short 3 ≡ 2) × (place code first_long 3 ≡ 3)
unfolding place
places = (refl, refl)

-- the branch goes to the label in one step where Z is set, by one word or both
taken : items_run 4096 silent code short 1 (At 0 (start true)) ≡ At 3 (start true)
unfolding iterate item_step position_of
taken = refl

taken_words : (words_run 4096 silent code short 1 (At 0 (start true)) ≡ 1) × (words_run 4096 silent code first_long 1 (At 0 (start true)) ≡ 2)
unfolding iterate run_cost cost item_step position_of
taken_words = (refl, refl)

-- otherwise it goes on, past the mark, which takes no word, to the instruction
passed : items_run 4096 silent code short 3 (At 0 (start false)) ≡ At 3 (moved_to 4104 (start false))
unfolding iterate item_step position_of place step_of
passed = refl

passed_words : words_run 4096 silent code short 3 (At 0 (start false)) ≡ 2
unfolding iterate run_cost cost item_step position_of
passed_words = refl

-- where the outside acts at the mark the instruction isn't done
acted : items_run 4096 passing code short 3 (At 0 (start false)) ≡ At 3 (moved_to 4100 (start false))
unfolding iterate item_step position_of place
acted = refl

-- words that run as the items do run so from the first word on
from_start : (items : List Item) (long : Set) (words marks : List ℕ) → RunsAsItems items long words marks
    → (first n k : ℕ) (outside : Outside) (c after : Machine) → PassesInstructions items outside
    → first + 4 * length words ≤ 2 ^ 64 → place items long k < length words → items_run first outside items long n (At 0 c) ≡ At k after
    → iterate (machine_step first words marks outside) (words_run first outside items long n (At 0 c)) (moved_to first c)
    ≡ moved_to (first + 4 * place items long k) after
from_start items long words marks runs first n k outside c after fitting ends below is =
    let start : first ≡ first + 4 * place items long 0 = let e = place-zero items long in omega arith in
    ap (λ a. iterate (machine_step first words marks outside) (words_run first outside items long n (At 0 c)) (moved_to a c)) start
    ∙ runs.same first 0 n k outside c after fitting ends below is

-- two stretches, each with its own outside, follow one on the other
two_stretches : (items : List Item) (long : Set) (words marks : List ℕ) → RunsAsItems items long words marks
    → (first j n k p l : ℕ) (one other : Outside) (c between after : Machine) → PassesInstructions items one → PassesInstructions items other
    → first + 4 * length words ≤ 2 ^ 64 → place items long k < length words → place items long l < length words
    → items_run first one items long n (At j c) ≡ At k between → items_run first other items long p (At k between) ≡ At l after
    → iterate (machine_step first words marks other) (words_run first other items long p (At k between))
    (iterate (machine_step first words marks one) (words_run first one items long n (At j c)) (moved_to (first + 4 * place items long j) c))
    ≡ moved_to (first + 4 * place items long l) after
two_stretches items long words marks runs first j n k p l one other c between after fits fits_too ends below far leads leads_on =
    ap (iterate (machine_step first words marks other) (words_run first other items long p (At k between)))
    (runs.same first j n k one c between fits ends below leads)
    ∙ runs.same first k p l other between after fits_too ends far leads_on
