-- What one instruction does that reads words and writes one, or leaves the block.
use Rattle.std.proofs.Common.{◌≡◌, ℕ, ◌-◌, List, [], ◌∷◌, ◌++◌, Some, None, length, drop, refl, ap, ◌∙◌}
use Rattle.b3_base.specs.Arithmetic.{low}
use Rattle.b3_base.specs.Observed.{Start}
use Rattle.b3_base.specs.declared.observation.Status.{Status}
use Rattle.b3_base.specs.declared.word.Width.{Width}
use Rattle.air_ir.specs.Meaning.{Exit, Over, World, ends, gives, leaves, meaning, operation}
use Rattle.air_ir.specs.Operands.{Holds, Homes, Read, Target, put, put_all, read, targets, word_of, words}
use Rattle.air_ir.specs.Steps.{Goes, Outcome, State, after_reading, carried_out, junk_words, step, steps}
use Rattle.air_ir.specs.declared.operand.Arg.{Arg}
use Rattle.air_ir.specs.declared.operand.Arg.TheVariants.{At, Imm}
use Rattle.air_ir.specs.declared.operand.Home.{Home}
use Rattle.air_ir.specs.declared.operand.Operand.{Operand}
use Rattle.air_ir.specs.declared.procedure.AirInst.{AirInst}
use Rattle.air_ir.proofs.Stepping.{steps-one}
use Rattle.air_select.specs.Selected.{def_at, use_at}

-- ---- operands

pub reads_use : (homes : Homes) (width : Width) (arg : Arg) (os : List Operand) (word : ℕ) (more : List Read)
    → word_of homes width arg ≡ Some word → words homes os ≡ Some more → words homes (use_at width arg ∷ os) ≡ Some ((width, word) ∷ more)
unfolding words
reads_use homes width arg os word more e f = rw (e, f) refl

pub reads_def : (homes : Homes) (width : Width) (to : Home) → words homes (def_at width to ∷ []) ≡ Some []
unfolding words
reads_def homes width to = refl

pub reads_none : (homes : Homes) → words homes [] ≡ Some []
unfolding words
reads_none homes = refl

pub writes_def : (width : Width) (to : Home) → targets (def_at width to ∷ []) ≡ record { home = to; width = width } ∷ []
unfolding targets
writes_def width to = refl

pub writes_none : targets [] ≡ []
unfolding targets
writes_none = refl

pub writes_use : (width : Width) (arg : Arg) (os : List Operand) → targets (use_at width arg ∷ os) ≡ targets os
unfolding targets
writes_use width (At home) os = refl
writes_use width _ os = refl

-- the word of a home, and of an immediate
pub at_home : (homes : Homes) (width : Width) (from : Home) (word : ℕ) → read width (homes from) ≡ Some word → word_of homes width (At from) ≡ Some word
unfolding word_of
at_home homes width from word e = e

pub of_immediate : (homes : Homes) (width : Width) (word : ℕ) → word_of homes width (Imm word) ≡ Some (low width word)
unfolding word_of
of_immediate homes width word = refl

-- ---- instructions

-- the state with a word in a home
abbrev pub with_home : State → Home → Width → ℕ → State
with_home s to width word = record { homes = put s.homes to (Holds width word); world = s.world }

carried_one : (s : State) (junk : List ℕ) (to : Home) (width : Width) (word : ℕ)
    → carried_out s junk (record { home = to; width = width } ∷ []) (gives s.world (word ∷ [])) ≡ (Goes None (with_home s to width word), junk)
unfolding junk_words put_all
carried_one s junk to width word = refl

carried_none : (s : State) (junk : List ℕ) (exit : Exit) → carried_out s junk [] (leaves s.world exit) ≡ (Goes (Some exit) s, junk)
unfolding junk_words put_all
carried_none s junk exit = refl

carried_world : (s : State) (junk : List ℕ) (w : World) → carried_out s junk [] (gives w []) ≡ (Goes None (record { homes = s.homes; world = w }), junk)
unfolding junk_words put_all
carried_world s junk w = refl

module _ (start : Start) where
  -- it writes one word
  pub one_word : (i : AirInst) (s : State) (junk : List ℕ) (ws : List Read) (to : Home) (width : Width) (word : ℕ)
      → words s.homes i.operands ≡ Some ws → meaning start (operation i) ws s.world ≡ gives s.world (word ∷ [])
      → targets i.operands ≡ record { home = to; width = width } ∷ []
      → step (meaning start) i s junk ≡ (Goes None (with_home s to width word), junk)
  unfolding step
  one_word i s junk ws to width word e f g =
      ap (after_reading (meaning start) i s junk) e ∙ ap (λ (ts : List Target). carried_out s junk ts (meaning start (operation i) ws s.world)) g
      ∙ ap (carried_out s junk (record { home = to; width = width } ∷ [])) f ∙ carried_one s junk to width word

  -- it leaves the block
  pub one_leave : (i : AirInst) (s : State) (junk : List ℕ) (ws : List Read) (exit : Exit)
      → words s.homes i.operands ≡ Some ws → meaning start (operation i) ws s.world ≡ leaves s.world exit
      → targets i.operands ≡ [] → step (meaning start) i s junk ≡ (Goes (Some exit) s, junk)
  unfolding step
  one_leave i s junk ws exit e f g =
      ap (after_reading (meaning start) i s junk) e ∙ ap (λ (ts : List Target). carried_out s junk ts (meaning start (operation i) ws s.world)) g
      ∙ ap (carried_out s junk []) f ∙ carried_none s junk exit

  -- the first of some instructions goes on
  pub steps_first : (i : AirInst) (is : List AirInst) (s next : State) (junk : List ℕ) → step (meaning start) i s junk ≡ (Goes None next, junk)
      → steps (meaning start) (i ∷ is) s junk ≡ steps (meaning start) is next junk
  unfolding steps
  steps_first i is s next junk e = rw e refl

  pub steps_none : (s : State) (junk : List ℕ) → steps (meaning start) [] s junk ≡ (Goes None s, junk)
  unfolding steps
  steps_none s junk = refl

  pub steps_last : (i : AirInst) (s : State) (junk : List ℕ) (o : Outcome × List ℕ) → step (meaning start) i s junk ≡ o
      → steps (meaning start) (i ∷ []) s junk ≡ o
  steps_last i s junk o e = steps-one (meaning start) i s junk ∙ e

  -- the first of some instructions goes on, having taken some junk
  pub steps_next : (i : AirInst) (is : List AirInst) (s next : State) (junk rest : List ℕ) → step (meaning start) i s junk ≡ (Goes None next, rest)
      → steps (meaning start) (i ∷ is) s junk ≡ steps (meaning start) is next rest
  unfolding steps
  steps_next i is s next junk rest e = rw e refl

  -- the first of some instructions leaves
  pub steps_gone : (i : AirInst) (is : List AirInst) (s next : State) (exit : Exit) (junk rest : List ℕ)
      → step (meaning start) i s junk ≡ (Goes (Some exit) next, rest) → steps (meaning start) (i ∷ is) s junk ≡ (Goes (Some exit) next, rest)
  unfolding steps
  steps_gone i is s next exit junk rest e = rw e refl

  -- it ends the run, in this world, and what it writes takes junk
  pub one_end : (i : AirInst) (s : State) (junk : List ℕ) (ws : List Read) (w : World) (status : Status)
      → words s.homes i.operands ≡ Some ws → meaning start (operation i) ws s.world ≡ ends w status
      → (after : State) × (rest : List ℕ) × (step (meaning start) i s junk ≡ (Goes (Some (Over status)) after, rest)) × (after.world ≡ w)
  unfolding step
  one_end i s junk ws w status e f =
      let ts = targets i.operands in
      let n = length ts - 0 in (
        record { homes = put_all ts (junk_words n junk ++ []) s.homes; world = w },
        drop n junk,
        ap (after_reading (meaning start) i s junk) e ∙ ap (carried_out s junk ts) f,
        refl,
      )

  -- it gives words for the last of the homes that are written, in this world, and those before take junk
  pub one_giving : (i : AirInst) (s : State) (junk : List ℕ) (ws : List Read) (w : World) (results : List ℕ) (ts : List Target)
      → words s.homes i.operands ≡ Some ws → meaning start (operation i) ws s.world ≡ gives w results → targets i.operands ≡ ts
      → step (meaning start) i s junk
      ≡ (
        Goes None (record { homes = put_all ts (junk_words (length ts - length results) junk ++ results) s.homes; world = w }),
        drop (length ts - length results) junk,
      )
  unfolding step
  one_giving i s junk ws w results ts e f g =
      ap (after_reading (meaning start) i s junk) e ∙ ap (λ (us : List Target). carried_out s junk us (meaning start (operation i) ws s.world)) g
      ∙ ap (carried_out s junk ts) f

  -- it changes the world alone
  pub one_quiet : (i : AirInst) (s : State) (junk : List ℕ) (ws : List Read) (w : World)
      → words s.homes i.operands ≡ Some ws → meaning start (operation i) ws s.world ≡ gives w []
      → targets i.operands ≡ [] → step (meaning start) i s junk ≡ (Goes None (record { homes = s.homes; world = w }), junk)
  unfolding step
  one_quiet i s junk ws w e f g =
      ap (after_reading (meaning start) i s junk) e ∙ ap (λ (ts : List Target). carried_out s junk ts (meaning start (operation i) ws s.world)) g
      ∙ ap (carried_out s junk []) f ∙ carried_world s junk w
