-- Steps of instructions of Air that compute a word.
use Rattle.std.proofs.Common.{◌≡◌, ℕ, List, [], ◌∷◌, map, Some, None, refl}
use Rattle.b3_base.specs.Observed.{Start}
use Rattle.b3_base.specs.declared.word.Width.{Width}
use Rattle.air_ir.specs.Forms.{Fits, IsHome, Result}
use Rattle.air_ir.specs.Kinds.{Computes, Copies, kind_of}
use Rattle.air_ir.specs.Meaning.{meaning, operation, width_of}
use Rattle.air_ir.specs.Operands.{Holds, Homes, Read, and_word, put_all, targets, word_of, words}
use Rattle.air_ir.specs.Steps.{Goes, State, Undefined, junk_words, step}
use Rattle.air_ir.specs.Words.{computed}
use Rattle.air_ir.specs.declared.operand.Arg.{Arg}
use Rattle.air_ir.specs.declared.operand.Arg.TheVariants.{At, Imm, Addr, Index, FrameSlot}
use Rattle.air_ir.specs.declared.operand.Home.{Home}
use Rattle.air_ir.specs.declared.operand.Operand.{Operand}
use Rattle.air_ir.specs.declared.operand.Role.TheVariants.{Def, Use}
use Rattle.air_ir.specs.declared.procedure.AirInst.{AirInst}
use Rattle.a64_emit.proofs.Storing.{with_home}

-- ---- what operands read and write

pub words_use : (homes : Homes) (o : Operand) (os : List Operand) → o.role ≡ Use
    → words homes (o ∷ os) ≡ and_word o.width (word_of homes o.width o.arg) (words homes os)
unfolding words
words_use homes o os role = rw role refl

pub targets_use : (o : Operand) (os : List Operand) → o.role ≡ Use → targets (o ∷ os) ≡ targets os
unfolding targets
targets_use o os role = rw role refl

-- an operand that is written, in a home
pub record IsWritten (o : Operand) (home : Home) : Type 0 where
  pub role : o.role ≡ Def
  pub arg : o.arg ≡ At home

pub words_result : (homes : Homes) (o : Operand) (home : Home) → IsWritten o home → words homes (o ∷ []) ≡ Some []
unfolding words
words_result homes o home is = rw (is.role, is.arg) refl

pub targets_result : (o : Operand) (home : Home) → IsWritten o home → targets (o ∷ []) ≡ record { home = home; width = o.width } ∷ []
unfolding targets
targets_result o home is = rw (is.role, is.arg) refl

pub words_none : (homes : Homes) → words homes [] ≡ Some []
unfolding words
words_none homes = refl

pub targets_none : targets [] ≡ []
unfolding targets
targets_none = refl

pub home_there : (arg : Arg) → IsHome arg → (home : Home) × (arg ≡ At home)
home_there (At home) h = (home, refl)
home_there (Imm word) h = absurd h
home_there (Addr base offset) h = absurd h
home_there (Index base index shift) h = absurd h
home_there (FrameSlot n) h = absurd h

pub written_home : (width : Width) (o : Operand) → Fits (Result width) o → (home : Home) × IsWritten o home
written_home width o fits = let home = home_there o.arg fits.2 in (home.0, record { role = fits.0; arg = home.1 })

-- ---- steps

module _ (start : Start) (i : AirInst) (s : State) where
  pub step_lost : words s.homes i.operands ≡ None → (junk : List ℕ) → step (meaning start) i s junk ≡ (Undefined, junk)
  unfolding step
  step_lost none junk = rw none refl

  pub step_without : (rs : List Read) → words s.homes i.operands ≡ Some rs → meaning start (operation i) rs s.world ≡ None
      → (junk : List ℕ) → step (meaning start) i s junk ≡ (Undefined, junk)
  unfolding step
  step_without rs reads none junk = rw (reads, none) refl

  pub step_gives : (rs : List Read) (home : Home) (width : Width) (w : ℕ) → words s.homes i.operands ≡ Some rs
      → targets i.operands ≡ record { home = home; width = width } ∷ []
      → meaning start (operation i) rs s.world ≡ Some (record { results = w ∷ []; world = s.world; exit = None })
      → (junk : List ℕ) → step (meaning start) i s junk ≡ (Goes None (with_home s home (Holds width w)), junk)
  unfolding step junk_words put_all
  step_gives rs home width w reads writes gives junk = rw (reads, gives, writes) refl

  pub computes_none : (rs : List Read) → kind_of i.op ≡ Computes → computed i.op (width_of rs) (map (λ (r : Read). r.1) rs) ≡ None
      → meaning start (operation i) rs s.world ≡ None
  unfolding meaning
  computes_none rs kind none = rw (kind, none) refl

  pub computes_word : (rs : List Read) (w : ℕ) → kind_of i.op ≡ Computes → computed i.op (width_of rs) (map (λ (r : Read). r.1) rs) ≡ Some w
      → meaning start (operation i) rs s.world ≡ Some (record { results = w ∷ []; world = s.world; exit = None })
  unfolding meaning
  computes_word rs w kind some = rw (kind, some) refl

  pub copies_word : (r : Read) → kind_of i.op ≡ Copies
      → meaning start (operation i) (r ∷ []) s.world ≡ Some (record { results = r.1 ∷ []; world = s.world; exit = None })
  unfolding meaning
  copies_word r kind = rw kind refl
