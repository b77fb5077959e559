-- The step of a Move or a Shuffle, and of what is left of it.
use Rattle.std.proofs.Common.{◌≡◌, ℕ, suc, ◌-◌, Option, Some, None, List, [], ◌∷◌, length, arith, refl, ap, ◌∙◌}
use Rattle.std.proofs.lemmas.List.{length-map}
use Rattle.b3_base.specs.declared.word.Width.{Width}
use Rattle.air_ir.specs.Meaning.{Effect, operation}
use Rattle.air_ir.specs.Operands.{Homes, Read, Target, and_word, put_all, targets, word_of, words}
use Rattle.air_ir.specs.Related.{Alike, AreFine, Copies, Flows, IsRelated}
use Rattle.air_ir.specs.Renaming.{Copy, copy_inst, copy_operands, kept}
use Rattle.air_ir.specs.Steps.{Meaning, Outcome, Undefined, Goes, State, after_reading, carried_out, junk_words, step, steps}
use Rattle.air_ir.specs.declared.operand.Home.{Home}
use Rattle.air_ir.specs.declared.procedure.AirInst.{AirInst}
use Rattle.air_ir.proofs.Copying.{After, copies-refine, plain}
use Rattle.air_ir.proofs.Stepping.{steps-one}

-- a copy reads as many words as it writes
length-and_word : (width : Width) (x : Option ℕ) (rest : Option (List Read)) (n : ℕ) (ws : List Read) → ((vs : List Read) → rest ≡ Some vs → length vs ≡ n)
    → and_word width x rest ≡ Some ws → length ws ≡ suc n
length-and_word width None rest n ws h e = absurd (cc)
length-and_word width (Some x) None n ws h e = absurd (cc)
length-and_word width (Some x) (Some vs) n ws h e = let same : ws ≡ (width, x) ∷ vs = cc in ap length same ∙ ap suc (h vs refl)

length-words : (s : Homes) (cs : List Copy) (ws : List Read) → words s (copy_operands cs) ≡ Some ws → length ws ≡ length (targets (copy_operands cs))
unfolding words copy_operands targets
length-words s [] ws e = let same : ws ≡ [] = cc in ap length same
length-words s (c ∷ cs) ws e =
    length-and_word c.width (word_of s c.width c.from) (words s (copy_operands cs)) (length (targets (copy_operands cs))) ws (length-words s cs) e

-- an instruction of these copies
abbrev pub with_copies : AirInst → List Copy → AirInst
with_copies i cs = record i { operands = copy_operands cs }

-- a copying step, by the words that it reads
copied : State → List ℕ → List Copy → Option (List Read) → Outcome × List ℕ
copied s junk cs None = (Undefined, junk)
copied s junk cs (Some ws) = (Goes None (record { homes = put_all (targets (copy_operands cs)) (plain ws) s.homes; world = s.world }), junk)

carried_out-copied : (ts : List Target) (ws : List Read) (s : State) (junk : List ℕ) (a : Option Effect) → length ws ≡ length ts
    → a ≡ Some (record { results = plain ws; world = s.world; exit = None })
    → carried_out s junk ts a ≡ (Goes None (record { homes = put_all ts (plain ws) s.homes; world = s.world }), junk)
unfolding junk_words
carried_out-copied ts ws s junk a e f =
    let same : length (plain ws) ≡ length ws = length-map ws (λ (r : Read). r.1) in
    let none : length ts - length (plain ws) ≡ 0 = omega (arith, same, e) in
    rw (f, none) refl

module _ (mean : Meaning) where
  after_reading-copied : (i : AirInst) (cs : List Copy) (s : State) (junk : List ℕ) (x : Option (List Read)) → Copies mean (operation i)
      → ((ws : List Read) → x ≡ Some ws → length ws ≡ length (targets (copy_operands cs)))
      → after_reading mean (with_copies i cs) s junk x ≡ copied s junk cs x
  unfolding copied
  after_reading-copied i cs s junk None is h = refl
  after_reading-copied i cs s junk (Some ws) is h =
      carried_out-copied (targets (copy_operands cs)) ws s junk (mean (operation i) ws s.world) (h ws refl) (is ws s.world)

  step-copied : (i : AirInst) (cs : List Copy) (s : State) (junk : List ℕ) → Copies mean (operation i)
      → step mean (with_copies i cs) s junk ≡ copied s junk cs (words s.homes (copy_operands cs))
  unfolding step
  step-copied i cs s junk is = after_reading-copied i cs s junk (words s.homes (copy_operands cs)) is (length-words s.homes cs)

  steps-copied : (i : AirInst) (cs : List Copy) (s : State) (junk : List ℕ) → Copies mean (operation i)
      → steps mean (copy_inst i cs) s junk ≡ copied s junk cs (words s.homes (copy_operands cs))
  unfolding steps copied words copy_operands targets put_all
  steps-copied i [] s junk is = refl
  steps-copied i (c ∷ cs) s junk is = steps-one mean (with_copies i (c ∷ cs)) s junk ∙ step-copied i (c ∷ cs) s junk is

  module _ (loc : Home → Home) (before after : Home → Type 0) where
    copied-related : (cs : List Copy) (s t : State) (junk : List ℕ) (ws vs : Option (List Read)) → IsRelated loc before s t
        → After loc after s.homes t.homes ws vs (targets (copy_operands cs)) (targets (copy_operands (kept loc cs))) s.homes t.homes
        → Alike (IsRelated loc after) (copied s junk cs ws) (copied t junk (kept loc cs) vs)
    unfolding copied Alike After
    copied-related cs s t junk None vs r a = tt
    copied-related cs s t junk (Some ws) vs r a = rw a.1 (refl, refl, record { homes = a.2; world = r.world })

    pub copy-related : (i : AirInst) (cs : List Copy) (s t : State) (junk : List ℕ) → Copies mean (operation i) → AreFine loc after cs
        → Flows before after (copy_operands cs) → IsRelated loc before s t
        → Alike (IsRelated loc after) (step mean (with_copies i cs) s junk) (steps mean (copy_inst i (kept loc cs)) t junk)
    copy-related i cs s t junk is fine flows r =
        rw (step-copied i cs s junk is, steps-copied i (kept loc cs) t junk is)
        (copied-related cs s t junk (words s.homes (copy_operands cs)) (words t.homes (copy_operands (kept loc cs))) r
        (copies-refine loc after s.homes t.homes cs s.homes t.homes fine (λ h u. r.homes h (flows.uses h u))
        (record { done = λ h live none. r.homes h (flows.through h live none); untouched = λ h live w. refl })))
