-- One instruction by renamed operands, and a list of instructions each as a few others.
use Rattle.std.proofs.Common.{◌≡◌, ℕ, suc, ◌-◌, Option, Some, None, List, [], ◌∷◌, ◌++◌, map, length, drop, arith, refl, sym, ap, ◌∙◌, subst}
use Rattle.std.specs.Prelude.{slice_get}
use Rattle.std.specs.List.{flat_map}
use Rattle.std.proofs.lemmas.List.{length-map}
use Rattle.air_ir.specs.Meaning.{Effect, Exit, operation}
use Rattle.air_ir.specs.Operands.{Read, Target, put_all, targets, words}
use Rattle.air_ir.specs.Related.{Alike, Flows, Gives, IsApart, IsRelated, IsTarget, StepsAlike}
use Rattle.air_ir.specs.Renaming.{rename, rename_inst, rename_target}
use Rattle.air_ir.specs.Steps.{Meaning, Outcome, Undefined, Goes, State, after_reading, carried_out, go_on, junk_words, step, steps, written}
use Rattle.air_ir.specs.declared.operand.Home.{Home}
use Rattle.air_ir.specs.declared.procedure.AirInst.{AirInst}
use Rattle.air_ir.proofs.Reading.{gives-words}
use Rattle.air_ir.proofs.Writing.{put_all-refines, targets-rename}

module _ (loc : Home → Home) (before after : Home → Type 0) where
  written-related : (ts us : List Target) (a : Effect) (s t : State) (junk : List ℕ) → us ≡ map (rename_target loc) ts → IsApart loc after ts
      → ((h : Home) → after h → (IsTarget h ts → ⊥) → before h) → IsRelated loc before s t
      → Alike (IsRelated loc after) (written s junk ts a) (written t junk us a)
  unfolding Alike
  written-related ts us a s t junk e apart through r =
      let n : length us - length a.results ≡ length ts - length a.results = rw e (ap (λ k. k - length a.results) (length-map ts (rename_target loc))) in
      let ws : junk_words (length us - length a.results) junk ++ a.results ≡ junk_words (length ts - length a.results) junk ++ a.results = rw n refl in (
        refl,
        ap (λ k. drop k junk) (sym n),
        record {
          homes = λ h live.
              rw (ws, e) (put_all-refines loc after ts (junk_words (length ts - length a.results) junk ++ a.results) s.homes t.homes apart (λ q l none. r.homes q (through q l none)) h live);
          world = refl;
        },
      )

  carried_out-related : (ts us : List Target) (a b : Option Effect) (s t : State) (junk : List ℕ) → us ≡ map (rename_target loc) ts → b ≡ a → IsApart loc after ts
      → ((h : Home) → after h → (IsTarget h ts → ⊥) → before h) → IsRelated loc before s t
      → Alike (IsRelated loc after) (carried_out s junk ts a) (carried_out t junk us b)
  unfolding Alike
  carried_out-related ts us None b s t junk e f apart through r = tt
  carried_out-related ts us (Some a) b s t junk e f apart through r = rw f (written-related ts us a s t junk e apart through r)

module _ (mean : Meaning) where
  module _ (loc : Home → Home) (before after : Home → Type 0) where
    after_reading-related : (i : AirInst) (s t : State) (junk : List ℕ) (ws vs : Option (List Read)) → Gives ws vs → IsApart loc after (targets i.operands)
        → Flows before after i.operands → IsRelated loc before s t
        → Alike (IsRelated loc after) (after_reading mean i s junk ws) (after_reading mean (rename_inst loc i) t junk vs)
    unfolding Alike Gives
    after_reading-related i s t junk None vs g apart flows r = tt
    after_reading-related i s t junk (Some x) vs g apart flows r =
        rw g (carried_out-related loc before after (targets i.operands) (targets (map (rename loc) i.operands)) (mean (operation i) x s.world) (mean (operation i) x t.world) s t junk
        (targets-rename loc after i.operands) (ap (mean (operation i) x) (sym r.world)) apart flows.through r)

    pub step-related : (i : AirInst) (s t : State) (junk : List ℕ) → IsApart loc after (targets i.operands) → Flows before after i.operands → IsRelated loc before s t
        → Alike (IsRelated loc after) (step mean i s junk) (step mean (rename_inst loc i) t junk)
    unfolding step
    step-related i s t junk apart flows r =
        after_reading-related i s t junk (words s.homes i.operands) (words t.homes (map (rename loc) i.operands))
        (gives-words loc s.homes t.homes i.operands (λ h u. r.homes h (flows.uses h u))) apart flows r

  go_on-end : (o : Outcome × List ℕ) → go_on mean (λ s junk. (Goes None s, junk)) o ≡ o
  go_on-end (Undefined, junk) = refl
  go_on-end (Goes None s, junk) = refl
  go_on-end (Goes (Some exit) s, junk) = refl

  -- one instruction alone
  pub steps-one : (i : AirInst) (s : State) (junk : List ℕ) → steps mean (i ∷ []) s junk ≡ step mean i s junk
  unfolding steps
  steps-one i s junk = go_on-end (step mean i s junk)

  go_on-twice : (f g : State → List ℕ → Outcome × List ℕ) (o : Outcome × List ℕ) → go_on mean (λ s junk. go_on mean g (f s junk)) o ≡ go_on mean g (go_on mean f o)
  go_on-twice f g (Undefined, junk) = refl
  go_on-twice f g (Goes None s, junk) = refl
  go_on-twice f g (Goes (Some exit) s, junk) = refl

  pub steps-append : (is js : List AirInst) (s : State) (junk : List ℕ) → steps mean (is ++ js) s junk ≡ go_on mean (steps mean js) (steps mean is s junk)
  unfolding steps
  steps-append [] js s junk = refl
  steps-append (i ∷ is) js s junk =
      ap (λ f. go_on mean f (step mean i s junk)) (λ k x y. steps-append is js x y k) ∙ go_on-twice (steps mean is) (steps mean js) (step mean i s junk)

  module _ (Leaves : AirInst → Exit → Type 0) (leaves : (i : AirInst) (s s' : State) (exit : Exit) (junk left : List ℕ) → step mean i s junk ≡ (Goes (Some exit) s', left) → Leaves i exit) where
    alike-later : (i : AirInst) (is : List AirInst) (R : ℕ → State → State → Type 0) (o p : Outcome × List ℕ) → StepsAlike Leaves is (λ k. R (suc k)) o p → StepsAlike Leaves (i ∷ is) R o p
    unfolding StepsAlike
    alike-later i is R (Undefined, junk) p a = tt
    alike-later i is R (Goes exit s, junk) (Undefined, left) a = a
    alike-later i is R (Goes None s, junk) (Goes exit t, left) a = a
    alike-later i is R (Goes (Some to) s, junk) (Goes exit t, left) a = (a.0, a.1, (suc a.2.0, a.2.1, a.2.2, a.2.3, a.2.4))

    go_on-related : (i : AirInst) (is : List AirInst) (R : ℕ → State → State → Type 0) (f g : State → List ℕ → Outcome × List ℕ) (o p : Outcome × List ℕ) → Alike (R 1) o p
        → ((to : Exit) (s' : State) (left : List ℕ) → o ≡ (Goes (Some to) s', left) → Leaves i to)
        → ((s t : State) (junk : List ℕ) → R 1 s t → StepsAlike Leaves is (λ k. R (suc k)) (f s junk) (g t junk))
        → StepsAlike Leaves (i ∷ is) R (go_on mean f o) (go_on mean g p)
    unfolding Alike StepsAlike
    go_on-related i is R f g (Undefined, junk) p a gone rest = tt
    go_on-related i is R f g (Goes exit s, junk) (Undefined, left) a gone rest = absurd a
    go_on-related i is R f g (Goes None s, junk) (Goes exit t, left) a gone rest =
        subst (λ (x : Option Exit). StepsAlike Leaves (i ∷ is) R (f s junk) (go_on mean g (Goes x t, left))) a.0
        (subst (λ (j : List ℕ). StepsAlike Leaves (i ∷ is) R (f s junk) (g t j)) a.1 (alike-later i is R (f s junk) (g t junk) (rest s t junk a.2)))
    go_on-related i is R f g (Goes (Some to) s, junk) (Goes exit t, left) a gone rest =
        subst (λ (x : Option Exit). StepsAlike Leaves (i ∷ is) R (Goes (Some to) s, junk) (go_on mean g (Goes x t, left))) a.0 (refl, a.1, (0, i, refl, gone to s junk refl, a.2))

    -- instruction for instruction, where each is as a few others
    pub steps-related : (rewrite : AirInst → List AirInst) (R : ℕ → State → State → Type 0) (is : List AirInst)
        → ((k : ℕ) (i : AirInst) → slice_get is k ≡ Some i → (s t : State) (junk : List ℕ) → R k s t → Alike (R (suc k)) (step mean i s junk) (steps mean (rewrite i) t junk))
        → (s t : State) (junk : List ℕ) → R 0 s t → StepsAlike Leaves is R (steps mean is s junk) (steps mean (flat_map rewrite is) t junk)
    unfolding StepsAlike steps
    steps-related rewrite R [] one s t junk r = (refl, refl, r)
    steps-related rewrite R (i ∷ is) one s t junk r =
        rw (steps-append (rewrite i) (flat_map rewrite is) t junk)
        (go_on-related i is R (steps mean is) (steps mean (flat_map rewrite is)) (step mean i s junk) (steps mean (rewrite i) t junk) (one 0 i refl s t junk r)
        (λ to s' left e. leaves i s s' to junk left e)
        (λ s' t' j r'. steps-related rewrite (λ k. R (suc k)) is (λ k. one (suc k)) s' t' j r'))

  -- a step takes so many words of junk from the front, and leaves the rest
  abbrev pub wanted : AirInst → Option Effect → ℕ
  wanted i (Some a) = length (targets i.operands) - length a.results
  wanted i None = 0

  abbrev pub wants : AirInst → State → Option (List Read) → ℕ
  wants i s (Some ws) = wanted i (mean (operation i) ws s.world)
  wants i s None = 0

  all_taken : (given rest : List ℕ) → junk_words (length given) (given ++ rest) ≡ given
  unfolding junk_words
  all_taken [] rest = refl
  all_taken (x ∷ given) rest = ap (λ ws. x ∷ ws) (all_taken given rest)

  rest_left : (given rest : List ℕ) → drop (length given) (given ++ rest) ≡ rest
  rest_left [] rest = refl
  rest_left (x ∷ given) rest = rest_left given rest

  carrying-takes : (i : AirInst) (s : State) (a : Option Effect) (given : List ℕ) → length given ≡ wanted i a
      → (o : Outcome) × ((rest : List ℕ) → carried_out s (given ++ rest) (targets i.operands) a ≡ (o, rest))
  carrying-takes i s None [] e = (Undefined, λ rest. refl)
  carrying-takes i s None (y ∷ given) e = absurd (omega arith)
  carrying-takes i s (Some a) given e = (
    Goes a.exit (record { homes = put_all (targets i.operands) (given ++ a.results) s.homes; world = a.world }),
    λ rest. rw (← e, all_taken given rest, rest_left given rest) refl,
  )

  reading-takes : (i : AirInst) (s : State) (x : Option (List Read)) (given : List ℕ) → length given ≡ wants i s x
      → (o : Outcome) × ((rest : List ℕ) → after_reading mean i s (given ++ rest) x ≡ (o, rest))
  reading-takes i s None [] e = (Undefined, λ rest. refl)
  reading-takes i s None (y ∷ given) e = absurd (omega arith)
  reading-takes i s (Some ws) given e = carrying-takes i s (mean (operation i) ws s.world) given e

  pub step-takes : (i : AirInst) (s : State) (given : List ℕ) → length given ≡ wants i s (words s.homes i.operands)
      → (o : Outcome) × ((rest : List ℕ) → step mean i s (given ++ rest) ≡ (o, rest))
  unfolding step
  step-takes i s given e = reading-takes i s (words s.homes i.operands) given e
