-- Two procedures with the same targets, whose blocks keep a relation of states, have the same blocks, with the same
-- junk.
use Rattle.std.proofs.Common.{◌≡◌, ℕ, zero, suc, Option, Some, None, List, refl, sym, ap, ◌∙◌, subst}
use Rattle.std.specs.Prelude.{slice_get}
use Rattle.b3_base.specs.Observed.{Answer, Start}
use Rattle.b3_base.specs.Run.{iterate}
use Rattle.b3_base.specs.declared.observation.Status.TheVariants.{Going}
use Rattle.b3_base.proofs.Run.{iterate-related}
use Rattle.air_ir.specs.Blocks.{Config, At, Stopped, Lost, block_step, entered, left, run_step, seen_as}
use Rattle.air_ir.specs.Meaning.{Exit, To, Over, World, meaning}
use Rattle.air_ir.specs.Related.{StepsAlike}
use Rattle.air_ir.specs.Run.{IsUndefined, SameAtEach, air_run, first, observe, run_of}
use Rattle.air_ir.specs.Steps.{Meaning, Outcome, Undefined, Goes, State}
use Rattle.air_ir.specs.declared.procedure.AirInst.{AirInst}
use Rattle.air_ir.specs.declared.procedure.AirProc.{AirProc}
use Rattle.air_ir.proofs.Same.{same_at_each}

module _ (R : ℕ → State → State → Type 0) where
  -- where one run stands, the other one stands, with the same junk left
  unfoldable pub ConfigsAlike : Config × List ℕ → Config × List ℕ → Type 0
  ConfigsAlike (Lost, junk) d = Unit {0}
  ConfigsAlike (Stopped seen, junk) d = d ≡ (Stopped seen, junk)
  ConfigsAlike (At b s, junk) d = (t : State) × (d ≡ (At b t, junk)) × R b s t

  -- ---- from instructions to their block

  entered-alike : (next : Option ℕ) (s t : State) (junk : List ℕ) → ((b : ℕ) → next ≡ Some b → R b s t) → ConfigsAlike (entered next s, junk) (entered next t, junk)
  unfolding ConfigsAlike
  entered-alike None s t junk h = tt
  entered-alike (Some b) s t junk h = (t, refl, h b refl)

  exit-alike : (targets : List ℕ) (exit : Exit) (s t : State) (junk : List ℕ)
      → ((j b : ℕ) → exit ≡ To j → slice_get targets j ≡ Some b → R b s t) → s.world ≡ t.world
      → ConfigsAlike (left targets (Goes (Some exit) s, junk)) (left targets (Goes (Some exit) t, junk))
  unfolding ConfigsAlike
  exit-alike targets (To j) s t junk h same = entered-alike (slice_get targets j) s t junk (λ b e. h j b refl e)
  exit-alike targets (Over status) s t junk h same = ap (λ (w : World). (Stopped (seen_as w status), junk)) (sym same)

  module _ (Leaves : AirInst → Exit → Type 0) (Within : ℕ → State → State → Type 0) (targets : List ℕ) (is : List AirInst)
      (onward : (k : ℕ) (i : AirInst) (j b : ℕ) (s t : State) → slice_get is k ≡ Some i → Leaves i (To j) → slice_get targets j ≡ Some b → Within (suc k) s t → R b s t)
      (worlds : (k : ℕ) (s t : State) → Within k s t → s.world ≡ t.world) where
    pub left-alike : (o p : Outcome × List ℕ) → StepsAlike Leaves is Within o p → ConfigsAlike (left targets o) (left targets p)
    unfolding StepsAlike ConfigsAlike
    left-alike (Undefined, junk) p a = tt
    left-alike (Goes exit s, junk) (Undefined, rest) a = absurd a
    left-alike (Goes None s, junk) (Goes exit t, rest) a = tt
    left-alike (Goes (Some exit) s, junk) (Goes exit' t, rest) a =
        let at = a.2 in
        subst (λ (x : Option Exit). ConfigsAlike (left targets (Goes (Some exit) s, junk)) (left targets (Goes x t, rest))) (sym a.0)
        (subst (λ (j : List ℕ). ConfigsAlike (left targets (Goes (Some exit) s, junk)) (left targets (Goes (Some exit) t, j))) a.1
        (exit-alike targets exit s t junk
        (λ j b e there. onward at.0 at.1 j b s t at.2 (subst (Leaves at.1) e at.3) there at.4)
        (worlds (suc at.0) s t at.4)))

  -- ---- from blocks to runs

  module _ (mean : Meaning) (p q : AirProc)
      (blocks : (b : ℕ) (s t : State) (junk : List ℕ) → R b s t → ConfigsAlike (block_step mean p (At b s, junk)) (block_step mean q (At b t, junk))) where
    pub block-alike : (c d : Config × List ℕ) → ConfigsAlike c d → ConfigsAlike (block_step mean p c) (block_step mean q d)
    unfolding ConfigsAlike block_step
    block-alike (Lost, junk) d a = tt
    block-alike (Stopped seen, junk) d a = ap (block_step mean q) a
    block-alike (At b s, junk) d a =
        subst (λ (x : Config × List ℕ). ConfigsAlike (block_step mean p (At b s, junk)) (block_step mean q x)) (sym a.1) (blocks b s a.0 junk a.2)

    pub run-alike : (c d : Config × List ℕ) → ConfigsAlike c d → ConfigsAlike (run_step mean p c) (run_step mean q d)
    unfolding ConfigsAlike run_step
    run-alike (Lost, junk) d a = tt
    run-alike (Stopped seen, junk) d a = ap (run_step mean q) a
    run-alike (At zero s, junk) d a =
        subst (λ (x : Config × List ℕ). ConfigsAlike (run_step mean p (At zero s, junk)) (run_step mean q x)) (sym a.1)
        (block-alike (block_step mean p (At zero s, junk)) (block_step mean q (At zero a.0, junk)) (blocks zero s a.0 junk a.2))
    run-alike (At (suc b) s, junk) d a =
        subst (λ (x : Config × List ℕ). ConfigsAlike (run_step mean p (At (suc b) s, junk)) (run_step mean q x)) (sym a.1) (blocks (suc b) s a.0 junk a.2)

    pub runs-alike : (n : ℕ) (c d : Config × List ℕ) → ConfigsAlike c d → ConfigsAlike (iterate (run_step mean p) n c) (iterate (run_step mean q) n d)
    runs-alike n c d a = iterate-related (run_step mean p) (run_step mean q) ConfigsAlike run-alike n c d a

  -- what is seen of them
  seen-alike : ((b : ℕ) (s t : State) → R b s t → s.world ≡ t.world) → (c d : Config × List ℕ) → ConfigsAlike c d → ¬ (IsUndefined (observe c.0)) → observe d.0 ≡ observe c.0
  unfolding ConfigsAlike
  seen-alike worlds (Lost, junk) d a defined = absurd (defined refl)
  seen-alike worlds (Stopped seen, junk) d a defined = ap (λ (x : Config × List ℕ). observe x.0) a
  seen-alike worlds (At b s, junk) d a defined =
      ap (λ (x : Config × List ℕ). observe x.0) a.1 ∙ ap (λ (w : World). seen_as w Going) (sym (worlds b s a.0 a.2))

  -- so the runs from a start are the same at each number of steps
  pub same_runs : (p q : AirProc) (start : Start) (answers : List Answer)
      → ((b : ℕ) (s t : State) (junk : List ℕ) → R b s t → ConfigsAlike (block_step (meaning start) p (At b s, junk)) (block_step (meaning start) q (At b t, junk)))
      → ((b : ℕ) (s t : State) → R b s t → s.world ≡ t.world)
      → ((junk : List ℕ) → ConfigsAlike (first start answers, junk) (first start answers, junk))
      → SameAtEach (air_run p start answers) (air_run q start answers)
  same_runs p q start answers blocks worlds begin =
      same_at_each (air_run p start answers) (air_run q start answers) (λ junk n defined. (
        junk,
        seen-alike worlds (run_of p start answers junk n) (run_of q start answers junk n)
            (runs-alike (meaning start) p q blocks n (first start answers, junk) (first start answers, junk) (begin junk)) (defined junk),
      ))
