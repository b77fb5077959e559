-- Blocks walked value by value, and runs block by block.
use Rattle.std.proofs.Common.{◌≡◌, ℕ, List, ◌∷◌, refl, sym, ap, subst, ◌∙◌}
use Rattle.b3_base.specs.Observed.{Start}
use Rattle.b3_base.specs.declared.observation.Status.{Status}
use Rattle.b3_ir.specs.Naming.{type_of}
use Rattle.b3_ir.specs.Procedure.{Procedure, values_of}
use Rattle.b3_ir.specs.declared.opcode.Ty.{Ty}
use Rattle.b3_ir.specs.declared.value.Value.{Value}
use Rattle.b3_meaning.specs.Run.{Config, At, Over, Lost, Loss, Effect, Next, To, End, State, after, block_step, effect, ends, run_values, seen_as}
use Rattle.b3_eval.specs.Stands.{IsLost, IsLostRun, Leads, Shows}
use Rattle.b3_eval.specs.declared.state.Flow.{Flow}
use Rattle.b3_eval.specs.declared.state.Flow.TheVariants as flow

-- ---- values

pub stepped_next : (types : ℕ → Ty) (start : Start) (vs rest : List Value) (v : Value) (st new : State) (way : Flow) → vs ≡ v ∷ rest → way ≡ flow.Next →
    Shows way new (effect types start st v) → run_values types start vs st ≡ run_values types start rest new
stepped_next types start vs rest v st new way is next shows =
    let e : effect types start st v ≡ Next new = subst (λ (f : Flow). Shows f new (effect types start st v)) next shows in
    ap (λ (xs : List Value). run_values types start xs st) is ∙ ap (λ (x : Effect). after x (run_values types start rest)) e

pub stepped_to : (types : ℕ → Ty) (start : Start) (vs rest : List Value) (v : Value) (st new : State) (way : Flow) (block : ℕ) → vs ≡ v ∷ rest →
    way ≡ flow.To block → Shows way new (effect types start st v) → run_values types start vs st ≡ At block new
stepped_to types start vs rest v st new way block is to shows =
    let e : effect types start st v ≡ To block new = subst (λ (f : Flow). Shows f new (effect types start st v)) to shows in
    ap (λ (xs : List Value). run_values types start xs st) is ∙ ap (λ (x : Effect). after x (run_values types start rest)) e

pub stepped_over : (types : ℕ → Ty) (start : Start) (vs rest : List Value) (v : Value) (st new : State) (way : Flow) (status : Status) → vs ≡ v ∷ rest →
    way ≡ flow.Over status → Shows way new (effect types start st v) → run_values types start vs st ≡ Over (seen_as new status)
stepped_over types start vs rest v st new way status is over shows =
    let e : effect types start st v ≡ ends new status = subst (λ (f : Flow). Shows f new (effect types start st v)) over shows in
    ap (λ (xs : List Value). run_values types start xs st) is ∙ ap (λ (x : Effect). after x (run_values types start rest)) e

lost_after : (e : Effect) (others : State → Config) → IsLost e → IsLostRun (after e others)
lost_after (Next st) others lost = absurd lost
lost_after (To block st) others lost = absurd lost
lost_after (End (At block st)) others lost = absurd lost
lost_after (End (Over seen)) others lost = absurd lost
lost_after (End (Lost loss)) others lost = tt

pub stepped_lost : (types : ℕ → Ty) (start : Start) (all vs rest : List Value) (v : Value) (first st new : State) (way : Flow) →
    run_values types start all first ≡ run_values types start vs st → vs ≡ v ∷ rest → way ≡ flow.Lost → Shows way new (effect types start st v) →
    IsLostRun (run_values types start all first)
stepped_lost types start all vs rest v first st new way same is lost shows =
    let e : IsLost (effect types start st v) = subst (λ (f : Flow). Shows f new (effect types start st v)) lost shows in
    subst IsLostRun (sym (same ∙ ap (λ (xs : List Value). run_values types start xs st) is)) (lost_after (effect types start st v) (run_values types start
    rest) e)

-- ---- blocks

pub led_to : (p : Procedure) (start : Start) (types : ℕ → Ty) (block next : ℕ) (st new : State) (way : Flow) → types ≡ type_of p → way ≡ flow.To next →
    Leads way new (run_values types start (values_of p block) st) → block_step p start (At block st) ≡ At next new
led_to p start types block next st new way same to leads =
    ap (λ (t : ℕ → Ty). run_values t start (values_of p block) st) (sym same) ∙ subst (λ (f : Flow). Leads f new (run_values types start (values_of p
    block) st)) to leads

pub led_over : (p : Procedure) (start : Start) (types : ℕ → Ty) (block : ℕ) (st new : State) (way : Flow) (status : Status) → types ≡ type_of p →
    way ≡ flow.Over status → Leads way new (run_values types start (values_of p block) st) → block_step p start (At block st) ≡ Over (seen_as new status)
led_over p start types block st new way status same over leads =
    ap (λ (t : ℕ → Ty). run_values t start (values_of p block) st) (sym same) ∙ subst (λ (f : Flow). Leads f new (run_values types start (values_of p
    block) st)) over leads

lost_is : (c : Config) → IsLostRun c → (loss : Loss) × (c ≡ Lost loss)
lost_is (At block st) lost = absurd lost
lost_is (Over seen) lost = absurd lost
lost_is (Lost loss) lost = (loss, refl)

pub led_lost : (p : Procedure) (start : Start) (types : ℕ → Ty) (block : ℕ) (st new : State) (way : Flow) → types ≡ type_of p → way ≡ flow.Lost →
    Leads way new (run_values types start (values_of p block) st) → (loss : Loss) × (block_step p start (At block st) ≡ Lost loss)
led_lost p start types block st new way same lost leads =
    let is = lost_is (run_values types start (values_of p block) st) (subst (λ (f : Flow). Leads f new (run_values types start (values_of p block) st))
    lost leads) in
    (is.0, ap (λ (t : ℕ → Ty). run_values t start (values_of p block) st) (sym same) ∙ is.1)
