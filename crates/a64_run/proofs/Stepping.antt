-- Steps of the program's state, and the run that they make.
use Rattle.std.proofs.Common.{◌≡◌, ℕ, zero, suc, ◌-◌, ◌<◌, Bool, true, false, List, Result, Some, refl, sym, ap, subst, ◌∙◌, arith}
use Rattle.std.specs.Prelude.{IfOk, slice_get}
use Rattle.b3_base.specs.Observed.{Memory, Observation, observation_of}
use Rattle.b3_base.specs.Run.{iterate}
use Rattle.b3_base.proofs.Run.{iterate-suc}
use Rattle.b3_base.specs.declared.observation.Observation.{Observation as Shown}
use Rattle.b3_base.specs.declared.observation.Status.{Status}
use Rattle.b3_base.specs.declared.seq.NoMemory.{NoMemory}
use Rattle.stackmap.specs.declared.site.SiteKind.TheVariants.{Exit, Trap}
use Rattle.a64_inst.specs.Registers.{Registers}
use Rattle.a64_inst.specs.Step.{step_of}
use Rattle.a64_inst.specs.declared.inst.Inst.{Inst}
use Rattle.a64_inst.specs.declared.state.Outcome.{Outcome}
use Rattle.a64_inst.specs.declared.state.Outcome.TheVariants as outcome
use Rattle.a64_run.specs.declared.entry.Flow.{Flow}
use Rattle.a64_run.specs.declared.entry.Flow.TheVariants as flow
use Rattle.a64_run.proofs.Unchanged.{stops_here, unchanged}
use Rattle.a64_run.specs.Kept.{Leads}
use Rattle.a64_run.specs.Machine.{Config, Entry, Runs, State, broken, execute, faulted, of_kind, site_at, stops, touched, touches_empty_at}

-- ---- an instruction that leads nowhere

same_state : (s : State) (registers : Registers) (memory : Memory) → registers ≡ s.registers → memory ≡ s.memory
    → record s { registers = registers; memory = memory } ≡ s
same_state s registers memory r m = rw (r, m) refl

pub stays_same : (s : State) (inst : Inst) (registers : Registers) (memory : Memory) (way : Outcome) → way ≡ (step_of inst s.registers s.memory).outcome
    → stops_here way ≡ true → registers ≡ (step_of inst s.registers s.memory).registers
    → memory ≡ (step_of inst s.registers s.memory).memory → record s { registers = registers; memory = memory } ≡ s
stays_same s inst registers memory way is stopped r m =
    let stay = unchanged inst s.registers s.memory (ap stops_here (sym is) ∙ stopped) in
    same_state s registers memory (r ∙ stay.0) (m ∙ stay.1)

pub executes_fault : (e : Entry) (s : State) (inst : Inst) (address : ℕ) (told : Bool) → told ≡ touches_empty_at e s.memory (touched inst s.registers)
    → told ≡ false
    → outcome.Fault address ≡ (step_of inst s.registers s.memory).outcome → execute e s inst ≡ faulted e address s (of_kind Trap (site_at e s.registers.pc))
executes_fault e s inst address told is none way = rw (sym is ∙ none, sym way) refl

pub executes_break : (e : Entry) (s : State) (inst : Inst) (number : ℕ) (told : Bool) → told ≡ touches_empty_at e s.memory (touched inst s.registers)
    → told ≡ false
    → outcome.Break number ≡ (step_of inst s.registers s.memory).outcome → execute e s inst ≡ broken e number s (of_kind Exit (site_at e s.registers.pc))
executes_break e s inst number told is none way = rw (sym is ∙ none, sym way) refl

pub leads_same : (e : Entry) (way : Flow) (s new : State) (config other : Config) → new ≡ s → other ≡ config → Leads e way s config → Leads e way new other
leads_same e way s new config other same is leads =
    subst (λ (t : State). Leads e way t other) (sym same) (subst (λ (c : Config). Leads e way s c) (sym is) leads)

pub leads_ok : (e : Entry) (found : Result Flow NoMemory) (s : State) (config other : Config) → other ≡ config → IfOk found (λ way. Leads e way s config)
    → IfOk found (λ way. Leads e way s other)
leads_ok e found s config other is leads = subst (λ (c : Config). IfOk found (λ way. Leads e way s c)) (sym is) leads

-- ---- the run

pub one_less : (f : Config → Config) (n : ℕ) (s : Config) → 0 < n → iterate f n s ≡ iterate f (n - 1) (f s)
one_less f zero s some = absurd (omega arith)
one_less f (suc n) s some = let e : n ≡ suc n - 1 = omega arith in iterate-suc f n s ∙ ap (λ k. iterate f k (f s)) e

pub led_on : (e : Entry) (way : Flow) (s : State) (config : Config) → way ≡ flow.On → Leads e way s config → config ≡ Runs s
led_on e way s config is leads = subst (λ (w : Flow). Leads e w s config) is leads

pub led_over : (e : Entry) (way : Flow) (s : State) (config : Config) (status : Status) → way ≡ flow.Over status → Leads e way s config
    → config ≡ stops e s status
led_over e way s config status is leads = subst (λ (w : Flow). Leads e w s config) is leads

pub seen_same : (found : Result Shown NoMemory) (x y : Observation) → x ≡ y → IfOk found (λ seen. observation_of seen ≡ x)
    → IfOk found (λ seen. observation_of seen ≡ y)
seen_same found x y same seen = subst (λ (z : Observation). IfOk found (λ seen. observation_of seen ≡ z)) same seen

-- ---- what stands at one place is one

pub same_item : {X : Type 0} (xs : List X) (k : ℕ) (x y : X) → slice_get xs k ≡ Some x → slice_get xs k ≡ Some y → x ≡ y
same_item xs k x y first second = cc
