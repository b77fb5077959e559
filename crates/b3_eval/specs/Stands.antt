-- No public clause cites this module. What the program's state and its steps stand for.
use Rattle.std.specs.Prelude.{◌≡◌, ℕ, List, map, drop}
use Rattle.std.specs.BTreeMap as tree
use Rattle.std.specs.FinMap as finite
use Rattle.std.specs.Ordering.{nat_cmp}
use Rattle.b3_base.specs.Observed.{Answer, answer_of, event_of}
use Rattle.b3_base.specs.declared.answer.Answer.{Answer as GivenAnswer}
use Rattle.b3_eval.specs.declared.state.Flow.{Flow}
use Rattle.b3_eval.specs.declared.state.Flow.TheVariants as flow
use Rattle.b3_eval.specs.declared.state.State.{State as Kept}
use Rattle.b3_meaning.specs.Run.{Config, At, Over, Lost, Effect, Next, To, End, State, ends, seen_as}

-- the state of a run, with these answers left
abbrev pub state_of : List Answer → Kept → State
state_of rest st = record {
  words = tree.get nat_cmp st.words;
  locations = tree.get nat_cmp st.locations;
  memory = finite.get st.memory;
  events = map event_of st.events;
  answers = rest;
}

-- the answers that are left after some were taken
abbrev pub answers_from : List GivenAnswer → ℕ → List Answer
answers_from answers taken = map answer_of (drop taken answers)

abbrev pub IsLost : Effect → Type 0
IsLost (End (Lost loss)) = Unit {0}
IsLost _ = ⊥

-- how a value's step ended, with the state that it left, is what the value leads to
abbrev pub Shows : Flow → State → Effect → Type 0
Shows flow.Next st effect = effect ≡ Next st
Shows (flow.To block) st effect = effect ≡ To block st
Shows (flow.Over status) st effect = effect ≡ ends st status
Shows flow.Lost st effect = IsLost effect

abbrev pub IsLostRun : Config → Type 0
IsLostRun (Lost loss) = Unit {0}
IsLostRun _ = ⊥

-- how a block's step ended: it never ends between two values
abbrev pub Leads : Flow → State → Config → Type 0
Leads flow.Next st config = ⊥
Leads (flow.To block) st config = config ≡ At block st
Leads (flow.Over status) st config = config ≡ Over (seen_as st status)
Leads flow.Lost st config = IsLostRun config
