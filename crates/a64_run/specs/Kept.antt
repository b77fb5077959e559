-- No public clause cites this module. What the program's state and its steps stand for.
use Rattle.std.specs.Prelude.{◌≡◌, ℕ, ◌≤◌, false, map, IfSome}
use Rattle.std.specs.FinMap as finite
use Rattle.b3_base.specs.Observed.{answer_of, event_of, machine_start_of}
use Rattle.stackmap.specs.Registers.{has}
use Rattle.stackmap.specs.declared.site.Site.{Site}
use Rattle.exit_table.specs.Good.{IsGoodFrame}
use Rattle.elf_obj.specs.Good.{IsGood}
use Rattle.a64_inst.specs.Registers.{registers_of}
use Rattle.a64_run.specs.Machine.{Config, Entry, Runs, State, stops}
use Rattle.a64_run.specs.declared.entry.Entry.{Entry as GivenEntry}
use Rattle.a64_run.specs.declared.entry.Flow.{Flow}
use Rattle.a64_run.specs.declared.entry.Flow.TheVariants as flow
use Rattle.a64_run.specs.declared.entry.State.{State as Kept}

-- what a run is of
abbrev pub entry_of : GivenEntry → Entry
entry_of e = record {
  object = e.object.now;
  symbol = e.symbol.now;
  frame = e.frame.now;
  start = machine_start_of e.start.now;
}

-- the state of a run
abbrev pub state_of : Kept → State
state_of st = record {
  registers = registers_of st.registers;
  memory = finite.get st.memory;
  events = map event_of st.events;
  answers = map answer_of st.answers.now;
}

-- how a step ended, with the state that it left, is what it leads to
abbrev pub Leads : Entry → Flow → State → Config → Type 0
Leads e flow.On st config = config ≡ Runs st
Leads e (flow.Over status) st config = config ≡ stops e st status

-- the object is good, so is the frame, and SP has room for it
pub record IsSound (e : Entry) : Type 0 where
  pub object : IsGood e.object
  pub frame : IsGoodFrame e.frame
  pub room : e.frame.bytes ≤ e.start.sp

-- the result and the clobbers of a site are registers
pub record HasRegisters (site : Site) : Type 0 where
  pub result : IfSome site.result (λ result. result.1.0 ≤ 30)
  pub clobbers : (r : ℕ) → 31 ≤ r → has site.clobbers r ≡ false
