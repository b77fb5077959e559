-- What runs are started from and compared by, with each memory as a function from addresses to
-- bytes, as the runs of B3 and of the machine speak of them; and what each value of the program's
-- types stands for.
use Rattle.std.specs.Prelude.{ℕ, ◌+◌, Bool, ◌&&◌, nat_le, nat_lt, List, [], map, Option, Some, None, slice_index}
use Rattle.std.specs.FinMap as map
use Rattle.std.specs.List.{list_any}
use Rattle.b3_base.specs.declared.answer.Answer.{Answer as GivenAnswer}
use Rattle.b3_base.specs.declared.answer.Answer.TheVariants as given
use Rattle.b3_base.specs.declared.event.Event.{Event as ShownEvent}
use Rattle.b3_base.specs.declared.observation.Observation.{Observation as Shown}
use Rattle.b3_base.specs.declared.range.Range.{Range}
use Rattle.b3_base.specs.declared.start.Start.{Start as GivenStart}
use Rattle.b3_base.specs.declared.start.MachineStart.{MachineStart as GivenMachineStart}
use Rattle.b3_base.specs.declared.event.EventKind.{EventKind}
use Rattle.b3_base.specs.declared.observation.Status.{Status}
use Rattle.b3_base.specs.declared.observation.Status.TheVariants.{Undefined}
use Rattle.b3_base.specs.declared.word.Width.{Width}

-- a memory: the byte at each mapped address
abbrev pub Memory : Type 0
Memory = ℕ → Option ℕ

-- the memory without a byte
abbrev pub no_memory : Memory
no_memory _ = None

-- a call or a patchpoint that a run came to, with the words of its arguments and the memory of
-- that moment
pub record Event : Type 0 where
  pub kind : EventKind
  pub arguments : List ℕ
  pub widths : List Width
  pub memory : Memory

-- what the outside answers to an event: a value and the bytes that it wrote, or that it never
-- comes back
pub data Answer : Type 0 where
  Give : (value : ℕ) (writes : Memory) → Answer
  Leave : Answer

-- what is seen of a run at a moment
pub record Observation : Type 0 where
  pub status : Status
  pub events : List Event
  pub memory : Memory

-- what is seen of a run that did what B3 leaves undefined
abbrev pub undefined : Observation
undefined = record { status = Undefined; events = []; memory = no_memory }

-- a start of the B3 run of a procedure: the words of x0 to x7, the frame pointer, the address of
-- each slot, the user's bytes and the slots' bytes, and which bytes are private: the hidden ones,
-- those of the frame that are in no slot, and those of the code
pub record Start : Type 0 where
  pub arguments : ℕ → ℕ
  pub frame_pointer : ℕ
  pub slots : List ℕ
  pub memory : Memory
  pub is_hidden : ℕ → Bool
  pub is_code : ℕ → Bool

-- a start of a run of the machine: the words of x0 to x30, SP, the address of the text, the user's
-- bytes, the bytes of the frame at entry, and the words that calls and patchpoints leave in what
-- they clobber
pub record MachineStart : Type 0 where
  pub registers : ℕ → ℕ
  pub sp : ℕ
  pub code : ℕ
  pub memory : Memory
  pub stack : ℕ → ℕ
  pub junk : ℕ → ℕ

-- ---- what the program's values stand for

abbrev pub answer_of : GivenAnswer → Answer
answer_of (given.Give value writes) = Give value (map.get writes)
answer_of given.Leave = Leave

abbrev pub event_of : ShownEvent → Event
event_of event = record { kind = event.kind; arguments = event.arguments; widths = event.widths; memory = map.get event.memory }

abbrev pub observation_of : Shown → Observation
observation_of shown = record { status = shown.status; events = map event_of shown.events; memory = map.get shown.memory }

-- whether an address is one of a range
abbrev pub in_range : ℕ → Range → Bool
in_range address range = nat_le range.first address && nat_lt address (range.first + range.len)

abbrev pub start_of : GivenStart → Start
start_of start = record {
  arguments = slice_index start.arguments;
  frame_pointer = start.frame_pointer;
  slots = start.slots;
  memory = map.get start.memory;
  is_hidden = λ address. list_any (in_range address) start.hidden;
  is_code = λ address. in_range address start.code;
}

-- a byte that isn't there counts as 0
abbrev pub byte_or_zero : Option ℕ → ℕ
byte_or_zero (Some byte) = byte
byte_or_zero None = 0

-- a byte of the frame that isn't given counts as 0, and so does a word of junk past the last
abbrev pub machine_start_of : GivenMachineStart → MachineStart
machine_start_of start = record {
  registers = slice_index start.registers;
  sp = start.sp;
  code = start.code;
  memory = map.get start.memory;
  stack = λ address. byte_or_zero (map.get start.stack address);
  junk = slice_index start.junk;
}
