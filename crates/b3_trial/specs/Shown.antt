-- The text in which an observation is printed: the line of its status, one line for each event, and one for
-- each run of mapped addresses that no mapped address stands beside.
use Rattle.std.specs.Prelude.{ℕ, zero, suc, ◌-◌, ◌/◌, ◌%◌, ◌^◌, Bool, false, ◌||◌, not, ◌==◌, if◌then◌else◌, List, [], ◌∷◌, ◌++◌, codes, Option, Some, None, is_some}
use Rattle.std.specs.List.{flat_map}
use Rattle.std.specs.Fmt.{decimal, digits, digit_glyph}
use Rattle.b3_base.specs.Observed.{Event, Memory, Observation}
use Rattle.b3_base.specs.declared.event.EventKind.{EventKind}
use Rattle.b3_base.specs.declared.event.EventKind.TheVariants.{Call, Patch}
use Rattle.b3_base.specs.declared.observation.Status.{Status}
use Rattle.b3_base.specs.declared.observation.Status.TheVariants.{Going, Waiting, Left, Returned, Trapped, Exited, Undefined, Stuck}

-- ---- numbers

-- an address, in hexadecimal digits of the lower case without leading zeros
abbrev pub address_text : ℕ → List ℕ
address_text address = codes "0x" ++ digits 16 false address

-- a byte, as two hexadecimal digits of the lower case
abbrev pub byte_text : ℕ → List ℕ
byte_text byte = digit_glyph false (byte / 16) ∷ digit_glyph false (byte % 16) ∷ []

-- the id of a value
abbrev pub id_text : ℕ → List ℕ
id_text id = codes "b@" ++ decimal id

-- words in decimals, a blank before each
abbrev pub words_text : List ℕ → List ℕ
words_text [] = []
words_text (word ∷ words) = 32 ∷ (decimal word ++ words_text words)

-- ---- the status

abbrev pub returned_text : Option ℕ → List ℕ
returned_text None = codes "returned"
returned_text (Some word) = codes "returned " ++ decimal word

abbrev pub status_text : Status → List ℕ
status_text Going = codes "going"
status_text Waiting = codes "waiting"
status_text Left = codes "left"
status_text (Returned word) = returned_text word
status_text (Trapped value address) = codes "trapped " ++ (id_text value ++ (32 ∷ address_text address))
status_text (Exited value words) = codes "exited " ++ (id_text value ++ words_text words)
status_text Undefined = codes "undefined"
status_text Stuck = codes "stuck"

-- LF is 10
abbrev pub status_line : Status → List ℕ
status_line status = codes "status " ++ (status_text status ++ (10 ∷ []))

-- ---- the events

abbrev pub kind_text : EventKind → List ℕ
kind_text (Call callee) = codes "call " ++ address_text callee
kind_text (Patch value) = codes "patch " ++ id_text value

abbrev pub event_line : Event → List ℕ
event_line event = codes "event " ++ (kind_text event.kind ++ (58 ∷ (words_text event.arguments ++ (10 ∷ []))))

-- ---- the memory

-- whether no byte stands just before an address, and whether none stands just behind it: 2^64 isn't mapped
abbrev pub is_first : Memory → ℕ → Bool
is_first m address = (address == 0) || not (is_some (m (address - 1)))

abbrev pub is_last : Memory → ℕ → Bool
is_last m address = not (is_some (m (suc address)))

-- `memory A ` before the first byte of a run, LF behind the last one
abbrev pub run_front : Memory → ℕ → List ℕ
run_front m address = if is_first m address then codes "memory " ++ (address_text address ++ (32 ∷ [])) else []

abbrev pub run_back : Memory → ℕ → List ℕ
run_back m address = if is_last m address then 10 ∷ [] else []

-- what the byte at an address adds: nothing where the address isn't mapped
abbrev pub byte_at : Memory → ℕ → Option ℕ → List ℕ
byte_at m address None = []
byte_at m address (Some byte) = run_front m address ++ (byte_text byte ++ run_back m address)

-- what the addresses below a limit add, in rising order
unfoldable pub memory_below : Memory → ℕ → List ℕ
memory_below m zero = []
memory_below m (suc address) = memory_below m address ++ byte_at m address (m address)

-- ---- the whole

abbrev pub shown : Observation → List ℕ
shown seen = status_line seen.status ++ (flat_map event_line seen.events ++ memory_below seen.memory (2 ^ 64))
