-- What an op makes of the words that it reads.
use Rattle.std.specs.Prelude.{ℕ, ℤ, suc, Bool, nat_eq, if◌then◌else◌, List, [], ◌∷◌, ◌++◌, map, Option, Some, None, slice_get}
use Rattle.b3_base.specs.Arithmetic.{low}
use Rattle.b3_base.specs.Memory.{read_word, write_word}
use Rattle.b3_base.specs.Observed.{Answer, Give, Leave, Event, Memory, Start}
use Rattle.b3_base.specs.Signed.{is_signed, signed, unsigned}
use Rattle.b3_base.specs.declared.event.EventKind.{EventKind}
use Rattle.b3_base.specs.declared.event.EventKind.TheVariants as event
use Rattle.b3_base.specs.declared.observation.Status.{Status}
use Rattle.b3_base.specs.declared.observation.Status.TheVariants.{Waiting, Left, Returned, Trapped, Exited}
use Rattle.b3_base.specs.declared.word.Width.{Width}
use Rattle.b3_base.specs.declared.word.Width.TheVariants.{W64}
use Rattle.b3_meaning.specs.Access.{Accessed, Done, Trap, Refused, access}
use Rattle.b3_meaning.specs.Run.{checked_result, extended, with_writes}
use Rattle.b3_meaning.specs.declared.role.Checked.{Checked}
use Rattle.air_ir.specs.Kinds.{Kind, Copies, Computes, Loads, Stores, Checks, ChecksResult, Calls, Patches, SlotAddresses, FramePointers, Branches, Jumps, Switches, Returns, Fails, extent_bytes, kind_of}
use Rattle.air_ir.specs.Operands.{Read}
use Rattle.air_ir.specs.Words.{Tested, computed, test}
use Rattle.air_ir.specs.declared.op.AirOp.{AirOp}
use Rattle.air_ir.specs.declared.procedure.AirInst.{AirInst}

-- what an instruction acts on beside homes: the memory, the events so far and the answers that are left
pub record World : Type 0 where
  pub memory : Memory
  pub events : List Event
  pub answers : List Answer

-- where control leaves a block: to one of its targets, by its number, or the run is over with a status
pub data Exit : Type 0 where
  To : (target : ℕ) → Exit
  Over : (status : Status) → Exit

-- what an op makes of the words that it reads: words for the last of the homes that are written, a world,
-- and where control leaves, if it does
pub record Effect : Type 0 where
  pub results : List ℕ
  pub world : World
  pub exit : Option Exit

-- an instruction without its operands
pub record Operation : Type 0 where
  pub op : AirOp
  pub value : ℕ
  pub traps : Bool

abbrev pub operation : AirInst → Operation
operation i = record { op = i.op; value = i.value; traps = i.traps }

abbrev pub gives : World → List ℕ → Option Effect
gives w results = Some (record { results = results; world = w; exit = None })

abbrev pub gives_word : World → Option ℕ → Option Effect
gives_word w (Some word) = gives w (word ∷ [])
gives_word w None = None

abbrev pub leaves : World → Exit → Option Effect
leaves w exit = Some (record { results = []; world = w; exit = Some exit })

-- the run is over with a status
abbrev pub ends : World → Status → Option Effect
ends w status = leaves w (Over status)

-- ---- accesses

-- an access with traps ends the run with its value and its first address, and writes nothing
abbrev pub accesses : ℕ → World → Accessed → Option Effect → Option Effect
accesses value w Done otherwise = otherwise
accesses value w (Trap address) otherwise = ends w (Trapped value address)
accesses value w (Refused undefined) otherwise = None

abbrev pub loaded : Bool → ℕ → Option ℕ → Option ℕ
loaded extends bytes (Some word) = Some (extended extends bytes word)
loaded extends bytes None = None

abbrev pub loads : Start → Operation → ℕ → Bool → List ℕ → World → Option Effect
loads start o bytes extends (address ∷ []) w =
    accesses o.value w (access start w.memory address bytes o.traps)
    (gives_word w (loaded extends bytes (read_word w.memory address bytes)))
loads start o bytes extends _ w = None

abbrev pub stores : Start → Operation → ℕ → List ℕ → World → Option Effect
stores start o bytes (word ∷ address ∷ []) w =
    accesses o.value w (access start w.memory address bytes o.traps)
    (gives (record w { memory = write_word w.memory address bytes word }) [])
stores start o bytes _ w = None

-- ---- calls and patchpoints

-- the next answer is taken: the run goes on with what it gives, ends where it leaves, and waits where there
-- is none
abbrev pub answered : Bool → World → List Answer → Option Effect
answered typed w [] = ends w Waiting
answered typed w (Leave ∷ rest) = ends (record w { answers = rest }) Left
answered typed w (Give value writes ∷ rest) =
    gives (record w { memory = with_writes w.memory writes; answers = rest }) (if typed then value ∷ [] else [])

-- an event with these words is added, and answered
abbrev pub asks : EventKind → Bool → List Read → World → Option Effect
asks kind typed words w =
    let shown : Event = record {
      kind = kind;
      arguments = map (λ (r : Read). r.1) words;
      widths = map (λ (r : Read). r.0) words;
      memory = w.memory;
    } in
    answered typed (record w { events = w.events ++ shown ∷ [] }) w.answers

-- a call of a function in the code is undefined
abbrev pub calls : Start → Bool → List Read → World → Option Effect
calls start typed (callee ∷ words) w = if start.is_code callee.1 then None else asks (event.Call callee.1) typed words w
calls start typed [] w = None

-- ---- checks

-- the run leaves the procedure where the test passes
abbrev pub checks : ℕ → Option Tested → World → Option Effect
checks value (Some (passes, reported)) w = if passes then ends w (Exited value reported) else gives w []
checks value None w = None

-- the run leaves it where the whole result is no signed number of the width
abbrev pub checked : ℕ → Width → ℤ → List ℕ → World → Option Effect
checked value width number reported w =
    if is_signed width number then gives w (unsigned width number ∷ []) else ends w (Exited value reported)

abbrev pub checks_result : ℕ → Checked → Width → List ℕ → World → Option Effect
checks_result value kind width (x ∷ y ∷ reported) w =
    checked value width (checked_result kind (signed width x) (signed width y)) reported w
checks_result value kind width _ w = None

-- ---- terminals

abbrev pub branches : Option Tested → World → Option Effect
branches (Some (passes, rest)) w = leaves w (To (if passes then 0 else 1))
branches None w = None

-- the number of the first case that is equal to a word in its width, and that of the cases where none is
abbrev pub case_number : Width → ℕ → List ℕ → ℕ
case_number width word [] = 0
case_number width word (case ∷ cases) = if nat_eq (low width case) word then 0 else suc (case_number width word cases)

abbrev pub switches : Width → List ℕ → List ℕ → World → Option Effect
switches width cases (word ∷ []) w = leaves w (To (case_number width word cases))
switches width cases _ w = None

abbrev pub returns : List ℕ → World → Option Effect
returns [] w = ends w (Returned None)
returns (word ∷ []) w = ends w (Returned (Some word))
returns _ w = None

-- ---- slots

abbrev pub slot_address : Start → List ℕ → Option ℕ
slot_address start (number ∷ []) = slice_get start.slots number
slot_address start _ = None

-- ---- kinds

-- what an operation of a kind makes of words, the first of which has this width
abbrev pub effect_of : Kind → Start → Operation → Width → List Read → List ℕ → World → Option Effect
effect_of Copies start o width typed words w = gives w words
effect_of Computes start o width typed words w = gives_word w (computed o.op width words)
effect_of (Loads extent extends) start o width typed words w = loads start o (extent_bytes extent width) extends words w
effect_of (Stores extent) start o width typed words w = stores start o (extent_bytes extent width) words w
effect_of (Checks t) start o width typed words w = checks o.value (test t width words) w
effect_of (ChecksResult checked) start o width typed words w = checks_result o.value checked width words w
effect_of (Calls has_result) start o width typed words w = calls start has_result typed w
effect_of (Patches has_result) start o width typed words w = asks (event.Patch o.value) has_result typed w
effect_of SlotAddresses start o width typed words w = gives_word w (slot_address start words)
effect_of FramePointers start o width typed words w = gives_word w (Some start.frame_pointer)
effect_of (Branches t) start o width typed words w = branches (test t width words) w
effect_of Jumps start o width typed words w = leaves w (To 0)
effect_of (Switches cases) start o width typed words w = switches width cases words w
effect_of Returns start o width typed words w = returns words w
effect_of Fails start o width typed words w = None

-- the width of the first word
abbrev pub width_of : List Read → Width
width_of [] = W64
width_of (r ∷ rest) = r.0

-- the meaning of an operation; none where it is undefined
unfoldable pub meaning : Start → Operation → List Read → World → Option Effect
meaning start o words w = effect_of (kind_of o.op) start o (width_of words) words (map (λ (r : Read). r.1) words) w
