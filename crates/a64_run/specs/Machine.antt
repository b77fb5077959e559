-- The run of the machine from a procedure's symbol (DDI 0487 for instructions). A step looks the site of
-- pc up first: at a patchpoint, and after a BLR at a call, the outside acts; a fault, a break and a link
-- ask the same site.
use Rattle.std.specs.Prelude.{ℕ, zero, suc, ◌+◌, ◌-◌, ◌*◌, ◌/◌, ◌%◌, ◌^◌, Bool, true, false, ◌&&◌, ◌||◌, not, nat_eq, nat_le, is_some, if◌then◌else◌, List, [], ◌∷◌, ◌++◌, Option, Some, None, length, slice_get}
use Rattle.std.specs.Int.{bit_at}
use Rattle.b3_base.specs.Memory.{byte_address, read_word}
use Rattle.b3_base.specs.Observed.{Memory, Event, Answer, Give, Leave, Observation, MachineStart}
use Rattle.b3_base.specs.Run.{iterate}
use Rattle.b3_base.specs.declared.event.EventKind.{EventKind}
use Rattle.b3_base.specs.declared.event.EventKind.TheVariants as event
use Rattle.b3_base.specs.declared.observation.Status.{Status}
use Rattle.b3_base.specs.declared.observation.Status.TheVariants.{Going, Waiting, Left, Returned, Trapped, Exited, Stuck}
use Rattle.stackmap.specs.World.{memory_after, registers_after, junk_at, widths_of, words_in}
use Rattle.stackmap.specs.declared.site.Returns.{Returns}
use Rattle.stackmap.specs.declared.site.Returns.TheVariants.{Nothing, W32, W64}
use Rattle.stackmap.specs.declared.site.SavedRow.{SavedRow}
use Rattle.stackmap.specs.declared.site.Site.{Site}
use Rattle.stackmap.specs.declared.site.SiteKind.{SiteKind}
use Rattle.stackmap.specs.declared.site.SiteKind.TheVariants.{Call, Patchpoint, Exit, Trap}
use Rattle.exit_table.specs.declared.tables.FrameRow.{FrameRow}
use Rattle.exit_table.specs.declared.tables.SiteRow.{SiteRow}
use Rattle.elf_obj.specs.declared.object.Object.{Object}
use Rattle.elf_obj.specs.declared.object.Symbol.{Symbol}
use Rattle.a64_word.specs.Decode.{decode}
use Rattle.a64_inst.specs.Registers.{Registers, Stepped, read_or_sp}
use Rattle.a64_inst.specs.Step.{step_of}
use Rattle.a64_inst.specs.StepMemory.{access_address, access_bytes, index_address, moved_sp, near_address}
use Rattle.a64_inst.specs.declared.inst.Inst.{Inst}
use Rattle.a64_inst.specs.declared.inst.Inst.TheVariants.{Access, AccessNear, AccessIndex, Pair, PairSp, BranchReg}
use Rattle.a64_inst.specs.declared.inst.BranchKind.TheVariants.{Ret}
use Rattle.a64_inst.specs.declared.state.Flags.{Flags}
use Rattle.a64_inst.specs.declared.state.Outcome.{Outcome}
use Rattle.a64_inst.specs.declared.state.Outcome.TheVariants.{Next, Linked, Fault, Break}
use Rattle.a64_run.specs.Placement.{in_frame, in_slot, in_text, visible, entry_memory}

-- what a run is of: a procedure of an object, by its symbol and its frame, and a start
pub record Entry : Type 0 where
  pub object : Object
  pub symbol : Symbol
  pub frame : FrameRow
  pub start : MachineStart

-- the state of a run: the registers, the bytes that data accesses may touch, the events so far
-- and the answers that are left
pub record State : Type 0 where
  pub registers : Registers
  pub memory : Memory
  pub events : List Event
  pub answers : List Answer

-- a run goes on, or it has stopped (or waits) and stays so
pub data Config : Type 0 where
  Runs : (state : State) → Config
  Stops : (seen : Observation) → Config

-- what is seen of a state: of its memory the mapped bytes and the slots' bytes
abbrev pub seen_memory : Entry → Memory → Memory
seen_memory e memory = visible e.frame e.start memory

abbrev pub seen_as : Entry → State → Status → Observation
seen_as e s status = record { status = status; events = s.events; memory = seen_memory e s.memory }

abbrev pub observe : Entry → Config → Observation
observe e (Runs s) = seen_as e s Going
observe e (Stops seen) = seen

-- a run that stops with a status; one that stops in a state that is no return, exit or trap
abbrev pub stops : Entry → State → Status → Config
stops e s status = Stops (seen_as e s status)

abbrev pub stuck : Entry → State → Config
stuck e s = stops e s Stuck

-- ---- the text and its sites

-- the word of the text at an address, where one begins there
abbrev pub word_at : Entry → ℕ → Option ℕ
word_at e address =
    if nat_le e.start.code address && nat_eq ((address - e.start.code) % 4) 0 then slice_get e.object.text ((address - e.start.code) / 4) else None

-- whether an address is that of a word of the text, and of a byte of it: a byte inside a word is the second
-- alone
abbrev pub is_text_word : Entry → ℕ → Bool
is_text_word e address = is_some (word_at e address)

abbrev pub is_text_byte : Entry → ℕ → Bool
is_text_byte e address = in_text e.object e.start address

-- the site that is listed at a byte of the text, and at an address
abbrev pub site_among : ℕ → List SiteRow → Option Site
site_among pc [] = None
site_among pc (row ∷ rows) = if nat_eq row.pc pc then Some row.site else site_among pc rows

abbrev pub site_at : Entry → ℕ → Option Site
site_at e address = if nat_le e.start.code address then site_among (address - e.start.code) e.object.tables.sites else None

-- a site of this kind
abbrev pub same_kind : SiteKind → SiteKind → Bool
same_kind Call Call = true
same_kind Patchpoint Patchpoint = true
same_kind Exit Exit = true
same_kind Trap Trap = true
same_kind _ _ = false

abbrev pub of_kind : SiteKind → Option Site → Option Site
of_kind kind (Some site) = if same_kind kind site.kind then Some site else None
of_kind kind None = None

-- ---- data accesses

-- the bytes that a data access touches, from an address on
abbrev pub touched : Inst → Registers → Option (ℕ × ℕ)
touched (Access kind rt rn units) r = Some (access_address kind rn units r, access_bytes kind)
touched (AccessNear kind rt rn offset) r = Some (near_address rn offset r, access_bytes kind)
touched (AccessIndex load rt rn rm scaled) r = Some (index_address rn rm scaled r, 8)
touched (Pair load rt rt2 rn units) r = Some (moved_sp (read_or_sp r rn) units, 16)
touched (PairSp false rt rt2 units) r = Some (moved_sp r.sp units, 16)
touched (PairSp true rt rt2 units) r = Some (r.sp, 16)
touched _ r = None

-- whether one of n bytes from an address on is a byte of the frame that holds nothing
abbrev pub is_empty_byte : Entry → Memory → ℕ → Bool
is_empty_byte e memory address = in_frame e.frame e.start address && not (is_some (memory address))

abbrev pub touches_empty : Entry → Memory → ℕ → ℕ → Bool
touches_empty e memory address zero = false
touches_empty e memory address (suc n) = touches_empty e memory address n || is_empty_byte e memory (byte_address address n)

abbrev pub touches_empty_at : Entry → Memory → Option (ℕ × ℕ) → Bool
touches_empty_at e memory (Some bytes) = touches_empty e memory bytes.0 bytes.1
touches_empty_at e memory None = false

-- ---- saved registers (AAPCS64, 6.1.1)

-- whether n registers from x19 on have the words that they had at entry
abbrev pub keeps_registers : Entry → Registers → ℕ → Bool
keeps_registers e r zero = true
keeps_registers e r (suc n) = keeps_registers e r n && nat_eq (r.x (19 + n)) (e.start.registers (19 + n))

-- where the frame saves a register, as a distance below x29
abbrev pub saved_at : List SavedRow → ℕ → Option ℕ
saved_at [] r = None
saved_at (row ∷ rows) r = if nat_eq row.reg.0 r then Some row.offset else saved_at rows r

-- whether a word is there and is this one
abbrev pub is_word : Option ℕ → ℕ → Bool
is_word (Some word) wanted = nat_eq word wanted
is_word None wanted = false

-- whether the entry word of a register stands in its saved place, or, where it has none, still in the
-- register. Saved places are measured from the entry SP less 16
abbrev pub keeps_at : Entry → State → ℕ → Option ℕ → Bool
keeps_at e s r (Some offset) = is_word (read_word s.memory (e.start.sp - 16 - offset) 8) (e.start.registers r)
keeps_at e s r None = nat_eq (s.registers.x r) (e.start.registers r)

-- whether this is so for x19 to x28
abbrev pub keeps_first : Entry → State → ℕ → Bool
keeps_first e s zero = true
keeps_first e s (suc n) = keeps_first e s n && keeps_at e s (19 + n) (saved_at e.frame.saved (19 + n))

abbrev pub keeps_saved : Entry → State → Bool
keeps_saved e s = keeps_first e s 10

-- ---- coming back

-- the run has come back to its caller: pc is the entry x30, and SP, x29 and x19 to x28 are as at
-- entry
abbrev pub has_returned : Entry → Registers → Bool
has_returned e r = nat_eq r.pc (e.start.registers 30) && nat_eq r.sp e.start.sp && keeps_registers e r 11

-- the word that is returned
abbrev pub returned_word : Returns → Registers → Option ℕ
returned_word Nothing r = None
returned_word W32 r = Some (r.x 0 % 2 ^ 32)
returned_word W64 r = Some (r.x 0)

-- whether an instruction is a RET
abbrev pub is_ret : Inst → Bool
is_ret (BranchReg Ret rn) = true
is_ret _ = false

-- the run goes on at a word of the text, or is stuck
abbrev pub goes_on : Entry → State → Config
goes_on e s = if is_text_word e s.registers.pc then Runs s else stuck e s

-- after an instruction: a return to the caller, the next instruction, or a stop where no word begins
abbrev pub arrive : Entry → Inst → State → Config
arrive e inst s =
    if is_ret inst && has_returned e s.registers then stops e s (Returned (returned_word e.frame.returns s.registers)) else goes_on e s

-- ---- the outside

-- N, Z, C and V from bits 3 to 0
abbrev pub flags_from : ℕ → Flags
flags_from word = record { n = nat_eq (bit_at word 3) 1; z = nat_eq (bit_at word 2) 1; c = nat_eq (bit_at word 1) 1; v = nat_eq (bit_at word 0) 1 }

-- the state after the i-th event, where the outside gives a value and writes bytes: it goes on at an address
abbrev pub after_world : Entry → Site → ℕ → ℕ → ℕ → Memory → State → State
after_world e site pc i value writes s = record s {
  registers = record {
    x = registers_after site e.start.junk i value s.registers.x;
    sp = s.registers.sp;
    pc = pc;
    flags = flags_from (junk_at e.start.junk i 31);
  };
  memory = memory_after (λ q. is_some (e.start.memory q) || in_slot e.frame e.start q) (in_frame e.frame e.start) s.registers.sp writes s.memory;
}

-- the next answer is taken: the run goes on with what it gives, ends where it leaves, and waits where there
-- is none
abbrev pub answered : Entry → Site → ℕ → ℕ → State → List Answer → Config
answered e site pc i s [] = stops e s Waiting
answered e site pc i s (Leave ∷ rest) = stops e (record s { answers = rest }) Left
answered e site pc i s (Give value writes ∷ rest) = goes_on e (after_world e site pc i value writes (record s { answers = rest }))

-- a world step: an event with the words of the listed places is added; where a place has no word the run
-- is stuck and adds none
abbrev pub world : Entry → Site → EventKind → ℕ → State → Option (List ℕ) → Config
world e site kind pc s (Some words) =
    let shown : Event = record { kind = kind; arguments = words; widths = widths_of site.reps; memory = seen_memory e s.memory } in
    answered e site pc (length s.events) (record s { events = s.events ++ shown ∷ [] }) s.answers
world e site kind pc s None = stuck e s

abbrev pub world_step : Entry → Site → EventKind → ℕ → State → Config
world_step e site kind pc s = world e site kind pc s (words_in s.registers.x s.memory site.reps)

-- ---- steps

-- after a BLR: at a call, to an address that is no byte of the text, the outside acts, and the run goes on
-- after the BLR; else it goes on at the address, and is stuck inside a word
abbrev pub linked : Entry → Inst → ℕ → ℕ → State → Option Site → Config
linked e inst pc target s (Some site) =
    if is_text_byte e target then arrive e inst s else world_step e site (event.Call target) ((pc + 4) % 2 ^ 64) s
linked e inst pc target s None = arrive e inst s

-- a fault at a trap ends the run with the trap's value and the access's first address
abbrev pub faulted : Entry → ℕ → State → Option Site → Config
faulted e address s (Some site) = stops e s (Trapped site.value address)
faulted e address s None = stuck e s

-- BRK #1 at an exit ends the run with the words of its places, where saved registers are kept
abbrev pub exits_with : Entry → State → Site → Option (List ℕ) → Config
exits_with e s site (Some words) = if keeps_saved e s then stops e s (Exited site.value words) else stuck e s
exits_with e s site None = stuck e s

abbrev pub broken : Entry → ℕ → State → Option Site → Config
broken e number s (Some site) = if nat_eq number 1 then exits_with e s site (words_in s.registers.x s.memory site.reps) else stuck e s
broken e number s None = stuck e s

-- what an instruction's outcome leads to, in a state before it
abbrev pub lead : Entry → Inst → State → Stepped → Outcome → Config
lead e inst s after Next = arrive e inst (record s { registers = after.registers; memory = after.memory })
lead e inst s after (Linked target) = linked e inst s.registers.pc target (record s { registers = after.registers; memory = after.memory }) (of_kind Call (site_at e s.registers.pc))
lead e inst s after (Fault address) = faulted e address s (of_kind Trap (site_at e s.registers.pc))
lead e inst s after (Break number) = broken e number s (of_kind Exit (site_at e s.registers.pc))

abbrev pub execute : Entry → State → Inst → Config
execute e s inst =
    if touches_empty_at e s.memory (touched inst s.registers) then stuck e s else lead e inst s (step_of inst s.registers s.memory) (step_of inst s.registers s.memory).outcome

abbrev pub decoded : Entry → State → Option Inst → Config
decoded e s (Some inst) = execute e s inst
decoded e s None = stuck e s

abbrev pub fetched : Entry → State → Option ℕ → Config
fetched e s (Some word) = decoded e s (decode word)
fetched e s None = stuck e s

-- at a patchpoint the outside acts in its place, and the run goes on after it
abbrev pub stepped : Entry → State → Option Site → Config
stepped e s (Some site) = world_step e site (event.Patch site.value) ((s.registers.pc + 4 * site.size) % 2 ^ 64) s
stepped e s None = fetched e s (word_at e s.registers.pc)

-- one step: a run that has stopped stays as it is
abbrev pub machine_step : Entry → Config → Config
machine_step e (Runs s) = stepped e s (of_kind Patchpoint (site_at e s.registers.pc))
machine_step e (Stops seen) = Stops seen

-- the run stands at the symbol, with every register as the start says and the flags clear
abbrev pub first : Entry → List Answer → Config
first e answers = Runs (record {
  registers = record { x = e.start.registers; sp = e.start.sp; pc = e.start.code + e.symbol.offset; flags = record { n = false; z = false; c = false; v = false } };
  memory = entry_memory e.frame e.start;
  events = [];
  answers = answers;
})

-- the run after k steps, and what is seen of it
abbrev pub run_of : Entry → List Answer → ℕ → Config
run_of e answers k = iterate (machine_step e) k (first e answers)

abbrev pub machine_run : Entry → List Answer → ℕ → Observation
machine_run e answers k = observe e (run_of e answers k)
