-- What emitted code is: labelled code in which the items from each block's label on do what the block does, up to the label
-- of the next one or to the instruction that ends the run.
use Rattle.std.specs.Prelude.{◌≡◌, ◌≢◌, ◌⊎◌, ℕ, zero, suc, ◌+◌, ◌<◌, ◌≤◌, ◌%◌, min, false, true, ◌||◌, List, [], ◌∷◌, ◌++◌, length, All, AllPairs, Option, Some, slice_get, is_some}
use Rattle.b3_base.specs.Memory.{byte_address}
use Rattle.b3_base.specs.Observed.{Answer, Event, Give, Leave, Memory, Observation}
use Rattle.b3_base.specs.Ranged.{IsRangedAnswer}
use Rattle.b3_base.specs.Run.{iterate}
use Rattle.b3_base.specs.declared.event.EventKind.{EventKind}
use Rattle.b3_base.specs.declared.event.EventKind.TheVariants as event
use Rattle.b3_base.specs.declared.observation.Status.{Status}
use Rattle.b3_base.specs.declared.observation.Status.TheVariants.{Exited, Left, Returned, Trapped, Waiting}
use Rattle.stackmap.specs.World.{junk_at, memory_after, registers_after, widths_of, words_in}
use Rattle.stackmap.specs.declared.site.Site.{Site}
use Rattle.stackmap.specs.declared.site.SiteKind.{SiteKind}
use Rattle.stackmap.specs.declared.site.SiteKind.TheVariants.{Call as CallSite, Exit as ExitSite, Patchpoint, Trap}
use Rattle.a64_inst.specs.Registers.{AreWords}
use Rattle.a64_inst.specs.Step.{step_of}
use Rattle.a64_inst.specs.declared.inst.BranchKind.TheVariants.{Blr, Ret}
use Rattle.a64_inst.specs.declared.inst.Inst.{Inst}
use Rattle.a64_inst.specs.declared.inst.Inst.TheVariants.{BranchReg, Break}
use Rattle.a64_inst.specs.declared.item.Item.{Item}
use Rattle.a64_inst.specs.declared.item.Item.TheVariants.{Plain}
use Rattle.a64_inst.specs.declared.state.Outcome.TheVariants.{Fault}
use Rattle.air_ir.specs.Blocks.{Config, At, Stopped, Lost, block_step}
use Rattle.air_ir.specs.Meaning.{World, meaning}
use Rattle.air_ir.specs.Run.{first_homes}
use Rattle.air_ir.specs.Steps.{State}
use Rattle.air_ir.specs.Weight.{weight}
use Rattle.air_ir.specs.declared.frame.Frame.{Frame}
use Rattle.air_ir.specs.declared.procedure.AirProc.{AirProc}
use Rattle.a64_layout.specs.Layout.{Set, most_words, place, position_of}
use Rattle.a64_layout.specs.Machine.{Machine, machine_of, moved_to}
use Rattle.a64_layout.specs.Run as run
use Rattle.a64_layout.specs.Text.{IsWellLabelled, label_count, mark_count, mark_position_of}
use Rattle.a64_run.specs.Machine.{flags_from, returned_word, touched}
use Rattle.a64_run.specs.Placement.{entry_memory, in_frame, in_slot, visible}
use Rattle.a64_emit.specs.Code.{emitted}
use Rattle.a64_emit.specs.Setting.{Setting, IsSet, address_of, meaning_of, row, site_before}
use Rattle.a64_emit.specs.Related.{HasFrame, IsRelated}
use Rattle.a64_emit.specs.Sites.{IsSiteIn, SuitsItems}

-- ---- moments

-- an instruction that is done there touches of the frame only bytes at SP or above, the lower of before and after; it
-- leaves x18
pub record IsSafe (z : Setting) (c : Machine) (inst : Inst) : Type 0 where
  pub there : (at n i : ℕ) → touched inst c.registers ≡ Some (at, n) → i < n
      → in_frame (row z) z.entry (byte_address at i) ≡ true
      → min c.registers.sp (step_of inst c.registers c.memory).registers.sp ≤ byte_address at i
  pub platform : (step_of inst c.registers c.memory).registers.x 18 ≡ c.registers.x 18

abbrev pub IsSafeItem : Setting → Machine → Option Item → Type 0
IsSafeItem z c (Some (Plain inst)) = IsSafe z c inst
IsSafeItem z c _ = Unit {0}

-- at an item SP is aligned, the frame's bytes are there, and what is done is safe
pub record IsProperAt (z : Setting) (k : ℕ) (c : Machine) : Type 0 where
  pub aligned : c.registers.sp % 16 ≡ 0
  pub whole : (address : ℕ) → in_frame (row z) z.entry address ≡ true → (byte : ℕ) × (c.memory address ≡ Some byte)
  pub safe : IsSafeItem z (moved_to (address_of z k) c) (slice_get z.code k)

abbrev pub IsProper : Setting → run.Config Machine Inst → Type 0
IsProper z (run.At k c) = IsProperAt z k c
IsProper z (run.Ended end c) = ⊥
IsProper z run.Broken = ⊥

-- ---- what is seen

-- the events so far and the answers that are left
pub record Log : Type 0 where
  pub events : List Event
  pub answers : List Answer

abbrev pub log_of : World → Log
log_of w = record { events = w.events; answers = w.answers }

-- what is seen of a machine that stops
abbrev pub seen_at : Setting → Log → Machine → Status → Observation
seen_at z log c status =
    record { status = status; events = log.events; memory = visible (row z) z.entry c.memory }

-- ---- runs that stop

-- the machine stands before a RET, with SP, x29, x30 and x19 to x28 as at entry, and the word that is returned
pub record HasReturned (z : Setting) (log : Log) (seen : Observation) (k : ℕ) (c : Machine) : Type 0 where
  pub word : Option ℕ
  pub shows : seen ≡ seen_at z log c (Returned word)
  pub ret : slice_get z.code k ≡ Some (Plain (BranchReg Ret 30))
  pub words : AreWords c.registers
  pub sp : c.registers.sp ≡ z.entry.sp
  pub kept : (r : ℕ) → 19 ≤ r → r ≤ 30 → c.registers.x r ≡ z.entry.registers r
  pub returned : returned_word z.procedure.returns c.registers ≡ word

-- it stands before an access at a trap, which faults
pub record HasTrapped (z : Setting) (log : Log) (seen : Observation) (k : ℕ) (c : Machine) : Type 0 where
  pub site : Site
  pub inst : Inst
  pub address : ℕ
  pub marked : site_before z k ≡ Some site
  pub kind : site.kind ≡ Trap
  pub access : slice_get z.code k ≡ Some (Plain inst)
  pub faults : (step_of inst (moved_to (address_of z k) c).registers c.memory).outcome ≡ Fault address
  pub shows : seen ≡ seen_at z log c (Trapped site.value address)

-- it stands before the break of an exit, with the frame as it is within the procedure, and its places have words
pub record HasExited (z : Setting) (log : Log) (seen : Observation) (k : ℕ) (c : Machine) : Type 0 where
  pub site : Site
  pub words : List ℕ
  pub marked : site_before z k ≡ Some site
  pub kind : site.kind ≡ ExitSite
  pub break : slice_get z.code k ≡ Some (Plain (Break 1))
  pub frame : HasFrame z c
  pub places : words_in c.registers.x c.memory site.reps ≡ Some words
  pub shows : seen ≡ seen_at z log c (Exited site.value words)

abbrev pub IsStopped : Setting → Log → Observation → ℕ → Machine → Type 0
IsStopped z log seen k c = HasReturned z log seen k c ⊎ HasTrapped z log seen k c ⊎ HasExited z log seen k c

-- ---- sites at which the outside acts

-- what acts, and the machine that it finds: at a patchpoint the words that are filled in, and behind a BLR a function that
-- is not in the code
abbrev pub ActsAt : SiteKind → Setting → ℕ → Machine → Site → EventKind → Machine → Type 0
ActsAt Patchpoint z k c site kind found = (kind ≡ event.Patch site.value) × (found ≡ c)
ActsAt CallSite z k c site kind found =
    (rn : ℕ) × (slice_get z.code k ≡ Some (Plain (BranchReg Blr rn)))
    × (z.start.is_code (c.registers.x rn) ≡ false) × (kind ≡ event.Call (c.registers.x rn))
    × (found ≡ machine_of (step_of (BranchReg Blr rn) (moved_to (address_of z k) c).registers c.memory))
ActsAt _ z k c site kind found = ⊥

-- the machine stands before the first word of a site at which the outside acts, with the frame as it is within the procedure
-- and words in the site's places; a word stands behind the site
pub record Asks (z : Setting) (k : ℕ) (c : Machine) : Type 0 where
  pub site : Site
  pub kind : EventKind
  pub found : Machine
  pub words : List ℕ
  pub marked : site_before z k ≡ Some site
  pub acts : ActsAt site.kind z k c site kind found
  pub frame : HasFrame z c
  pub places : words_in found.registers.x found.memory site.reps ≡ Some words
  pub ahead : place z.code z.long (k + site.size) < place z.code z.long (length z.code)

-- the event that is added
abbrev pub event_of : (z : Setting) (k : ℕ) (c : Machine) → Asks z k c → Event
event_of z k c a = record {
  kind = a.kind;
  arguments = a.words;
  widths = widths_of a.site.reps;
  memory = visible (row z) z.entry a.found.memory;
}

-- the machine after the i-th event, where the outside gives a value and writes bytes
abbrev pub after_event : (z : Setting) (k : ℕ) (c : Machine) → Asks z k c → ℕ → ℕ → Memory → Machine
after_event z k c a i value writes = record {
  registers = record {
    x = registers_after a.site z.entry.junk i value a.found.registers.x;
    sp = a.found.registers.sp;
    pc = a.found.registers.pc;
    flags = flags_from (junk_at z.entry.junk i 31);
  };
  memory = memory_after (λ q. is_some (z.entry.memory q) || in_slot (row z) z.entry q) (in_frame (row z) z.entry)
      a.found.registers.sp writes a.found.memory;
}

-- the next of the answers is taken: the run waits where there is none, it has left, or it goes on behind the site
abbrev pub Takes : (Log → ℕ → Machine → Type 0) → (z : Setting) → List Event → List Answer → Config → (k : ℕ) (c : Machine)
    → Asks z k c → Type 0
Takes Rest z events [] next k c a =
    next ≡ Stopped (seen_at z (record { events = events ++ event_of z k c a ∷ []; answers = [] }) a.found Waiting)
Takes Rest z events (Leave ∷ rest) next k c a =
    next ≡ Stopped (seen_at z (record { events = events ++ event_of z k c a ∷ []; answers = rest }) a.found Left)
Takes Rest z events (Give value writes ∷ rest) next k c a =
    Rest (record { events = events ++ event_of z k c a ∷ []; answers = rest }) (k + a.site.size)
    (after_event z k c a (length events) value writes)

-- ---- where a block leads

-- at most one item more leads to the label of a block, in a state that is related; or the run has stopped
abbrev pub Lands : Setting → Log → Config → ℕ → Machine → Type 0
Lands z log (At b s) k c =
    (j : ℕ) × (j ≤ 1) × (after : Machine)
    × (iterate (run.item_step (meaning_of z) z.code) j (run.At k c) ≡ run.At (position_of z.code b) after)
    × (log_of s.world ≡ log) × IsRelated z s after
Lands z log (Stopped seen) k c = IsStopped z log seen k c
Lands z log Lost k c = Unit {0}

-- so many items or more, each farther on than the one before, lead from an item to another one; each moment is proper
pub record RunsTo (z : Setting) (least k : ℕ) (c : Machine) (at : ℕ) (last : Machine) : Type 0 where
  pub items : ℕ
  pub some : least ≤ items
  pub forward : run.GoForward (meaning_of z) z.code items (run.At k c)
  pub comes : iterate (run.item_step (meaning_of z) z.code) items (run.At k c) ≡ run.At at last
  pub proper : (i : ℕ) → i ≤ items → IsProper z (iterate (run.item_step (meaning_of z) z.code) i (run.At k c))

-- items lead to where the run lands
pub record Leads (z : Setting) (least : ℕ) (log : Log) (next : Config) (k : ℕ) (c : Machine) : Type 0 where
  pub at : ℕ
  pub last : Machine
  pub runs : RunsTo z least k c at last
  pub lands : Lands z log next at last

-- items lead to a site at which the outside acts, and with its answer the run goes on
pub record LeadsOut (Rest : Log → ℕ → Machine → Type 0) (z : Setting) (least : ℕ) (log : Log) (next : Config) (k : ℕ)
    (c : Machine) : Type 0 where
  pub at : ℕ
  pub last : Machine
  pub runs : RunsTo z least k c at last
  pub asks : Asks z at last
  pub takes : Takes Rest z log.events log.answers next at last asks

-- items lead to where the run lands, by way of at most so many sites at which the outside acts
unfoldable pub LeadsBy : ℕ → Setting → ℕ → Log → Config → ℕ → Machine → Type 0
LeadsBy zero z least log next k c = Leads z least log next k c
LeadsBy (suc n) z least log next k c =
    Leads z least log next k c
    ⊎ LeadsOut (λ log k c. LeadsBy n z 0 log next k c) z least log next k c

abbrev pub LeadsUnlessLost : Setting → Log → Config → ℕ → Machine → Type 0
LeadsUnlessLost z log Lost k c = Unit {0}
LeadsUnlessLost z log next k c = (sites : ℕ) × LeadsBy sites z 1 log next k c

-- the items from one on do what a block does in a state, by some words of junk that are taken from the front of the list
pub record CarriesOut (z : Setting) (b : ℕ) (s : State) (k : ℕ) (c : Machine) : Type 0 where
  pub junk : List ℕ
  pub next : Config
  pub is : (rest : List ℕ) → block_step (meaning z.start) z.procedure (At b s, junk ++ rest) ≡ (next, rest)
  pub leads : LeadsUnlessLost z (log_of s.world) next k c

-- ---- the code

-- the machine stands at the first item, as the start says
pub record Begins (z : Setting) (c : Machine) : Type 0 where
  pub x : c.registers.x ≡ z.entry.registers
  pub sp : c.registers.sp ≡ z.entry.sp
  pub words : AreWords c.registers
  pub memory : c.memory ≡ entry_memory (row z) z.entry

-- the state in which the run of Air begins
abbrev pub first_state : Setting → List Answer → State
first_state z answers = record {
  homes = first_homes z.start;
  world = record { memory = z.start.memory; events = []; answers = answers };
}

abbrev pub IsSettingOf : AirProc → Frame → List Item → List Site → Setting → Type 0
IsSettingOf p frame code sites z =
    (z.procedure ≡ p) × (z.frame ≡ frame) × (z.code ≡ code) × (z.sites ≡ sites) × IsSet z

-- code is that of a procedure with a frame: its items are the emitted ones. Its labels are right and those below the number
-- of blocks are the blocks', in order, and words stand behind each. Mark k is that of site k: the marks stand in order, each
-- where the code is what its site asks for; each site is that of an instruction of the procedure, and no two are of one
-- value. It is no longer than the procedure weighs; and from the first item on it does what the entry does, and from each
-- other block's label on what that block does
pub record IsCodeOfAir (p : AirProc) (frame : Frame) (code : List Item) (sites : List Site) : Type 0 where
  pub items : code ≡ emitted p frame
  pub labelled : IsWellLabelled code
  pub labels : length p.blocks ≤ label_count code
  pub rising : (b c : ℕ) → b < c → c < length p.blocks → position_of code b < position_of code c
  pub behind : (long : Set) (b : ℕ) → b < length p.blocks → place code long (position_of code b) < place code long (length code)
  pub marks : mark_count code ≡ length sites
  pub in_order : (m n : ℕ) → m < n → n < length sites → mark_position_of code m < mark_position_of code n
  pub suits : (m : ℕ) (site : Site) → slice_get sites m ≡ Some site
      → SuitsItems code site.kind site.size (mark_position_of code m + 1)
  pub made : All (IsSiteIn p frame) sites
  pub apart : AllPairs (λ a b. a.value ≢ b.value) sites
  pub light : most_words code ≤ weight p
  pub entry : (z : Setting) (answers : List Answer) (c : Machine) → IsSettingOf p frame code sites z → All IsRangedAnswer answers
      → Begins z c → CarriesOut z 0 (first_state z answers) 0 c
  pub block : (z : Setting) (b : ℕ) (s : State) (c : Machine) → IsSettingOf p frame code sites z → 0 < b
      → b < length p.blocks → All IsRangedAnswer s.world.answers → IsRelated z s c → CarriesOut z b s (position_of code b) c
