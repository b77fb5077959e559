-- No public clause cites this module. The machine's run computed over a short text by hand: a call, a
-- patchpoint, exits and a load, each with its site.
use Rattle.std.proofs.Common.{◌≡◌, ℕ, ◌+◌, ◌^◌, List, [], ◌∷◌, Option, Some, None, refl}
use Rattle.std.specs.Prelude.{codes, map, nat_eq, if◌then◌else◌}
use Rattle.b3_base.specs.Memory.{is_mapped, read_word, write_word}
use Rattle.b3_base.specs.Observed.{Answer, Give, Leave, MachineStart, Observation, no_memory}
use Rattle.b3_base.specs.Run.{iterate}
use Rattle.b3_base.specs.declared.event.EventKind.{EventKind}
use Rattle.b3_base.specs.declared.event.EventKind.TheVariants as event
use Rattle.b3_base.specs.declared.observation.Status.{Status}
use Rattle.b3_base.specs.declared.observation.Status.TheVariants.{Going, Waiting, Left, Returned, Trapped, Exited, Stuck}
use Rattle.b3_base.specs.declared.word.Width.{Width}
use Rattle.b3_base.specs.declared.word.Width.TheVariants as width
use Rattle.stackmap.specs.declared.site.Place.{Place}
use Rattle.stackmap.specs.declared.site.Rep.TheVariants.{Register, Constant}
use Rattle.stackmap.specs.declared.site.Returns.TheVariants.{W64}
use Rattle.stackmap.specs.declared.site.SiteKind.TheVariants.{Call, Patchpoint, Exit, Trap}
use Rattle.exit_table.specs.declared.tables.FrameRow.{FrameRow}
use Rattle.exit_table.specs.declared.tables.SiteRow.{SiteRow}
use Rattle.elf_obj.specs.declared.object.Object.{Object}
use Rattle.elf_obj.specs.declared.object.Symbol.{Symbol}
use Rattle.a64_word.specs.Decode.{decode}
use Rattle.a64_word.specs.Parts.{by_row}
use Rattle.a64_inst.specs.Step.{step_of, add_sub_imm, move_wide, access, store_pair, load_pair, branch_reg}
use Rattle.a64_run.specs.Machine.{Config, Runs, Stops, Entry, machine_run, run_of, site_at}

-- from byte 0 a call of x9 with x0 and the low half of x1; from byte 24 a patchpoint of 4 words and a
-- return; from byte 44 an exit; from byte 48 an exit with x19 changed; from byte 56 a load from x1 with a
-- trap, and from byte 60 one without
abbrev text : List ℕ
text =
    0xA9BF_7BFD ∷ 0x9100_03FD ∷ 0xD63F_0120 ∷ 0x9100_03BF ∷ 0xA8C1_7BFD ∷ 0xD65F_03C0
    ∷ 0xD420_0040 ∷ 0xD420_0040 ∷ 0xD420_0040 ∷ 0xD420_0040 ∷ 0xD65F_03C0
    ∷ 0xD420_0020
    ∷ 0xD280_0033 ∷ 0xD420_0020
    ∷ 0xF940_0020
    ∷ 0xF940_0020
    ∷ []

abbrev wide : ℕ → Place
wide r = record { width = width.W64; rep = Register (record { 0 = r }) }

abbrev half : ℕ → Place
half r = record { width = width.W32; rep = Register (record { 0 = r }) }

abbrev constant : Place
constant = record { width = width.W32; rep = Constant 5 }

abbrev site_rows : List SiteRow
site_rows =
    record { pc = 8; site = record { kind = Call; value = 3; size = 1; reps = wide 0 ∷ half 1 ∷ []; result = Some (width.W64, record { 0 = 0 }); clobbers = 0x4007_FFFF } }
    ∷ record { pc = 24; site = record { kind = Patchpoint; value = 4; size = 4; reps = half 1 ∷ constant ∷ []; result = Some (width.W32, record { 0 = 3 }); clobbers = 1 } }
    ∷ record { pc = 44; site = record { kind = Exit; value = 5; size = 1; reps = half 0 ∷ constant ∷ []; result = None; clobbers = 0 } }
    ∷ record { pc = 52; site = record { kind = Exit; value = 6; size = 1; reps = []; result = None; clobbers = 0 } }
    ∷ record { pc = 56; site = record { kind = Trap; value = 7; size = 1; reps = []; result = None; clobbers = 0 } }
    ∷ []

abbrev symbol_at : ℕ → ℕ → Symbol
symbol_at offset size = record { name = codes "f"; offset = offset; size = size }

abbrev frame : FrameRow
frame = record { bytes = 32; returns = W64; slots = []; saved = [] }

abbrev symbols : List Symbol
symbols = symbol_at 0 24 ∷ symbol_at 24 20 ∷ symbol_at 44 4 ∷ symbol_at 48 8 ∷ symbol_at 56 4 ∷ symbol_at 60 4 ∷ []

abbrev object : Object
object = record { text = text; symbols = symbols; tables = record { frames = map (λ (symbol : Symbol). frame) symbols; sites = site_rows } }

abbrev x : ℕ → ℕ
x r =
    if nat_eq r 0 then 7 else
    if nat_eq r 1 then 2 ^ 32 + 9 else
    if nat_eq r 9 then 0x5000 else
    if nat_eq r 18 then 18 else
    if nat_eq r 30 then 0x3000_0000 else 0

abbrev start : MachineStart
start = record {
  registers = x;
  sp = 0x8000_0000;
  code = 0x4000_0000;
  memory = no_memory;
  stack = λ _. 1;
  junk = λ i. 2 ^ 40 + i;
}

abbrev entry : ℕ → Entry
entry offset = record { object = object; symbol = symbol_at offset 4; frame = frame; start = start }

abbrev status_after : ℕ → List Answer → ℕ → Status
status_after offset answers k = (machine_run (entry offset) answers k).status

-- what events show, but for the memory
abbrev shown : Observation → List (EventKind × List ℕ × List Width)
shown seen = map (λ event. (event.kind, event.arguments, event.widths)) seen.events

-- a register of a run that goes on, and a byte that its data accesses may touch
abbrev register_of : ℕ → Config → Option ℕ
register_of r (Runs s) = Some (s.registers.x r)
register_of r (Stops seen) = None

abbrev byte_at : ℕ → Config → Option ℕ
byte_at address (Runs s) = s.memory address
byte_at address (Stops seen) = None

-- ---- where a site is found

none_at_the_first_word : site_at (entry 0) 0x4000_0000 ≡ None
none_at_the_first_word = refl

none_below_the_text : site_at (entry 0) 0x3FFF_FFF8 ≡ None
none_below_the_text = refl

-- ---- a call

call_waits : status_after 0 [] 3 ≡ Waiting
unfolding iterate decode by_row step_of add_sub_imm store_pair is_mapped write_word branch_reg
call_waits = refl

call_waits_still : status_after 0 [] 4 ≡ Waiting
unfolding iterate decode by_row step_of add_sub_imm store_pair is_mapped write_word branch_reg
call_waits_still = refl

call_shows : shown (machine_run (entry 0) [] 3) ≡ (event.Call 0x5000, 7 ∷ 9 ∷ [], width.W64 ∷ width.W32 ∷ []) ∷ []
unfolding iterate decode by_row step_of add_sub_imm store_pair is_mapped write_word branch_reg
call_shows = refl

call_leaves : status_after 0 (Leave ∷ []) 3 ≡ Left
unfolding iterate decode by_row step_of add_sub_imm store_pair is_mapped write_word branch_reg
call_leaves = refl

call_goes_on : status_after 0 (Give 9 no_memory ∷ []) 3 ≡ Going
unfolding iterate decode by_row step_of add_sub_imm store_pair is_mapped write_word branch_reg
call_goes_on = refl

-- x18 and x30 take junk, and a register that isn't clobbered keeps its word
after_call : ℕ → Option ℕ
after_call r = register_of r (run_of (entry 0) (Give 9 no_memory ∷ []) 3)

call_leaves_junk : map after_call (0 ∷ 18 ∷ 30 ∷ 29 ∷ []) ≡ Some 9 ∷ Some (2 ^ 40 + 18) ∷ Some (2 ^ 40 + 30) ∷ Some 0x7FFF_FFF0 ∷ []
unfolding after_call iterate decode by_row step_of add_sub_imm store_pair is_mapped write_word branch_reg
call_leaves_junk = refl

-- the frame below SP holds nothing, and above it what it held
after_call_byte : ℕ → Option ℕ
after_call_byte address = byte_at address (run_of (entry 0) (Give 9 no_memory ∷ []) 3)

call_takes_the_frame : map after_call_byte (0x7FFF_FFEF ∷ 0x7FFF_FFF8 ∷ 0x7FFF_FFFB ∷ []) ≡ None ∷ Some 0 ∷ Some 0x30 ∷ []
unfolding after_call_byte iterate decode by_row step_of add_sub_imm store_pair is_mapped write_word branch_reg
call_takes_the_frame = refl

call_returns : status_after 0 (Give 9 no_memory ∷ []) 6 ≡ Returned (Some 9)
unfolding iterate decode by_row step_of add_sub_imm store_pair load_pair is_mapped read_word write_word branch_reg
call_returns = refl

-- ---- a patchpoint of 4 words

patch_waits : status_after 24 [] 1 ≡ Waiting
unfolding iterate
patch_waits = refl

patch_shows : shown (machine_run (entry 24) [] 1) ≡ (event.Patch 4, 9 ∷ 5 ∷ [], width.W32 ∷ width.W32 ∷ []) ∷ []
unfolding iterate
patch_shows = refl

-- the result's low half is the value's, and above it stands junk of its own register
patch_gives : register_of 3 (run_of (entry 24) (Give (2 ^ 32 + 6) no_memory ∷ []) 1) ≡ Some (2 ^ 40 + 6)
unfolding iterate
patch_gives = refl

-- it goes on after its 4 words
patch_returns : status_after 24 (Give 6 no_memory ∷ []) 2 ≡ Returned (Some (2 ^ 40))
unfolding iterate decode by_row step_of branch_reg
patch_returns = refl

-- in the middle of it nobody acts
patch_inside : status_after 28 [] 1 ≡ Stuck
unfolding iterate decode by_row step_of
patch_inside = refl

-- ---- exits and loads

exits : status_after 44 [] 1 ≡ Exited 5 (7 ∷ 5 ∷ [])
unfolding iterate decode by_row step_of
exits = refl

exit_not_kept : status_after 48 [] 2 ≡ Stuck
unfolding iterate decode by_row step_of move_wide
exit_not_kept = refl

traps : status_after 56 [] 1 ≡ Trapped 7 (2 ^ 32 + 9)
unfolding iterate decode by_row step_of access read_word
traps = refl

faults_without_trap : status_after 60 [] 1 ≡ Stuck
unfolding iterate decode by_row step_of access read_word
faults_without_trap = refl
