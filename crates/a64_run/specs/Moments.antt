-- What holds at each moment of a machine's run: what a real processor and a real system ask beyond the
-- words that are computed.
use Rattle.std.specs.Prelude.{◌≡◌, ℕ, ◌+◌, ◌-◌, ◌%◌, ◌<◌, ◌≤◌, min, true, Option, Some, None, is_some, if◌then◌else◌}
use Rattle.b3_base.specs.Memory.{byte_address, read_word}
use Rattle.stackmap.specs.declared.site.Site.{Site}
use Rattle.stackmap.specs.declared.site.SiteKind.{SiteKind}
use Rattle.stackmap.specs.declared.site.SiteKind.TheVariants.{Call, Patchpoint, Exit}
use Rattle.a64_word.specs.Decode.{decode}
use Rattle.a64_inst.specs.Registers.{Registers}
use Rattle.a64_inst.specs.Step.{step_of}
use Rattle.a64_inst.specs.declared.inst.Inst.{Inst}
use Rattle.a64_run.specs.Machine.{Config, Runs, Stops, Entry, State, keeps_saved, of_kind, site_at, touched, word_at}
use Rattle.a64_run.specs.Placement.{frame_pointer_of, in_frame}

-- the site of a kind at pc
abbrev pub site_here : Entry → State → SiteKind → Option Site
site_here e s kind = of_kind kind (site_at e s.registers.pc)

-- the instruction that the next step takes: none at a patchpoint, and where no word decodes
abbrev pub decoded_word : Option ℕ → Option Inst
decoded_word (Some word) = decode word
decoded_word None = None

abbrev pub instruction_at : Entry → State → Option Inst
instruction_at e s = if is_some (site_here e s Patchpoint) then None else decoded_word (word_at e s.registers.pc)

-- the registers that it leaves
abbrev pub registers_next : State → Inst → Registers
registers_next s inst = (step_of inst s.registers s.memory).registers

-- what it touches of the frame stands at SP or above, before and after
abbrev pub TouchesAbove : Entry → State → Inst → Type 0
TouchesAbove e s inst = (address n i : ℕ) → touched inst s.registers ≡ Some (address, n) → i < n
    → in_frame e.frame e.start (byte_address address i) ≡ true
    → min s.registers.sp (registers_next s inst).sp ≤ byte_address address i

-- the frame of the procedure is the one in force: SP is the entry SP less the frame's bytes, and x29 the entry SP
-- less 16, where the entry x29 and above it the entry x30 stand, as a frame record (AAPCS64, 6.4.6); the saved
-- registers are kept. So what acts here may leave the procedure as a return would
pub record KeepsFrame (e : Entry) (s : State) : Type 0 where
  pub sp : s.registers.sp ≡ e.start.sp - e.frame.bytes
  pub x29 : s.registers.x 29 ≡ frame_pointer_of e.start
  pub caller : read_word s.memory (frame_pointer_of e.start) 8 ≡ Some (e.start.registers 29)
  pub link : read_word s.memory (frame_pointer_of e.start + 8) 8 ≡ Some (e.start.registers 30)
  pub saved : keeps_saved e s ≡ true

-- SP is a multiple of 16 (AAPCS64, 6.4.5.1); data accesses touch nothing of the frame below SP; the platform
-- register x18 is left as it is (AAPCS64, 6.1.1); and at a patchpoint, at an exit, and at a call's site wherever the
-- call leads, the frame is kept
pub record IsProperState (e : Entry) (s : State) : Type 0 where
  pub aligned : s.registers.sp % 16 ≡ 0
  pub access : (inst : Inst) → instruction_at e s ≡ Some inst → TouchesAbove e s inst
  pub platform : (inst : Inst) → instruction_at e s ≡ Some inst → (registers_next s inst).x 18 ≡ s.registers.x 18
  pub patchpoint : (site : Site) → site_here e s Patchpoint ≡ Some site → KeepsFrame e s
  pub exit : (site : Site) → site_here e s Exit ≡ Some site → KeepsFrame e s
  pub call : (site : Site) → site_here e s Call ≡ Some site → KeepsFrame e s

-- once it has stopped nothing is asked
abbrev pub IsProper : Entry → Config → Type 0
IsProper e (Runs s) = IsProperState e s
IsProper e (Stops seen) = Unit {0}
