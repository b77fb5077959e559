-- No public clause cites this module. When the parts of a machine start share no byte.
use Rattle.std.specs.Prelude.{◌≡◌, ℕ, true, false, is_some}
use Rattle.b3_base.specs.Observed.{MachineStart}
use Rattle.exit_table.specs.declared.tables.FrameRow.{FrameRow}
use Rattle.a64_run.specs.Placement.{in_frame, is_within}

-- the return address is outside a text of so many bytes, and mapped bytes, frame and text share no byte
pub record SharesNoByte (frame : FrameRow) (m : MachineStart) (len : ℕ) : Type 0 where
  pub returns_outside : is_within m.code len (m.registers 30) ≡ false
  pub frame_apart : (address : ℕ) → in_frame frame m address ≡ true → is_within m.code len address ≡ false
  pub mapped_apart : (address : ℕ) → is_some (m.memory address) ≡ true → (in_frame frame m address ≡ false) × (is_within m.code len address ≡ false)
