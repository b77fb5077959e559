-- When the machine, at the label of a block, stands as the run of Air does before the block.
use Rattle.std.specs.Prelude.{◌≡◌, ℕ, ◌+◌, ◌-◌, ◌≤◌, false, true, Option, Some, None, is_some, slice_get, Contains}
use Rattle.b3_base.specs.Arithmetic.{low}
use Rattle.b3_base.specs.Memory.{AreBytes, read_word}
use Rattle.b3_ir.specs.declared.value.Reg.{Reg as Register}
use Rattle.stackmap.specs.Rules.{IsAllocatable}
use Rattle.stackmap.specs.declared.site.SavedRow.{SavedRow}
use Rattle.a64_inst.specs.Registers.{AreWords}
use Rattle.air_ir.specs.Operands.{Held, Empty, Holds}
use Rattle.air_ir.specs.Steps.{State}
use Rattle.air_ir.specs.declared.operand.Home.TheVariants.{Reg, Spill}
use Rattle.air_frame.specs.Needs.{names}
use Rattle.a64_layout.specs.Machine.{Machine}
use Rattle.a64_run.specs.Machine.{saved_at}
use Rattle.a64_run.specs.Placement.{frame_pointer_of, in_frame, visible}
use Rattle.a64_emit.specs.Setting.{Setting, row}

-- a word carries what stands in a home: nothing is asked where that is empty, and the low half for 32 bits
abbrev pub Carries : Held → ℕ → Type 0
Carries Empty word = Unit {0}
Carries (Holds width held) word = low width word ≡ low width held

-- a word of 64 bits stands so many bytes below x29, as it was at entry
abbrev pub word_below : Setting → Machine → ℕ → Option ℕ
word_below z c offset = read_word c.memory (frame_pointer_of z.entry - offset) 8

-- the frame is there, whole, with SP at its bottom and x29 above it: above that stand the caller's x29 and the link, and
-- in it the saved registers; those of x19 to x28 that aren't saved have the words that they had at entry. Beside it the
-- bytes that were mapped at entry are mapped, and no others
pub record HasFrame (z : Setting) (c : Machine) : Type 0 where
  pub sp : c.registers.sp ≡ z.entry.sp - z.frame.bytes
  pub x29 : c.registers.x 29 ≡ frame_pointer_of z.entry
  pub words : AreWords c.registers
  pub bytes : AreBytes c.memory
  pub whole : (address : ℕ) → in_frame (row z) z.entry address ≡ true → is_some (c.memory address) ≡ true
  pub mapped : (address : ℕ) → is_some (z.entry.memory address) ≡ true → is_some (c.memory address) ≡ true
  pub unmapped : (address : ℕ) → is_some (z.entry.memory address) ≡ false → in_frame (row z) z.entry address ≡ false
      → c.memory address ≡ None
  pub caller : word_below z c 0 ≡ Some (z.entry.registers 29)
  pub link : read_word c.memory (frame_pointer_of z.entry + 8) 8 ≡ Some (z.entry.registers 30)
  pub saved : (s : SavedRow) → Contains z.frame.saved s → word_below z c s.offset ≡ Some (z.entry.registers s.reg.0)
  pub unsaved : (r : ℕ) → 19 ≤ r → r ≤ 28 → saved_at z.frame.saved r ≡ None → c.registers.x r ≡ z.entry.registers r

-- each register that values may stand in, and each spill place that is named, carries what stands there; and the memory of
-- the run of Air is the user's bytes and the slots' bytes
pub record IsRelated (z : Setting) (s : State) (c : Machine) : Type 0 where
  pub frame : HasFrame z c
  pub registers : (r : Register) → IsAllocatable r → Carries (s.homes (Reg r)) (c.registers.x r.0)
  pub spills : (n offset : ℕ) → names z.procedure n ≡ true → slice_get z.frame.spills n ≡ Some offset
      → (word : ℕ) × (word_below z c offset ≡ Some word) × Carries (s.homes (Spill n)) word
  pub memory : s.world.memory ≡ visible (row z) z.entry c.memory
