-- The numbers of a value lie in the ranges of their fields. Each value that a program holds is so, and a
-- definition that speaks of every start, answer or word means those alone that are.
use Rattle.std.specs.Prelude.{ℕ, ◌^◌, ◌<◌, List, All}
use Rattle.b3_base.specs.Memory.{AreBytes}
use Rattle.b3_base.specs.Observed.{Answer, Give, Leave, Start, MachineStart}
use Rattle.b3_base.specs.declared.range.Range.{Range}

-- each is a word of 64 bits
abbrev pub AreWords : List ℕ → Type 0
AreWords = All (λ word. word < 2 ^ 64)

abbrev pub IsRangedRange : Range → Type 0
IsRangedRange range = (range.first < 2 ^ 64) × (range.len < 2 ^ 64)

abbrev pub IsRangedAnswer : Answer → Type 0
IsRangedAnswer (Give value writes) = (value < 2 ^ 64) × AreBytes writes
IsRangedAnswer Leave = Unit {0}

pub record IsRangedStart (start : Start) : Type 0 where
  pub arguments : (r : ℕ) → start.arguments r < 2 ^ 64
  pub frame_pointer : start.frame_pointer < 2 ^ 64
  pub slots : AreWords start.slots
  pub memory : AreBytes start.memory

pub record IsRangedMachineStart (start : MachineStart) : Type 0 where
  pub registers : (r : ℕ) → start.registers r < 2 ^ 64
  pub sp : start.sp < 2 ^ 64
  pub code : start.code < 2 ^ 64
  pub memory : AreBytes start.memory
  pub stack : (address : ℕ) → start.stack address < 256
  pub junk : (i : ℕ) → start.junk i < 2 ^ 64
