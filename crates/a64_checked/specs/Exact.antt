-- What the instructions of checked arithmetic do.
use Rattle.std.specs.Prelude.{◌≡◌, ◌≢◌, ℕ, ℤ, ◌≤◌, true, not, List, [], ◌∷◌}
use Rattle.b3_base.specs.Arithmetic.{low}
use Rattle.b3_base.specs.Signed.{is_signed, signed, unsigned}
use Rattle.b3_base.specs.declared.word.Width.{Width}
use Rattle.b3_meaning.specs.Run.{checked_result}
use Rattle.b3_meaning.specs.declared.role.Checked.{Checked}
use Rattle.a64_inst.specs.Registers.{AreWords, Bytes, Registers, goes_on, put}
use Rattle.a64_inst.specs.Step.{step_of}
use Rattle.a64_inst.specs.Values.{holds}
use Rattle.a64_inst.specs.WellFormed.{IsWellFormed}
use Rattle.a64_inst.specs.declared.inst.Inst.{Inst}
use Rattle.a64_checked.specs.Checks.{comparing, making, passing}

abbrev pub with_pc : ℕ → Registers → Registers
with_pc pc s = record s { pc = pc }

-- an instruction whose fields are in range leads from registers to others, from any address; it leaves memory, SP and
-- x18
pub record StepsTo (inst : Inst) (s t : Registers) : Type 0 where
  pub fields : IsWellFormed inst
  pub does : (pc : ℕ) (m : Bytes) → step_of inst (with_pc pc s) m ≡ goes_on (with_pc pc t) m
  pub sp : t.sp ≡ s.sp
  pub platform : t.x 18 ≡ s.x 18
  pub words : AreWords t

-- instructions do, one after the other
unfoldable pub RunTo : List Inst → Registers → Registers → Type 0
RunTo [] s t = s ≡ t
RunTo (inst ∷ insts) s t = (u : Registers) × StepsTo inst s u × RunTo insts u t

-- the exact result of the low words of two registers
abbrev pub exact : Checked → Width → ℕ → ℕ → Registers → ℤ
exact kind width a b s = checked_result kind (signed width (low width (s.x a))) (signed width (low width (s.x b)))

-- the instructions that compare lead to registers of which x16 and x17 alone may differ; the condition holds there
-- exactly where the exact result is no signed number of the width; and where it is one, it is made in any register but
-- x18
pub record Checks (kind : Checked) (width : Width) (a b : ℕ) (s t : Registers) : Type 0 where
  pub compares : RunTo (comparing kind width a b) s t
  pub says : holds (passing kind) t.flags ≡ not (is_signed width (exact kind width a b s))
  pub sp : t.sp ≡ s.sp
  pub x : (r : ℕ) → r ≢ 16 → r ≢ 17 → t.x r ≡ s.x r
  pub words : AreWords t
  pub makes : (rd : ℕ) → rd ≤ 30 → rd ≢ 18 → is_signed width (exact kind width a b s) ≡ true
      → RunTo (making kind width rd a b) t (put t rd (unsigned width (exact kind width a b s)))

-- so it is for any two registers of x0 to x30 but x17
abbrev pub ChecksAreExact : Type 0
ChecksAreExact =
    (kind : Checked) (width : Width) (a b : ℕ) (s : Registers) → a ≤ 30 → b ≤ 30 → a ≢ 17 → b ≢ 17 → AreWords s
    → (t : Registers) × Checks kind width a b s t
