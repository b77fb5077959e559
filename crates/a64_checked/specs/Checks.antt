-- The instructions of checked arithmetic: what compares comes first, and what makes the result stands behind a branch.
use Rattle.std.specs.Prelude.{ℕ, true, false, List, [], ◌∷◌}
use Rattle.b3_base.specs.declared.word.Width.{Width}
use Rattle.b3_base.specs.declared.word.Width.TheVariants.{W32, W64}
use Rattle.b3_meaning.specs.declared.role.Checked.{Checked}
use Rattle.b3_meaning.specs.declared.role.Checked.TheVariants.{Sum, Difference, Product}
use Rattle.a64_inst.specs.declared.inst.Cond.{Cond}
use Rattle.a64_inst.specs.declared.inst.Cond.TheVariants.{Ne, Vs}
use Rattle.a64_inst.specs.declared.inst.Inst.{Inst}
use Rattle.a64_inst.specs.declared.inst.Inst.TheVariants.{AddSubReg, BitField, LogicReg, MulAdd, MulHigh, MulLong}
use Rattle.a64_inst.specs.declared.inst.LogicOp.TheVariants.{Orr}

-- CMN for a sum, CMP for a difference. A product of 32 bits is made in 64 in x17, and compared with its low half,
-- which is put in x16 with its sign above. One of 64 bits has its high word in x17, which is compared with the sign of
-- its low word in x16
unfoldable pub comparing : Checked → Width → ℕ → ℕ → List Inst
comparing Sum width a b = AddSubReg width false true 31 a b 0 0 ∷ []
comparing Difference width a b = AddSubReg width true true 31 a b 0 0 ∷ []
comparing Product W32 a b =
    MulLong 17 a b 31 ∷ BitField W64 true 16 17 0 31 ∷ AddSubReg W64 true true 31 17 16 0 0 ∷ []
comparing Product W64 a b =
    MulHigh true 17 a b ∷ MulAdd W64 false 16 a b 31 ∷ AddSubReg W64 true true 31 17 16 2 63 ∷ []

-- the condition that holds then where the result passes its width
abbrev pub passing : Checked → Cond
passing Sum = Vs
passing Difference = Vs
passing Product = Ne

-- the result in a register: that of a product stands in x16
unfoldable pub making : Checked → Width → ℕ → ℕ → ℕ → List Inst
making Sum width rd a b = AddSubReg width false false rd a b 0 0 ∷ []
making Difference width rd a b = AddSubReg width true false rd a b 0 0 ∷ []
making Product width rd a b = LogicReg width Orr false rd 31 16 0 0 ∷ []
