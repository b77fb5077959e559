-- What conditional items test, and how far their short form reaches (DDI 0487, C6.2: B.cond, CBZ, TBZ).
use Rattle.std.specs.Prelude.{ℕ, ℤ, ◌^◌, ◌<◌, Bool, not, if◌then◌else◌, Option, Some, None}
use Rattle.a64_inst.specs.WellFormed.{IsReg}
use Rattle.a64_inst.specs.declared.inst.Cond.{Cond}
use Rattle.a64_inst.specs.declared.inst.Cond.TheVariants.{Eq, Ne, Hs, Lo, Mi, Pl, Vs, Vc, Hi, Ls, Ge, Lt, Gt, Le}
use Rattle.a64_inst.specs.declared.inst.Inst.{Inst}
use Rattle.a64_inst.specs.declared.inst.Inst.TheVariants.{BranchIf, BranchZero, BranchBit}
use Rattle.a64_inst.specs.declared.item.Item.{Item}
use Rattle.a64_inst.specs.declared.item.Item.TheVariants.{Plain, Jump, If, IfZero, IfBit, Label, Mark}
use Rattle.a64_layout.specs.declared.branch.Test.{Test}
use Rattle.a64_layout.specs.declared.branch.Test.TheVariants.{Holds, Zero, Bit}

-- what a conditional item tests, and the label that it goes to
abbrev pub branch_of : Item → Option (Test × ℕ)
branch_of (If cond label) = Some (Holds cond, label)
branch_of (IfZero width nonzero reg label) = Some (Zero width nonzero reg, label)
branch_of (IfBit nonzero reg at label) = Some (Bit nonzero reg at, label)
branch_of (Plain inst) = None
branch_of (Jump label) = None
branch_of (Label label) = None
branch_of (Mark mark) = None

abbrev pub branch_in : Option Item → Option (Test × ℕ)
branch_in (Some item) = branch_of item
branch_in None = None

-- the condition that holds exactly where this one doesn't
abbrev pub opposite_cond : Cond → Cond
opposite_cond Eq = Ne
opposite_cond Ne = Eq
opposite_cond Hs = Lo
opposite_cond Lo = Hs
opposite_cond Mi = Pl
opposite_cond Pl = Mi
opposite_cond Vs = Vc
opposite_cond Vc = Vs
opposite_cond Hi = Ls
opposite_cond Ls = Hi
opposite_cond Ge = Lt
opposite_cond Lt = Ge
opposite_cond Gt = Le
opposite_cond Le = Gt

-- the test that holds exactly where this one doesn't
abbrev pub opposite : Test → Test
opposite (Holds cond) = Holds (opposite_cond cond)
opposite (Zero width nonzero reg) = Zero width (not nonzero) reg
opposite (Bit nonzero reg at) = Bit (not nonzero) reg at

-- the branch by so many words under a test
abbrev pub branch_by : Test → ℤ → Inst
branch_by (Holds cond) offset = BranchIf cond offset
branch_by (Zero width nonzero reg) offset = BranchZero width nonzero reg offset
branch_by (Bit nonzero reg at) offset = BranchBit nonzero reg at offset

-- the fields of a test are in range
abbrev pub IsTest : Test → Type 0
IsTest (Holds cond) = Unit {0}
IsTest (Zero width nonzero reg) = IsReg reg
IsTest (Bit nonzero reg at) = IsReg reg × (at < 64)

-- how many words back the branch goes at most, by a signed field of 19 or 14 bits; forward it goes one less
abbrev pub reach : Test → ℕ
reach (Holds cond) = 2 ^ 18
reach (Zero width nonzero reg) = 2 ^ 18
reach (Bit nonzero reg at) = 2 ^ 13

-- the words that an item takes, where a conditional one is long or short
abbrev pub size_of : Bool → Item → ℕ
size_of long (Plain inst) = 1
size_of long (Jump label) = 1
size_of long (If cond label) = if long then 2 else 1
size_of long (IfZero width nonzero reg label) = if long then 2 else 1
size_of long (IfBit nonzero reg at label) = if long then 2 else 1
size_of long (Label label) = 0
size_of long (Mark mark) = 0

abbrev pub size_in : Bool → Option Item → ℕ
size_in long (Some item) = size_of long item
size_in long None = 0
