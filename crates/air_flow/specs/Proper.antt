-- When an assignment of registers is proper for a procedure.
use Rattle.std.specs.Prelude.{◌≡◌, ◌≢◌, ℕ, [], length, replicate, Option, Some, None, slice_get, slice_index_or}
use Rattle.b3_ir.specs.declared.value.Reg.{Reg as Register}
use Rattle.stackmap.specs.Rules.{IsAllocatable}
use Rattle.air_ir.specs.Operands.{targets}
use Rattle.air_ir.specs.Related.{IsTarget}
use Rattle.air_ir.specs.WellFormed.{IsWellFormed, StandsAt}
use Rattle.air_ir.specs.declared.assignment.Assignment.{Assignment}
use Rattle.air_ir.specs.declared.operand.Home.{Home}
use Rattle.air_ir.specs.declared.operand.Home.TheVariants.{Tmp, Reg, Spill}
use Rattle.air_ir.specs.declared.procedure.AirInst.{AirInst}
use Rattle.air_ir.specs.declared.procedure.AirProc.{AirProc}
use Rattle.air_flow.specs.Interfere.{Interfere, IsCopied}
use Rattle.air_flow.specs.Living.{IsKeptAfter}

-- the register in which a home stands: that of a temporary, none where it is spilled, and a register itself
abbrev pub register_of : Assignment → Home → Option Register
register_of a (Tmp number) = slice_index_or a.homes number None
register_of a (Reg reg) = Some reg
register_of a (Spill number) = None

-- an assignment is proper for a procedure: it has the procedure's temporaries, it gives only registers that values
-- may stand in, and no two homes that interfere stand in one register
pub record IsProper (p : AirProc) (a : Assignment) : Type 0 where
  pub tmps : length a.homes ≡ p.tmps
  pub registers : (number : ℕ) (reg : Register) → slice_get a.homes number ≡ Some (Some reg) → IsAllocatable reg
  pub apart : (x y : Home) (reg : Register) → Interfere p x y → register_of a x ≡ Some reg
      → register_of a y ≡ Some reg → ⊥

-- the assignment that spills each temporary is proper for any procedure
abbrev pub AllSpilledIsProper : Type 0
AllSpilledIsProper = (p : AirProc) → IsProper p (record { homes = replicate p.tmps None; joins = [] })

-- by a proper assignment no home that an instruction writes stands in the register of another one that is kept
-- after it, but where it is a copy of that one
abbrev pub WritesApartIfProper : Type 0
WritesApartIfProper = (p : AirProc) (a : Assignment) (block place : ℕ) (i : AirInst) → IsWellFormed p → IsProper p a
    → StandsAt p block place i → (x y : Home) (reg : Register) → IsTarget x (targets i.operands)
    → IsKeptAfter p (record { block = block; place = place }) y → x ≢ y → (IsCopied i y x → ⊥)
    → register_of a x ≡ Some reg → register_of a y ≡ Some reg → ⊥
