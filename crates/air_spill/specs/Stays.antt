-- What stays of the sites and spill places of a procedure that is rewritten.
use Rattle.std.specs.Prelude.{◌≡◌, ◌⊎◌, ℕ, ◌+◌, Some, None, slice_get}
use Rattle.b3_ir.specs.Fits.{Fits}
use Rattle.b3_ir.specs.Procedure.{Procedure}
use Rattle.b3_ir.specs.declared.value.Value.{Value}
use Rattle.stackmap.specs.Rules.{IsPlaceable}
use Rattle.air_ir.specs.Expressed.{IsExpressed, IsExpressedInPlaces}
use Rattle.air_ir.specs.SitesInPlaces.{ObeysInPlaces}
use Rattle.air_ir.specs.WellFormed.{StandsAt}
use Rattle.air_ir.specs.declared.assignment.Assignment.{Assignment}
use Rattle.air_ir.specs.declared.operand.Home.TheVariants.{Spill}
use Rattle.air_ir.specs.declared.procedure.AirInst.{AirInst}
use Rattle.air_ir.specs.declared.procedure.AirProc.{AirProc}
use Rattle.air_flow.specs.Living.{IsNamed}
use Rattle.air_spill.specs.Rewritten.{first_spill}

-- an instruction comes from another one: what it does, its value and whether it traps stay; where the other one is
-- expressed for a value of B3, it is expressed for it in places, and obeys where the value keeps the rules of
-- stackmaps
pub record ComesFrom (i j : AirInst) : Type 0 where
  pub op : j.op ≡ i.op
  pub value : j.value ≡ i.value
  pub traps : j.traps ≡ i.traps
  pub expressed : (b3 : Procedure) (v : Value) → IsExpressed b3 v i → IsExpressedInPlaces b3 v j
  pub obeys : (b3 : Procedure) (v : Value) → Fits v → IsPlaceable v → IsExpressed b3 v i → ObeysInPlaces b3 v j

-- each instruction of a procedure comes from one of another one, in the same block
abbrev pub ComesFromEach : AirProc → AirProc → Type 0
ComesFromEach p q = (block place : ℕ) (j : AirInst) → StandsAt q block place j
    → (at : ℕ) × (i : AirInst) × StandsAt p block at i × ComesFrom i j

-- ---- spill places

-- a temporary is spilled to the place of this number
abbrev pub IsSpilledAt : Assignment → ℕ → Type 0
IsSpilledAt a n = (k : ℕ) × (slice_get a.homes k ≡ Some None) × (n ≡ first_spill + k)

-- each spill place that a procedure names is one that another one names, or that of a temporary that is spilled
abbrev pub AddsPlaces : AirProc → Assignment → AirProc → Type 0
AddsPlaces p a q = (n : ℕ) → IsNamed q (Spill n) → IsNamed p (Spill n) ⊎ IsSpilledAt a n
