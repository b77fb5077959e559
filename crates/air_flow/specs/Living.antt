-- Which homes are live before and after the instructions of a procedure.
use Rattle.std.specs.Prelude.{◌≡◌, ℕ, ◌+◌, ◌<◌, ◌≤◌, ◌⊎◌, ◌↔◌, List, [], ◌∷◌, length, Some, slice_get, Contains}
use Rattle.flow_live.specs.Graph.{Follows, IsInRange, LiveBefore, LiveOut, Place}
use Rattle.flow_live.specs.declared.touch.Touch.{Touch}
use Rattle.flow_live.specs.declared.touch.Touch.TheVariants as touch
use Rattle.air_ir.specs.Related.{Flows, IsOneOf, homes_of}
use Rattle.air_ir.specs.WellFormed.{IsWellFormed, StandsAt}
use Rattle.air_ir.specs.declared.operand.Home.{Home}
use Rattle.air_ir.specs.declared.operand.Home.TheVariants.{Tmp, Reg, Spill}
use Rattle.air_ir.specs.declared.operand.Operand.{Operand}
use Rattle.air_ir.specs.declared.procedure.AirBlock.{AirBlock}
use Rattle.air_ir.specs.declared.procedure.AirInst.{AirInst}
use Rattle.air_ir.specs.declared.procedure.AirProc.{AirProc}
use Rattle.air_flow.specs.Flow.{flow_of, inst_touches, name_of}

-- a temporary of the procedure, or a general register
abbrev pub IsOf : AirProc → Home → Type 0
IsOf p (Tmp number) = number < p.tmps
IsOf p (Reg reg) = reg.0 ≤ 30
IsOf p (Spill number) = Unit {0}

-- a home has a name in the flow
abbrev pub HasName : AirProc → Home → ℕ → Type 0
HasName p home name = IsOf p home × (name_of p.tmps home ≡ Some name)

-- an instruction touches a home in this way
abbrev pub IsTouchedBy : AirProc → (ℕ → Touch) → AirInst → Home → Type 0
IsTouchedBy p way i home = (name : ℕ) × HasName p home name × Contains (inst_touches p.tmps i) (way name)

abbrev pub IsUsedBy : AirProc → AirInst → Home → Type 0
IsUsedBy p i home = IsTouchedBy p (λ name. touch.Use name) i home

abbrev pub IsUsedLateBy : AirProc → AirInst → Home → Type 0
IsUsedLateBy p i home = IsTouchedBy p (λ name. touch.LateUse name) i home

abbrev pub IsDefinedBy : AirProc → AirInst → Home → Type 0
IsDefinedBy p i home = IsTouchedBy p (λ name. touch.Def name) i home

-- ---- liveness

-- a home is live before a place: its name is live there in the flow
abbrev pub IsLive : AirProc → Place → Home → Type 0
IsLive p at home = (name : ℕ) × HasName p home name × LiveBefore (flow_of p) name at

-- it is live after a place: it is live before one that follows
abbrev pub IsLiveAfter : AirProc → Place → Home → Type 0
IsLiveAfter p at home = (next : Place) × Follows (flow_of p) at next × IsLive p next home

-- ---- spill places

-- an operand names a home, also in an address
unfoldable pub IsNamedIn : Home → List Operand → Type 0
IsNamedIn home [] = ⊥
IsNamedIn home (o ∷ os) = IsOneOf home (homes_of o.arg) ⊎ IsNamedIn home os

-- some instruction of the procedure names a home
abbrev pub IsNamed : AirProc → Home → Type 0
IsNamed p home = (block : ℕ) × (place : ℕ) × (i : AirInst) × StandsAt p block place i × IsNamedIn home i.operands

-- a home whose word may still be read: a live one, and at each place a spill place that the procedure names
abbrev pub IsKept : AirProc → Place → Home → Type 0
IsKept p at (Tmp number) = IsLive p at (Tmp number)
IsKept p at (Reg reg) = IsLive p at (Reg reg)
IsKept p at (Spill number) = IsNamed p (Spill number)

abbrev pub IsKeptAfter : AirProc → Place → Home → Type 0
IsKeptAfter p at home = (next : Place) × Follows (flow_of p) at next × IsKept p next home

-- ---- what holds of liveness

-- a home is live before an instruction exactly where that uses it, or where it is live after it and isn't defined
abbrev pub LiveByTouches : Type 0
LiveByTouches = (p : AirProc) (block place : ℕ) (i : AirInst) → StandsAt p block place i → (home : Home)
    → let at : Place = record { block = block; place = place } in
    IsLive p at home
    ↔ ((IsUsedBy p i home ⊎ IsUsedLateBy p i home) ⊎ (IsLiveAfter p at home × (IsDefinedBy p i home → ⊥)))

-- a home is live after an instruction exactly where it is live before the next one, or behind the last one where
-- its name is live out of the block
pub record LivesOn (p : AirProc) (block place : ℕ) (of : AirBlock) (home : Home) : Type 0 where
  pub next : place + 1 < length of.insts → IsLiveAfter p (record { block = block; place = place }) home
      ↔ IsLive p (record { block = block; place = place + 1 }) home
  pub last : place + 1 ≡ length of.insts → IsLiveAfter p (record { block = block; place = place }) home
      ↔ ((name : ℕ) × HasName p home name × LiveOut (flow_of p) name block)

abbrev pub LiveOn : Type 0
LiveOn = (p : AirProc) (block place : ℕ) (of : AirBlock) (home : Home) → slice_get p.blocks block ≡ Some of
    → LivesOn p block place of home

-- ---- what holds of well-formed procedures

-- each successor is a block, and each touched name is one of the names
abbrev pub AreInRange : Type 0
AreInRange = (p : AirProc) → IsWellFormed p → IsInRange (flow_of p)

-- what an instruction reads is kept before it, and what is kept after it and isn't written is kept before it
abbrev pub KeepUses : Type 0
KeepUses = (p : AirProc) (block place : ℕ) (i : AirInst) → IsWellFormed p → StandsAt p block place i
    → let at : Place = record { block = block; place = place } in Flows (IsKept p at) (IsKeptAfter p at) i.operands

-- what is kept before the next instruction, or at the beginning of a target behind the last one, is kept after an
-- instruction
pub record KeepsOn (p : AirProc) (block place : ℕ) (of : AirBlock) : Type 0 where
  pub next : (home : Home) → place + 1 < length of.insts → IsKept p (record { block = block; place = place + 1 }) home
      → IsKeptAfter p (record { block = block; place = place }) home
  pub target : (home : Home) (k target : ℕ) → place + 1 ≡ length of.insts → slice_get of.targets k ≡ Some target
      → IsKept p (record { block = target; place = 0 }) home
      → IsKeptAfter p (record { block = block; place = place }) home

abbrev pub KeepOn : Type 0
KeepOn = (p : AirProc) (block place : ℕ) (of : AirBlock) → slice_get p.blocks block ≡ Some of
    → KeepsOn p block place of
