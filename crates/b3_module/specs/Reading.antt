-- What holds while a text is read. No public clause cites this module.
use Rattle.std.specs.Prelude.{◌≡◌, ℕ, ◌+◌, ◌-◌, ◌<◌, ◌≤◌, Bool, true, false, List, [], ◌∷◌, length, slice_index_or, Option, Some, None}
use Rattle.b3_ir.specs.declared.value.Value.{Value}
use Rattle.b3_ir.specs.Fits.{Fits}
use Rattle.b3_ir.specs.Names.{IsName}
use Rattle.b3_ir.specs.Procedure.{Procedure, empty_procedure, total}
use Rattle.b3_rows.specs.declared.row.Row.{Row}
use Rattle.b3_rows.specs.declared.row.Row.TheVariants as rows
use Rattle.b3_module.specs.declared.fault.TextFault.{TextFault}
use Rattle.b3_module.specs.declared.fault.TextFault.TheVariants as faults
use Rattle.b3_module.specs.declared.place.Following.{Following}
use Rattle.b3_module.specs.declared.place.Following.TheVariants.{Nothing, Bare, One, Two, Many}
use Rattle.b3_module.specs.declared.place.Place.{Place}
use Rattle.b3_module.specs.declared.place.Place.TheVariants as places
use Rattle.b3_module.specs.Texts.{State, at, cases_in, following, with_targets}

-- the last procedure
abbrev pub last_of : List Procedure → Procedure
last_of ps = slice_index_or ps (length ps - 1) (empty_procedure [] 0)

-- how many lines have made a procedure, but for its header
abbrev pub size_of : Procedure → ℕ
size_of p = length p.slots + length p.blocks + total p

-- before this line there are fewer procedures than lines, and the last of them is of fewer lines
pub record IsCounted (ps : List Procedure) (line : ℕ) : Type 0 where
  pub procedures : length ps < line
  pub last : size_of (last_of ps) < line

-- a value fits once its successors have come
abbrev pub FitsWith : Following → Value → Type 0
FitsWith Nothing v = Fits v
FitsWith Bare v = Fits v
FitsWith One v = (a : ℕ) → Fits (with_targets v (a ∷ []))
FitsWith Two v = (a b : ℕ) → Fits (with_targets v (a ∷ b ∷ []))
FitsWith Many v = (targets : List ℕ) → length targets ≡ cases_in v.body + 1 → Fits (with_targets v targets)

-- what a row says may stand in a module
abbrev pub MayStand : Row → Type 0
MayStand (rows.Header name) = IsName name
MayStand (rows.ValueRow v) = FitsWith (following v.kind.opcode) v
MayStand _ = Unit {0}

-- there is a block, a procedure, or none
abbrev pub HasBlock : List Procedure → Type 0
HasBlock ps = (1 ≤ length ps) × (1 ≤ length (last_of ps).blocks)

abbrev pub IsPlaceIn : List Procedure → Place → Type 0
IsPlaceIn ps places.Outside = Unit {0}
IsPlaceIn ps places.Slots = 1 ≤ length ps
IsPlaceIn ps places.Values = HasBlock ps
IsPlaceIn ps places.Returned = HasBlock ps
IsPlaceIn ps (places.Jump v) = HasBlock ps × FitsWith One v
IsPlaceIn ps (places.Branch v) = HasBlock ps × FitsWith Two v
IsPlaceIn ps (places.Switch v) = HasBlock ps × FitsWith Many v

-- a state before this line
pub record IsReachable (s : State) (line : ℕ) : Type 0 where
  pub counted : IsCounted s.procedures line
  pub place : IsPlaceIn s.procedures s.place

-- no limit is told
abbrev pub IsNoLimit : TextFault → Type 0
IsNoLimit (faults.Limit which line) = ⊥
IsNoLimit fault = Unit {0}

abbrev pub may_end : Place → Bool
may_end places.Values = true
may_end places.Returned = true
may_end place = false

-- the state of a place, or none
abbrev pub state_of : Option Place → List Procedure → Option State
state_of None ps = None
state_of (Some place) ps = Some (at place ps)
