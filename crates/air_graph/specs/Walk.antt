-- No public clause cites this module. What the walk over a procedure keeps.
use Rattle.std.specs.Prelude.{◌≡◌, ◌≢◌, ◌↔◌, ℕ, ◌+◌, ◌-◌, ◌<◌, ◌⊎◌, ◌&&◌, Bool, true, cond, nat_eq, nat_lt, Option, Some, None, List, length}
use Rattle.std.specs.Prelude.{Contains, filter_map}
use Rattle.std.specs.List.{list_any}
use Rattle.flow_live.specs.Graph.{LiveOut}
use Rattle.flow_live.specs.declared.touch.Touch.{Touch}
use Rattle.flow_live.specs.declared.touch.Touch.TheVariants as touch
use Rattle.air_ir.specs.Blocks.{block_of}
use Rattle.air_ir.specs.Operands.{same_home}
use Rattle.air_ir.specs.WellFormed.{StandsAt}
use Rattle.air_ir.specs.declared.operand.Arg.{Arg}
use Rattle.air_ir.specs.declared.operand.Arg.TheVariants.{At}
use Rattle.air_ir.specs.declared.operand.Home.{Home}
use Rattle.air_ir.specs.declared.operand.Operand.{Operand}
use Rattle.air_ir.specs.declared.operand.Role.{Role}
use Rattle.air_ir.specs.declared.operand.Role.TheVariants.{EarlyDef}
use Rattle.air_ir.specs.declared.procedure.AirInst.{AirInst}
use Rattle.air_ir.specs.declared.procedure.AirProc.{AirProc}
use Rattle.air_flow.specs.Flow.{flow_of}
use Rattle.air_flow.specs.Interfere.{Meets}
use Rattle.air_flow.specs.Living.{IsLive}
use Rattle.air_graph.specs.Edges.{EdgeSet, has_edge}
use Rattle.air_graph.specs.Homes.{home_at, number_of}
use Rattle.air_graph.specs.Moves.{inst_moves}
use Rattle.air_graph.specs.declared.moves.Copied.{Copied}
use Rattle.air_graph.specs.declared.touched.Touched.{Touched}

-- the number of the home that has a name in the flow, where it is coloured
abbrev pub number_named : ℕ → ℕ → Option ℕ
number_named tmps name =
    cond (nat_lt name (tmps + 15)) (Some name)
    (cond (nat_lt name (tmps + 19)) None (cond (nat_lt name (tmps + 29)) (Some (name - 4)) None))

-- the name of the home of a number
abbrev pub name_at : ℕ → ℕ → ℕ
name_at tmps n = cond (nat_lt n (tmps + 15)) n (n + 4)

-- what a touch uses, uses late or defines
abbrev pub used_by : ℕ → Touch → Option ℕ
used_by tmps (touch.Use name) = number_named tmps name
used_by tmps _ = None

abbrev pub used_late_by : ℕ → Touch → Option ℕ
used_late_by tmps (touch.LateUse name) = number_named tmps name
used_late_by tmps _ = None

abbrev pub defined_by : ℕ → Touch → Option ℕ
defined_by tmps (touch.Def name) = number_named tmps name
defined_by tmps _ = None

-- the number of a home that may be written before the uses are read
abbrev pub early_arg : ℕ → Arg → Option ℕ
early_arg tmps (At home) = number_of tmps home
early_arg tmps _ = None

abbrev pub early_role : ℕ → Role → Arg → Option ℕ
early_role tmps EarlyDef arg = early_arg tmps arg
early_role tmps _ arg = None

abbrev pub early_of : ℕ → Operand → Option ℕ
early_of tmps o = early_role tmps o.role o.arg

-- what an instruction does to homes, by their numbers
pub record IsTouchedOf (tmps : ℕ) (touches : List Touch) (i : AirInst) (t : Touched) : Type 0 where
  pub used : t.used ≡ filter_map (used_by tmps) touches
  pub late : t.late ≡ filter_map (used_late_by tmps) touches
  pub defined : t.defined ≡ filter_map (defined_by tmps) touches
  pub early : t.early ≡ filter_map (early_of tmps) i.operands
  pub moves : t.moves ≡ inst_moves i

-- whether one of the moves goes from one home to another
abbrev pub is_move : List Copied → Home → Home → Bool
is_move moves from to = list_any (λ m. same_home m.from from && same_home m.to to) moves

-- whether a list has a number
abbrev pub in_list : List ℕ → ℕ → Bool
in_list list n = list_any (λ x. nat_eq x n) list

-- the home of y is needed while that of x is defined
abbrev pub IsMet : ℕ → Touched → List ℕ → ℕ → ℕ → Type 0
IsMet tmps t live x y =
    (Contains live y × (Contains t.moves (record { from = home_at tmps y; to = home_at tmps x }) → ⊥))
    ⊎ (Contains t.late y ⊎ ((Contains t.early x × Contains t.used y) ⊎ Contains t.defined y))

-- the numbers of a list
abbrev pub AreBelow : ℕ → List ℕ → Type 0
AreBelow n list = (x : ℕ) → Contains list x → x < n

-- a home is live before a place of a block, or out of the block behind its last place
abbrev pub IsLiveNow : AirProc → ℕ → ℕ → ℕ → Type 0
IsLiveNow p block place n =
    ((place < length (block_of p block).insts) × IsLive p (record { block = block; place = place }) (home_at p.tmps n))
    ⊎ ((place ≡ length (block_of p block).insts) × LiveOut (flow_of p) (name_at p.tmps n) block)

-- the list has the numbers of the homes that are live there
pub record LiveNow (p : AirProc) (block place : ℕ) (live : List ℕ) : Type 0 where
  pub below : AreBelow (p.tmps + 25) live
  pub is : (n : ℕ) → n < p.tmps + 25 → Contains live n ↔ IsLiveNow p block place n

-- homes meet at an instruction of the procedure, one way or the other
abbrev pub MeetAt : AirProc → ℕ → ℕ → ℕ → ℕ → Type 0
MeetAt p block place x y = (i : AirInst) × StandsAt p block place i
    × (Meets p (record { block = block; place = place }) i (home_at p.tmps x) (home_at p.tmps y)
    ⊎ Meets p (record { block = block; place = place }) i (home_at p.tmps y) (home_at p.tmps x))

-- the edges that were there, and those between the numbers that this holds of
abbrev pub Adds : ℕ → EdgeSet → EdgeSet → (ℕ → ℕ → Type 0) → Type 0
Adds n old new More = (x y : ℕ) → x < n → y < n
    → (has_edge new x y ≡ true) ↔ ((has_edge old x y ≡ true) ⊎ ((x ≢ y) × More x y))
