-- What the interference graph of a procedure is.
use Rattle.std.specs.Prelude.{◌≡◌, ◌↔◌, ℕ, true, Some}
use Rattle.air_ir.specs.declared.operand.Home.{Home}
use Rattle.air_ir.specs.declared.procedure.AirProc.{AirProc}
use Rattle.air_flow.specs.Interfere.{Interfere}
use Rattle.air_graph.specs.Edges.{has_edge}
use Rattle.air_graph.specs.Homes.{number_of}
use Rattle.air_graph.specs.Moves.{moves_of}
use Rattle.air_graph.specs.declared.interference.Interference.{Interference}

-- it has the temporaries and the moves of the procedure, and there is an edge between two of the homes that are
-- coloured exactly where they interfere
pub record IsInterferenceOf (p : AirProc) (g : Interference) : Type 0 where
  pub tmps : g.tmps ≡ p.tmps
  pub meets : (a b : Home) (i j : ℕ) → number_of p.tmps a ≡ Some i → number_of p.tmps b ≡ Some j
      → (has_edge g.edges i j ≡ true) ↔ Interfere p a b
  pub moves : g.moves ≡ moves_of p
