-- What colouring promises of the registers that it gives.
use Rattle.std.specs.Prelude.{◌≡◌, ℕ, ◌+◌, ◌<◌, Option, Some, None, true, length, map, slice_get}
use Rattle.b3_ir.specs.declared.value.Reg.{Reg as Register}
use Rattle.stackmap.specs.Rules.{IsAllocatable}
use Rattle.air_ir.specs.declared.assignment.Assignment.{Assignment}
use Rattle.air_ir.specs.declared.operand.Home.{Home}
use Rattle.air_flow.specs.Proper.{register_of}
use Rattle.air_graph.specs.Edges.{has_edge}
use Rattle.air_graph.specs.Homes.{edge_between, home_at, number_of, register_at}
use Rattle.air_graph.specs.declared.interference.Interference.{Interference}
use Rattle.air_graph.specs.declared.moves.Copied.{Copied}
use Rattle.air_colour.specs.Interference.{Graph}
use Rattle.air_colour.specs.Easy.{Easy}
use Rattle.air_colour.specs.Classes.{Joined, Moves, classes_left}
use Rattle.air_colour.specs.Homes.{home_graph}
use Rattle.air_colour.specs.Progress.{moves_of}
use Rattle.air_colour.specs.declared.moves.Move.{Move}

-- how many registers values may stand in
abbrev pub colours : ℕ
colours = 25

-- the graph of the homes: each of the temporaries and the registers is a class by itself
abbrev pub graph_in : Interference → Graph
graph_in g = home_graph g.edges g.tmps colours

-- the number of a home; one that isn't coloured has the number behind the last
abbrev pub number_or : ℕ → Option ℕ → ℕ
number_or past (Some n) = n
number_or past None = past

abbrev pub number_in : ℕ → Home → ℕ
number_in tmps home = number_or (tmps + colours) (number_of tmps home)

-- the moves of the graph, by numbers
abbrev pub move_of : ℕ → Copied → Move
move_of tmps c = record { from = number_in tmps c.from; to = number_in tmps c.to }

abbrev pub moves_in : Interference → Moves
moves_in g = moves_of (map (move_of g.tmps) g.moves)

-- the register at a place among the registers
abbrev pub as_register : Option ℕ → Option Register
as_register (Some k) = Some (record { 0 = register_at k })
as_register None = None

-- the register of the home of a number
abbrev pub stands_in : Interference → Assignment → ℕ → Option Register
stands_in g a n = register_of a (home_at g.tmps n)

-- the home that stands for the class of the home of a number, after the joins
abbrev pub class_of : Interference → Assignment → ℕ → ℕ
class_of g a n = classes_left (graph_in g) (moves_in g) a.joins n

-- a register is barred from a home: a member of the home's class interferes with a home that stands in it
pub record IsBarred (g : Interference) (a : Assignment) (n k : ℕ) : Type 0 where
  pub member : ℕ
  pub other : ℕ
  pub together : class_of g a member ≡ class_of g a n
  pub meets : has_edge g.edges member other ≡ true
  pub stands : stands_in g a other ≡ as_register (Some k)

-- each temporary is given a register or none; no two homes that interfere are given one; the moves of the list
-- `joins` are joined, in its order, and no other may be; the homes of a class are given the same; where the graph is
-- easy nothing is spilled; and a temporary is spilled only where each register is barred
pub record IsColouringOf (g : Interference) (a : Assignment) : Type 0 where
  pub tmps : length a.homes ≡ g.tmps
  pub registers : (number : ℕ) (reg : Register) → slice_get a.homes number ≡ Some (Some reg) → IsAllocatable reg
  pub apart : (x y : Home) (reg : Register) → edge_between g.edges (number_of g.tmps x) (number_of g.tmps y) ≡ true
      → register_of a x ≡ Some reg → register_of a y ≡ Some reg → ⊥
  pub joined : Joined colours (graph_in g) (moves_in g) a.joins
  pub together : (i j : ℕ) → i < g.tmps + colours → j < g.tmps + colours → class_of g a i ≡ class_of g a j
      → stands_in g a i ≡ stands_in g a j
  pub easy : Easy colours (graph_in g) → (number : ℕ) → slice_get a.homes number ≡ Some None → ⊥
  pub spilled : (number k : ℕ) → slice_get a.homes number ≡ Some None → k < colours → IsBarred g a number k
