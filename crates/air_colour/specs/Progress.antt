-- How far joining has come.
use Rattle.std.specs.Prelude.{◌≡◌, ℕ, ◌<◌, Bool, true, false, List, ◌++◌, length, slice_index_or}
use Rattle.air_graph.specs.Edges.{EdgeSet}
use Rattle.air_colour.specs.Interference.{Graph, IsIn, count}
use Rattle.air_colour.specs.Classes.{classes_of, Moves, after_joins, JoinsFrom}
use Rattle.air_colour.specs.declared.moves.Move.{Move}
use Rattle.air_colour.specs.Kept.{graph_of, HasRoom}

-- the home that stands for a class is a member of it, and members of a class don't interfere
pub record IsClassing (g : Graph) (class : ℕ → ℕ) : Type 0 where
  pub inside : (u : ℕ) → IsIn g u → IsIn g (class u)
  pub same : (u : ℕ) → IsIn g u → class (class u) ≡ class u
  pub apart : (u v : ℕ) → IsIn g u → IsIn g v → class u ≡ class v → g.meets u v ≡ false

-- two graphs have the same classes, and what holds of these in one holds in the other
pub record IsSame (g h : Graph) : Type 0 where
  pub names : g.names ≡ h.names
  pub classes : (x : ℕ) → x < g.names → g.has x ≡ h.has x
  pub registers : (x : ℕ) → IsIn g x → g.register x ≡ h.register x
  pub meets : (x y : ℕ) → IsIn g x → IsIn g y → g.meets x y ≡ h.meets x y

-- how many classes are left
abbrev pub left_count : List Bool → ℕ
left_count left = count (λ x. slice_index_or left x false) (length left)

-- the home that stands for a home's class
abbrev pub class_in : List ℕ → ℕ → ℕ
class_in class u = slice_index_or class u u

-- edges, lists and classes are those of as many homes
pub record IsState (edges : EdgeSet) (left fixed : List Bool) (class : List ℕ) : Type 0 where
  pub room : HasRoom edges (length left) (length fixed)
  pub classes : length class ≡ length left
  pub below : (u : ℕ) → u < length class → slice_index_or class u 0 < length left

-- they are the classes of the graph
pub record IsKept (g : Graph) (edges : EdgeSet) (left fixed : List Bool) (class : List ℕ) : Type 0 where
  pub all : (u : ℕ) → u < g.names → g.has u ≡ true
  pub same : IsSame (graph_of edges left fixed) (classes_of g (class_in class))
  pub classing : IsClassing g (class_in class)

-- the moves of a list
abbrev pub moves_of : List Move → Moves
moves_of moves = record { count = length moves; at = λ j. slice_index_or moves j (record { from = 0; to = 0 }) }

-- these moves were joined, from classes where each home stood alone or others, and led to these classes
pub record IsJoinedSoFar (k : ℕ) (g : Graph) (moves : Moves) (first : ℕ → ℕ) (joins : List ℕ) (class : ℕ
    → ℕ) : Type 0 where
  pub more : (rest : List ℕ) → JoinsFrom k g moves class rest → JoinsFrom k g moves first (joins ++ rest)
  pub after : (rest : List ℕ) → after_joins g moves first (joins ++ rest) ≡ after_joins g moves class rest
