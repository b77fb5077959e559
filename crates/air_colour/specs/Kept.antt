-- No public clause cites this module. What is kept of a graph: its edges, and two lists that say which classes are left
-- and which hold a register.
use Rattle.std.specs.Prelude.{◌≡◌, ℕ, ◌<◌, Bool, true, false, Option, Some, None, ◌&&◌, ◌↔◌, ◌⊎◌, Contains, List, length, slice_index_or}
use Rattle.air_graph.specs.Edges.{EdgeSet, has_edge}
use Rattle.air_colour.specs.Interference.{Graph, IsIn, count}
use Rattle.air_colour.specs.Joining.{is_significant}

-- whether two names have an edge
abbrev pub has : EdgeSet → ℕ → ℕ → Bool
has edges a b = has_edge edges a b

abbrev pub graph_of : EdgeSet → List Bool → List Bool → Graph
graph_of edges left fixed = record {
  names = length left;
  has = λ a. slice_index_or left a false;
  register = λ a. slice_index_or fixed a false;
  meets = has edges;
}

-- there are edges and a place in the list for each name
pub record HasRoom (edges : EdgeSet) (n fixed : ℕ) : Type 0 where
  pub names : edges.names ≡ n
  pub same : fixed ≡ n

-- how many classes that are left the class interferes with
abbrev pub neighbours_left : EdgeSet → List Bool → ℕ → ℕ
neighbours_left edges left a = count (λ b. slice_index_or left b false && has edges a b) (length left)

-- edges from a to each of a list were added
abbrev pub JoinedTo : EdgeSet → EdgeSet → ℕ → List ℕ → ℕ → ℕ → Type 0
JoinedTo old new a near y z =
    (has new y z ≡ true) ↔ ((has old y z ≡ true) ⊎ (((y ≡ a) × Contains near z) ⊎ ((z ≡ a) × Contains near y)))

-- the class is left, and holds a register or has at least k neighbours
abbrev pub significant_left : ℕ → EdgeSet → List Bool → List Bool → ℕ → Bool
significant_left k edges left fixed x = slice_index_or left x false && is_significant k (graph_of edges left fixed) x

-- the register that a class is given
abbrev pub given_in : List (Option ℕ) → ℕ → Option ℕ
given_in given a = slice_index_or given a None

-- a class that interferes with this one is given the register
abbrev pub IsTaken : EdgeSet → List (Option ℕ) → ℕ → ℕ → Type 0
IsTaken edges given a r = (x : ℕ) × (x < length given) × (has edges a x ≡ true) × (given_in given x ≡ Some r)

-- only classes that hold registers are given any
abbrev pub IsStart : Graph → (ℕ → Option ℕ) → Type 0
IsStart g given = (x r : ℕ) → given x ≡ Some r → IsIn g x × (g.register x ≡ true)
