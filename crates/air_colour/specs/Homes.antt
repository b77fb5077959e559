-- The homes that are coloured: temporaries and after them registers.
use Rattle.std.specs.Prelude.{◌≡◌, ℕ, ◌+◌, ◌-◌, ◌<◌, Bool, true, false, leb, Option, None, List, length, slice_index_or}
use Rattle.air_graph.specs.Edges.{EdgeSet}
use Rattle.air_colour.specs.Interference.{Graph}
use Rattle.air_colour.specs.Kept.{has, given_in}

-- each home is a class by itself
abbrev pub home_graph : EdgeSet → ℕ → ℕ → Graph
home_graph edges temporaries k = record {
  names = temporaries + k;
  has = λ u. true;
  register = λ u. leb temporaries u;
  meets = has edges;
}

-- the register that a home is, counted from 0
abbrev pub register_of : ℕ → ℕ → ℕ
register_of temporaries u = u - temporaries

-- at the start each home is left, stands alone and is given nothing
pub record IsStarted (edges : EdgeSet) (l f : List Bool) (c : List ℕ) (gs : List (Option ℕ))
    (temporaries k : ℕ) : Type 0 where
  pub names : edges.names ≡ temporaries + k
  pub left_long : length l ≡ temporaries + k
  pub fixed_long : length f ≡ temporaries + k
  pub class_long : length c ≡ temporaries + k
  pub given_long : length gs ≡ temporaries + k
  pub left : (x : ℕ) → x < temporaries + k → slice_index_or l x false ≡ true
  pub fixed : (x : ℕ) → x < temporaries + k → slice_index_or f x false ≡ leb temporaries x
  pub class : (x : ℕ) → x < temporaries + k → slice_index_or c x x ≡ x
  pub given : (x : ℕ) → given_in gs x ≡ None
