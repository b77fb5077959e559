-- No public clause cites this module. Degrees and the list of classes that can go, while classes are taken away.
use Rattle.std.specs.Prelude.{◌≡◌, ℕ, ◌<◌, Bool, true, false, List, length, slice_index_or, Contains}
use Rattle.air_graph.specs.Edges.{EdgeSet}
use Rattle.air_colour.specs.Kept.{neighbours_left}

-- the degree of a class in a list
abbrev pub degree_in : List ℕ → ℕ → ℕ
degree_in degrees x = slice_index_or degrees x 0

-- the class holds no register and has few neighbours left
pub record IsLow (k n : ℕ) (fixed : List Bool) (degrees : List ℕ) (x : ℕ) : Type 0 where
  pub below : x < n
  pub free : slice_index_or fixed x false ≡ false
  pub few : degree_in degrees x < k

-- each class of the list is low
abbrev pub AreLow : ℕ → ℕ → List Bool → List ℕ → List ℕ → Type 0
AreLow k n fixed degrees low = (x : ℕ) → Contains low x → IsLow k n fixed degrees x

-- each low class that is left, but one, is in the list
abbrev pub HasLow : ℕ → List Bool → List Bool → List ℕ → List ℕ → (ℕ → Type 0) → Type 0
HasLow k left fixed degrees low But =
    (x : ℕ) → slice_index_or left x false ≡ true → IsLow k (length left) fixed degrees x → (But x → ⊥) → Contains low x

-- the degrees are those of the classes that are left
pub record AreDegrees (edges : EdgeSet) (left : List Bool) (degrees : List ℕ) : Type 0 where
  pub long : length degrees ≡ length left
  pub are : (x : ℕ) → x < length left → degree_in degrees x ≡ neighbours_left edges left x

-- each class below this one that is left holds a register
abbrev pub IsPassed : List Bool → List Bool → ℕ → Type 0
IsPassed left fixed high = (x : ℕ) → x < high → slice_index_or left x false ≡ true → slice_index_or fixed x false ≡ true
