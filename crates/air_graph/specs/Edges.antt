-- Edges between numbers as contracts see them: one set, with a number for each pair of two different ones.
use Rattle.std.specs.Prelude.{◌≡◌, ℕ, zero, suc, ◌+◌, ◌^◌, ◌<◌, ◌≤◌, ◌⊎◌, ◌↔◌, Bool, true, false, cond, nat_lt, List, [], ◌∷◌, length, slice_index_or, Contains, refl}
use Rattle.std.specs.Coded.{Coded, code_by, coded×, coded_ℕ}
use Rattle.std.specs.FinSet as set
use Rattle.bit_rows.specs.BitRows.{BitSet}
use Rattle.air_graph.specs.Pages.{PagedBits}

-- how many pairs there are of two different numbers below n
unfoldable pub pairs_below : ℕ → ℕ
pairs_below zero = 0
pairs_below (suc n) = pairs_below n + n

-- the number of the pair of i and j, where i < j
abbrev pub pair_number : ℕ → ℕ → ℕ
pair_number i j = pairs_below j + i

-- edges between the numbers below `names`
pub record EdgeSet : Type 0 where
  pub names : ℕ
  pub pairs : BitSet

-- whether there is an edge between two numbers: there is none from a number to itself
abbrev pub has_edge : EdgeSet → ℕ → ℕ → Bool
has_edge e i j =
    cond (nat_lt i j) (set.contains e.pairs (pair_number i j)) (cond (nat_lt j i) (set.contains e.pairs
    (pair_number j i)) false)

-- two numbers are i and j, in one order or the other
abbrev pub ArePair : ℕ → ℕ → ℕ → ℕ → Type 0
ArePair i j x y = ((x ≡ i) × (y ≡ j)) ⊎ ((x ≡ j) × (y ≡ i))

-- edges are stored as the pair of their fields
abbrev pub edge_set_code : Coded EdgeSet
edge_set_code =
    code_by (ℕ × BitSet) (coded× coded_ℕ (set.code coded_ℕ)) (λ e. (e.names, e.pairs))
    (λ p. record { names = p.0; pairs = p.1 }) (λ _. refl)

-- 1 where the test holds
abbrev pub one : Bool → ℕ
one true = 1
one false = 0

-- how many numbers below n pass the test
abbrev pub count : (ℕ → Bool) → ℕ → ℕ
count p zero = 0
count p (suc n) = one (p n) + count p n

-- no number stands twice in a list
unfoldable pub IsOnce : List ℕ → Type 0
IsOnce [] = Unit {0}
IsOnce (x ∷ xs) = (Contains xs x → ⊥) × IsOnce xs

-- a list has each number that passes the test, once
pub record IsListOf (p : ℕ → Bool) (list : List ℕ) : Type 0 where
  pub all : (x : ℕ) → Contains list x ↔ (p x ≡ true)
  pub once : IsOnce list

-- for each number a list of its neighbours
pub record AreNear (e : EdgeSet) (near : List (List ℕ)) : Type 0 where
  pub long : length near ≡ e.names
  pub lists : (i : ℕ) → i < e.names → IsListOf (has_edge e i) (slice_index_or near i [])
  pub below : (i x : ℕ) → i < e.names → Contains (slice_index_or near i []) x → x < e.names

-- a bit for each pair, and lists beside them
pub record IsKept (names : ℕ) (pairs : PagedBits) (near : List (List ℕ)) : Type 0 where
  pub bits : pairs.bits ≡ pairs_below names
  pub few : names ≤ 2 ^ 17
  pub beside : AreNear (record { names = names; pairs = pairs.members }) near
