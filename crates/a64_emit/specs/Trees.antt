-- Search trees over the items of a list. No public clause cites this module.
use Rattle.std.specs.Prelude.{ℕ, zero, suc, ◌+◌, ◌/◌, nat_le, if◌then◌else◌, List, [], ◌∷◌, length, take, drop}

-- a few items, or an item between the trees of those before it and of those behind it
pub data Tree (X : Type 0) : Type 0 where
  Leaf : (items : List X) → Tree X
  Node : (before : Tree X) (item : X) (behind : Tree X) → Tree X

-- the first item of the second list, between the trees of what stands before it and behind it
abbrev pub node_at : {X : Type 0} → (List X → Tree X) → List X → List X → Tree X
node_at grow before [] = Leaf before
node_at grow before (item ∷ behind) = Node (grow before) item (grow behind)

-- the tree of a list, with at most so many nodes one below the other: up to three items are a leaf, and else the middle
-- one is a node
unfoldable pub tree_of : {X : Type 0} → ℕ → List X → Tree X
tree_of zero items = Leaf items
tree_of (suc n) items =
    if nat_le (length items) 3 then Leaf items else
    node_at (tree_of n) (take (length items / 2) items) (drop (length items / 2) items)

abbrev pub tree : {X : Type 0} → List X → Tree X
tree items = tree_of (length items) items

unfoldable pub node_count : {X : Type 0} → Tree X → ℕ
node_count (Leaf items) = 0
node_count (Node before item behind) = node_count before + 1 + node_count behind
