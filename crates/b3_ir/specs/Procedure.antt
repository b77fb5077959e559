-- What contracts see of a procedure, and the places of its nodes.
use Rattle.std.specs.Prelude.{◌≡◌, ℕ, ◌+◌, ◌<◌, ◌≤◌, ◌^◌, ◌==◌, suc, if◌then◌else◌, Bool, List, [], ◌∷◌, ◌++◌, Option, Some, None, length, map, sum_by, drop, All, slice_get, slice_set, slice_index_or}
use Rattle.b3_ir.specs.declared.value.Value.{Value}
use Rattle.b3_ir.specs.declared.procedure.SlotLine.{SlotLine}
use Rattle.b3_ir.specs.Fits.{Fits}

-- a block: its number, the line of its heading, and its values in order
pub record Block : Type 0 where
  pub number : ℕ
  pub line : ℕ
  pub values : List Value

-- a procedure: its name, the line of its header, its slots and its blocks in order
pub record Procedure : Type 0 where
  pub name : List ℕ
  pub line : ℕ
  pub slots : List SlotLine
  pub blocks : List Block

-- a procedure as it is kept: the procedure; beside the values of each block the ids of their nodes;
-- and how many more values fit without memory
pub record Kept : Type 0 where
  pub procedure : Procedure
  pub nodes : List (List ℕ)
  pub spare : ℕ

-- a block and a procedure with nothing in them
abbrev pub empty_block : ℕ → ℕ → Block
empty_block number line = record { number = number; line = line; values = [] }

abbrev pub empty_procedure : List ℕ → ℕ → Procedure
empty_procedure name line = record { name = name; line = line; slots = []; blocks = [] }

abbrev pub empty_kept : List ℕ → ℕ → Kept
empty_kept name line = record { procedure = empty_procedure name line; nodes = []; spare = 0 }

-- what stands past the last block
abbrev pub no_block : Block
no_block = empty_block 0 0

-- the values of the block at this place, counted from 0
abbrev pub values_of : Procedure → ℕ → List Value
values_of p block = (slice_index_or p.blocks block no_block).values

-- value v stands at this place of this block, both counted from 0
abbrev pub StandsAt : Procedure → ℕ → ℕ → Value → Type 0
StandsAt p block place v = slice_get (values_of p block) place ≡ Some v

-- the values of all blocks, block by block
abbrev pub values_by_block : Procedure → List (List Value)
values_by_block p = map (λ (b : Block). b.values) p.blocks

-- the number of all values
abbrev pub total : Procedure → ℕ
total p = sum_by (λ (b : Block). length b.values) p.blocks

-- the procedure with other values in a block
abbrev pub with_values : Procedure → ℕ → List Value → Procedure
with_values p block values = record p { blocks = slice_set p.blocks block (record (slice_index_or p.blocks block no_block) { values = values }) }

-- the ids of the nodes of the block at this place
abbrev pub nodes_of : Kept → ℕ → List ℕ
nodes_of p block = slice_index_or p.nodes block []

-- the node stands at this place of this block, both counted from 0
abbrev pub IsAt : Kept → ℕ → ℕ → ℕ → Type 0
IsAt p node block place = slice_get (nodes_of p block) place ≡ Some node

-- the node stands in this block
abbrev pub IsIn : Kept → ℕ → ℕ → Type 0
IsIn p node block = (place : ℕ) × IsAt p node block place

-- the node is one of the procedure
abbrev pub IsNode : Kept → ℕ → Type 0
IsNode p node = (block : ℕ) × (place : ℕ) × IsAt p node block place

-- the block has one more node at its end, which was no node before
abbrev pub AddsNode : Kept → Kept → ℕ → Type 0
AddsNode old new block = (node : ℕ) × (IsNode old node → ⊥) × (new.nodes ≡ slice_set old.nodes block (nodes_of old block ++ node ∷ []))

-- the place of an id in a list that has it
abbrev pub place_among : List ℕ → ℕ → ℕ
place_among [] id = 0
place_among (n ∷ ns) id = if n == id then 0 else suc (place_among ns id)

-- the place of an optional node: past the last where there is none
abbrev pub place_of : List ℕ → Option ℕ → ℕ
place_of ns None = length ns
place_of ns (Some id) = place_among ns id

-- the values of a block from a node on, and none where there is no node
abbrev pub values_from : Kept → ℕ → Option ℕ → List Value
values_from p block None = []
values_from p block (Some node) = drop (place_among (nodes_of p block) node) (values_of p.procedure block)

-- each value is one that may stand in a procedure
abbrev pub AllFit : List Block → Type 0
AllFit blocks = All (λ (b : Block). All Fits b.values) blocks

-- each value fits and has its node, no two places have one node, and 32 bits count blocks, slots,
-- and values with the room for more
pub record IsWhole (p : Kept) : Type 0 where
  pub as_many : length p.nodes ≡ length p.procedure.blocks
  pub even : (block : ℕ) → length (nodes_of p block) ≡ length (values_of p.procedure block)
  pub differ : (b c j k node : ℕ) → IsAt p node b j → IsAt p node c k → (b ≡ c) × (j ≡ k)
  pub places : (block k : ℕ) → k ≤ length (nodes_of p block) → place_of (nodes_of p block) (slice_get (nodes_of p block) k) ≡ k
  pub few : (block : ℕ) → length (values_of p.procedure block) ≤ 2 ^ 32
  pub counted : total p.procedure + p.spare ≤ 2 ^ 32
  pub few_blocks : length p.procedure.blocks < 2 ^ 32
  pub few_slots : length p.procedure.slots < 2 ^ 32
  pub fit : AllFit p.procedure.blocks

-- the items that are marked
abbrev pub marked : {A : Type 0} → List Bool → List A → List A
marked [] xs = []
marked (m ∷ marks) [] = []
marked (m ∷ marks) (x ∷ xs) = if m then x ∷ marked marks xs else marked marks xs

-- the blocks under the numbers from this one on
abbrev pub numbered : ℕ → List Block → List Block
numbered number [] = []
numbered number (b ∷ bs) = record b { number = number } ∷ numbered (number + 1) bs

-- the procedures of a module
abbrev pub procedures : List Kept → List Procedure
procedures m = map (λ (k : Kept). k.procedure) m
