-- What the search for the least solution keeps. For n blocks, row b holds the names known to be
-- live into block b, row n + b those known to be live out of it, row 2 n + b those that it
-- defines, and row 3 n is for work.
use Rattle.std.specs.Prelude.{◌≡◌, ℕ, zero, suc, ◌+◌, ◌*◌, ◌^◌, ◌<◌, ◌≤◌, ◌⊎◌, ◌↔◌, Bool, true, false, not, ◌&&◌, ◌||◌, List, length, slice_index_or}
use Rattle.std.specs.FinSet as set
use Rattle.bit_rows.specs.BitRows.{BitRows, row_of}
use Rattle.flow_live.specs.Graph.{Graph, Uses, Defines, IsSuccessor, LiveIn, LiveOut}

-- whether a row has a name
abbrev pub has : BitRows → ℕ → ℕ → Bool
has rows row name = set.contains (row_of rows row) name

-- the block uses the name at a place below `end`, and defines it at no place before that
abbrev pub IsExposedBelow : Graph → ℕ → ℕ → ℕ → Type 0
IsExposedBelow g name block end =
    (place : ℕ) × (place < end) × Uses g name (record { block = block; place = place })
    × ((earlier : ℕ) → earlier < place → Defines g name (record { block = block; place = earlier }) → ⊥)

-- the block defines the name at a place below `end`
abbrev pub IsDefinedBelow : Graph → ℕ → ℕ → ℕ → Type 0
IsDefinedBelow g name block end = (place : ℕ) × (place < end) × Defines g name (record { block = block; place = place })

-- rows for all blocks of the graph
pub record HasRoom (g : Graph) (rows : BitRows) : Type 0 where
  pub bits : rows.bits ≡ g.names
  pub all : length rows.sets ≡ 3 * g.blocks + 1
  pub few : g.blocks ≤ 2 ^ 32

-- the names that the block uses first, and those that it defines, at its places below `end`
pub record IsGatheredBelow (g : Graph) (block end : ℕ) (rows : BitRows) : Type 0 where
  pub used : (name : ℕ) → (has rows block name ≡ true) ↔ IsExposedBelow g name block end
  pub defined : (name : ℕ) → (has rows (2 * g.blocks + block) name ≡ true) ↔ IsDefinedBelow g name block end

-- every name that is known to be live is live, each block's own uses and definitions are known,
-- and what goes out of a block that doesn't define it goes in
pub record IsSolving (g : Graph) (rows : BitRows) : Type 0 where
  pub room : HasRoom g rows
  pub in_names : (row name : ℕ) → has rows row name ≡ true → name < g.names
  pub ins : (block name : ℕ) → block < g.blocks → has rows block name ≡ true → LiveIn g name block
  pub outs : (block name : ℕ) → block < g.blocks → has rows (g.blocks + block) name ≡ true → LiveOut g name block
  pub used : (block name : ℕ) → block < g.blocks → IsExposedBelow g name block (g.places block) → has rows block name ≡ true
  pub defined : (block name : ℕ) → block < g.blocks → (has rows (2 * g.blocks + block) name ≡ true) ↔ IsDefinedBelow g name block (g.places block)
  pub through : (block name : ℕ) → block < g.blocks → has rows (g.blocks + block) name ≡ true → has rows (2 * g.blocks + block) name ≡ false → has rows block name ≡ true

-- what is known to be live into one block is known to be live out of the other
abbrev pub Flows : Graph → BitRows → ℕ → ℕ → Type 0
Flows g rows block next = (name : ℕ) → has rows next name ≡ true → has rows (g.blocks + block) name ≡ true

-- in a pass that has come down to `low`, `next` was looked at no earlier than `block`
abbrev pub IsLater : ℕ → ℕ → ℕ → Type 0
IsLater low block next =
    ((low ≤ block) × (low ≤ next) × (next ≤ block))
    ⊎ (((block < low) × (low ≤ next)) ⊎ ((block < low) × (next < low) × (next ≤ block)))

-- each edge from a block that `seen` says was visited is kept up, but where the successor grew
-- since
abbrev pub IsKeptUp : Graph → BitRows → List Bool → (ℕ → Type 0) → ℕ → Type 0
IsKeptUp g rows grew seen low =
    (block next : ℕ) → block < g.blocks → seen block → IsSuccessor g block next
    → Flows g rows block next ⊎ ((slice_index_or grew next false ≡ true) × IsLater low block next)

-- 1 where the test fails
abbrev pub lack : Bool → ℕ
lack true = 0
lack false = 1

-- how many numbers below n fail p
abbrev pub absent : (ℕ → Bool) → ℕ → ℕ
absent p zero = 0
absent p (suc n) = lack (p n) + absent p n

-- how many names of all blocks are not known to be live in
abbrev pub absent_in : (ℕ → ℕ → Bool) → ℕ → ℕ → ℕ
absent_in p zero names = 0
absent_in p (suc blocks) names = absent (p blocks) names + absent_in p blocks names

-- the search goes on from one state to another: nothing is lost, and where a name came to be
-- known, fewer are left
pub record Advances (g : Graph) (old new : BitRows) (grew : Bool) : Type 0 where
  pub least : absent_in (has new) g.blocks g.names ≤ absent_in (has old) g.blocks g.names
  pub fewer : grew ≡ true → absent_in (has new) g.blocks g.names < absent_in (has old) g.blocks g.names

-- the rows of a block's names in and definitions are empty
pub record IsBlank (g : Graph) (block : ℕ) (rows : BitRows) : Type 0 where
  pub used : (name : ℕ) → has rows block name ≡ false
  pub defined : (name : ℕ) → has rows (2 * g.blocks + block) name ≡ false

-- what goes into a block's successors came to be known to go out of the block, and nothing else did
pub record Joins (g : Graph) (blocks block : ℕ) (old new : BitRows) : Type 0 where
  pub others : (row : ℕ) → (row ≡ blocks + block → ⊥) → row_of new row ≡ row_of old row
  pub kept : (name : ℕ) → has old (blocks + block) name ≡ true → has new (blocks + block) name ≡ true
  pub joined : (next name : ℕ) → IsSuccessor g block next → has old next name ≡ true → has new (blocks + block) name ≡ true
  pub only : (name : ℕ) → has new (blocks + block) name ≡ true → (has old (blocks + block) name ≡ true) ⊎ ((next : ℕ) × IsSuccessor g block next × (has old next name ≡ true))

-- what goes out of a block and isn't defined in it came to be known to go in, and nothing else did
pub record Passes (blocks block : ℕ) (old new : BitRows) (grew : Bool) : Type 0 where
  pub others : (row : ℕ) → (row ≡ block → ⊥) → (row ≡ 3 * blocks → ⊥) → row_of new row ≡ row_of old row
  pub passed : (name : ℕ) → has new block name ≡ (has old block name || (has old (blocks + block) name && not (has old (2 * blocks + block) name)))
  pub work : (name : ℕ) → has new (3 * blocks) name ≡ true → has old (blocks + block) name ≡ true
  pub still : (grew ≡ false) ↔ (row_of new block ≡ row_of old block)
