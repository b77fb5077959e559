-- A flow graph of blocks, each a row of places that touch names, and liveness by paths.
use Rattle.std.specs.Prelude.{◌≡◌, ℕ, ◌+◌, ◌<◌, ◌⊎◌, List, [], ◌∷◌, max}
use Rattle.flow_live.specs.declared.touch.Touch.{Touch}
use Rattle.flow_live.specs.declared.touch.Touch.TheVariants.{Use, LateUse, Def}

-- what a flow shows: how many blocks and names, and for each block its places, with their
-- touches, and its successors
pub record Graph : Type 0 where
  pub blocks : ℕ
  pub names : ℕ
  pub places : ℕ → ℕ
  pub successors : ℕ → ℕ
  pub successor : ℕ → ℕ → ℕ
  pub touches : ℕ → ℕ → ℕ
  pub touch : ℕ → ℕ → ℕ → Touch

-- the name that a touch is of
abbrev pub name_of : Touch → ℕ
name_of (Use name) = name
name_of (LateUse name) = name
name_of (Def name) = name

-- each successor is a block, and each touched name is one of the names
pub record IsInRange (g : Graph) : Type 0 where
  pub successor : (block k : ℕ) → block < g.blocks → k < g.successors block → g.successor block k < g.blocks
  pub name : (block place k : ℕ) → block < g.blocks → place < g.places block → k < g.touches block place → name_of (g.touch block place k) < g.names

-- a place of a block, both counted from 0
pub record Place : Type 0 where
  pub block : ℕ
  pub place : ℕ

-- a touch uses the name, at once or late
abbrev pub IsUseOf : Touch → ℕ → Type 0
IsUseOf touch name = (touch ≡ Use name) ⊎ (touch ≡ LateUse name)

-- a touch defines the name
abbrev pub IsDefOf : Touch → ℕ → Type 0
IsDefOf touch name = touch ≡ Def name

-- one of the first touches of a place is of this kind
abbrev pub HasTouchBelow : Graph → (Touch → Type 0) → ℕ → ℕ → ℕ → Type 0
HasTouchBelow g is block place end = (k : ℕ) × (k < end) × is (g.touch block place k)

-- some touch of a place is of this kind
abbrev pub HasTouch : Graph → (Touch → Type 0) → Place → Type 0
HasTouch g is at = (at.place < g.places at.block) × HasTouchBelow g is at.block at.place (g.touches at.block at.place)

-- the place uses the name
abbrev pub Uses : Graph → ℕ → Place → Type 0
Uses g name at = HasTouch g (λ touch. IsUseOf touch name) at

-- the place defines the name
abbrev pub Defines : Graph → ℕ → Place → Type 0
Defines g name at = HasTouch g (λ touch. IsDefOf touch name) at

-- how many places a block counts as: one without places counts as a place that touches nothing
abbrev pub length_of : Graph → ℕ → ℕ
length_of g block = max 1 (g.places block)

-- one block is a successor of another
abbrev pub IsSuccessor : Graph → ℕ → ℕ → Type 0
IsSuccessor g block next = (k : ℕ) × (k < g.successors block) × (g.successor block k ≡ next)

-- control can go from one place straight to the next: down the block, or from its last place to
-- the first of a successor
abbrev pub Follows : Graph → Place → Place → Type 0
Follows g from to =
    ((from.place + 1 < length_of g from.block) × (to.block ≡ from.block) × (to.place ≡ from.place + 1))
    ⊎ ((from.place + 1 ≡ length_of g from.block) × IsSuccessor g from.block to.block × (to.place ≡ 0))

-- a path from a place: each place on it follows the one before
abbrev pub IsPath : Graph → Place → List Place → Type 0
IsPath g at [] = Unit {0}
IsPath g at (next ∷ rest) = Follows g at next × IsPath g next rest

-- the last place of a path uses the name, and none before it defines it
abbrev pub EndsInUse : Graph → ℕ → Place → List Place → Type 0
EndsInUse g name at [] = Uses g name at
EndsInUse g name at (next ∷ rest) = (Defines g name at → ⊥) × EndsInUse g name next rest

-- some path from the place reaches a use of the name that no place before it defines
pub record LiveBefore (g : Graph) (name : ℕ) (at : Place) : Type 0 where
  pub path : List Place
  pub is_path : IsPath g at path
  pub ends : EndsInUse g name at path

-- live before the first place of the block
abbrev pub LiveIn : Graph → ℕ → ℕ → Type 0
LiveIn g name block = LiveBefore g name (record { block = block; place = 0 })

-- live into a successor of the block
abbrev pub LiveOut : Graph → ℕ → ℕ → Type 0
LiveOut g name block = (next : ℕ) × IsSuccessor g block next × LiveIn g name next
