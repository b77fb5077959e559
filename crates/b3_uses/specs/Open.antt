-- No public clause cites this module. Uses that no value earlier in their block defines, and names of ids.
use Rattle.std.specs.Prelude.{◌≡◌, ℕ, ◌<◌, ◌⊎◌, ◌==◌, ◌||◌, Bool, false, List, [], ◌∷◌, ◌++◌, Option, Some, Contains}
use Rattle.std.specs.BTreeMap as tree
use Rattle.std.specs.Ordering.{nat_cmp}
use Rattle.b3_ir.specs.Procedure.{Procedure, values_of}
use Rattle.b3_ir.specs.declared.value.Value.{Value}
use Rattle.b3_uses.specs.Origins.{IsPassed}
use Rattle.b3_uses.specs.Reversed.{HasDefinition}
use Rattle.b3_uses.specs.declared.gather.OpenUse.{OpenUse}
use Rattle.b3_uses.specs.declared.gather.OpenUses.{OpenUses}

-- the name of an id
abbrev pub names_in : OpenUses → ℕ → Option ℕ
names_in found id = tree.get nat_cmp found.names.numbers id

-- a use of an id in a block on a line, by the id's name
pub record IsUse (names : ℕ → Option ℕ) (block line id : ℕ) (use_ : OpenUse) : Type 0 where
  pub block_is : use_.block ≡ block
  pub line_is : use_.line ≡ line
  pub name_is : names id ≡ Some use_.name

-- uses are added: those that a relation of block, line and id asks for, but for some that each path to the
-- block covers, and no others
pub record Adds (p : Procedure) (old new : OpenUses) (asked : ℕ → ℕ → ℕ → Type 0) : Type 0 where
  pub names : (id name : ℕ) → names_in old id ≡ Some name → names_in new id ≡ Some name
  pub kept : (use_ : OpenUse) → Contains old.uses use_ → Contains new.uses use_
  pub added : (block line id : ℕ) → asked block line id
      → IsPassed p block id ⊎ ((use_ : OpenUse) × Contains new.uses use_ × IsUse (names_in new) block line id use_)
  pub only : (use_ : OpenUse) → Contains new.uses use_
      → Contains old.uses use_
      ⊎ ((block line id : ℕ) × asked block line id × IsUse (names_in new) block line id use_)

-- one use
abbrev pub IsOneUse : ℕ → ℕ → ℕ → ℕ → ℕ → ℕ → Type 0
IsOneUse block line id b l i = (b ≡ block) × (l ≡ line) × (i ≡ id)

-- a use of one of some children that aren't defined earlier
abbrev pub IsAskedHere : ℕ → ℕ → (ℕ → Bool) → List ℕ → ℕ → ℕ → ℕ → Type 0
IsAskedHere block line earlier children b l i =
    (b ≡ block) × (l ≡ line) × Contains children i × (earlier i ≡ false)

-- a use by one of some values that no value before it defines
pub record IsAsked (values : List Value) (line id : ℕ) : Type 0 where
  pub before : List Value
  pub value : Value
  pub rest : List Value
  pub split : values ≡ before ++ value ∷ rest
  pub line_is : value.line ≡ line
  pub child : Contains value.children id
  pub undefined : HasDefinition before id → ⊥

abbrev pub IsOpenIn : ℕ → List Value → ℕ → ℕ → ℕ → Type 0
IsOpenIn block values b l i = (b ≡ block) × IsAsked values l i

-- the uses are open uses of the blocks below one, all but some that each path to the block covers
pub record ListsBelow (p : Procedure) (end : ℕ) (found : OpenUses) : Type 0 where
  pub all : (block line id : ℕ) → block < end → IsAsked (values_of p block) line id
      → IsPassed p block id
      ⊎ ((use_ : OpenUse) × Contains found.uses use_ × IsUse (names_in found) block line id use_)
  pub only : (use_ : OpenUse) → Contains found.uses use_
      → (use_.block < end) × ((id : ℕ) × IsAsked (values_of p use_.block) use_.line id
      × IsUse (names_in found) use_.block use_.line id use_)

-- one of some values has the id
abbrev pub has_id : List Value → ℕ → Bool
has_id [] id = false
has_id (v ∷ vs) id = (v.id == id) || has_id vs id
