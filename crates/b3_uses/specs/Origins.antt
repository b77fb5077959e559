-- No public clause cites this module. Blocks that every path to a block passes.
use Rattle.std.specs.Prelude.{◌≡◌, ◌≢◌, ℕ, ◌⊎◌, List, [], length, replicate, nat_eq, Some, Contains}
use Rattle.indexmap.specs.IndexMap as map
use Rattle.b3_ir.specs.Procedure.{Procedure, values_of}
use Rattle.b3_rules.specs.Paths.{IsPath, IsSuccessor}
use Rattle.b3_uses.specs.Lists.{AddsTo}
use Rattle.b3_uses.specs.Reversed.{HasDefinition, LedBelow}
use Rattle.b3_uses.specs.declared.origins.Origins.{Origins}

-- one of some blocks defines an id
abbrev pub PassedDefinition : Procedure → List ℕ → ℕ → Type 0
PassedDefinition p passed id = (c : ℕ) × Contains passed c × HasDefinition (values_of p c) id

-- each path to a block passes one that defines the id
abbrev pub IsPassed : Procedure → ℕ → ℕ → Type 0
IsPassed p block id = (passed : List ℕ) → IsPath p passed block → PassedDefinition p passed id

-- a block is the only one that leads to another, where no path begins
abbrev pub IsOnlySource : Procedure → ℕ → ℕ → Type 0
IsOnlySource p block source = (block ≢ 0) × ((c : ℕ) → IsSuccessor p c block → c ≡ source)

-- the home of an id defines it
abbrev pub AreHomes : {S : Type 0} → Procedure → map.IndexMap ℕ ℕ S → Type 0
AreHomes p homes = (id home : ℕ) → map.get nat_eq homes id ≡ Some home → HasDefinition (values_of p home) id

-- one more id has a home
abbrev pub AddsHome : {S : Type 0} → map.IndexMap ℕ ℕ S → map.IndexMap ℕ ℕ S → ℕ → ℕ → Type 0
AddsHome old new id home =
    (i h : ℕ) → map.get nat_eq new i ≡ Some h → (map.get nat_eq old i ≡ Some h) ⊎ ((i ≡ id) × (h ≡ home))

-- what leads to each block from the blocks below one, and homes of ids
pub record AreOriginsBelow (p : Procedure) (end : ℕ) (origins : Origins) : Type 0 where
  pub sources : AddsTo (replicate (length p.blocks) []) origins.sources (LedBelow p end)
  pub homes : AreHomes p origins.homes

abbrev pub AreOrigins : Procedure → Origins → Type 0
AreOrigins p origins = AreOriginsBelow p (length p.blocks) origins
