-- The first breach of some procedures of a module. No public clause cites this module.
use Rattle.std.specs.Prelude.{◌≡◌, ◌≢◌, ℕ, ◌<◌, ◌⊎◌, ◌↔◌, bytes_eq, Bool, IsTrue, List, Option, Some, None, slice_get}
use denote.Ref.{Bor}
use Rattle.indexmap.specs.IndexSet as set
use Rattle.b3_ir.specs.Procedure.{Procedure}
use Rattle.b3_rules.specs.Breaches.{Breach, IsBreach, IsNoLater}
use Rattle.b3_rules.specs.Rules.{HasNewName}
use Rattle.b3_rules.specs.Valid.{IsPartOf, Keeps, Part}
use Rattle.b3_rules.specs.declared.rule.Rule.{Rule}
use Rattle.b3_rules.specs.declared.rule.Rule.TheVariants as rule
use Rattle.b3_validate.specs.declared.found.Found.{Found}
use Rattle.b3_validate.specs.declared.spot.Spot.{Spot}
use Rattle.b3_validate.specs.Spots.{IsBeforeSpot, IsNoLaterSpot}

abbrev pub IsOther : Rule → Type 0
IsOther r = r ≢ rule.Uses

abbrev pub IsUses : Rule → Type 0
IsUses r = r ≡ rule.Uses

-- a procedure keeps some of the rules
abbrev pub KeepsSome : (Rule → Type 0) → List Procedure → ℕ → Procedure → Type 0
KeepsSome some ps k p =
    (r : Rule) → some r → (r ≡ rule.Names → HasNewName ps k p) × ((part : Part) → IsPartOf p part → Keeps r p part)

-- so do all before a place
abbrev pub KeepBelow : (Rule → Type 0) → List Procedure → ℕ → Type 0
KeepBelow some ps n = (k : ℕ) (p : Procedure) → slice_get ps k ≡ Some p → k < n → KeepsSome some ps k p

abbrev pub breach_at : ℕ → Spot → Breach
breach_at k spot = record { rule = spot.rule; procedure = k; line = spot.line }

abbrev pub breach_of : Found → Breach
breach_of found = breach_at found.procedure found.spot

-- the spot of the first breach of some of the rules in one procedure
abbrev pub IsFirstAt : (Rule → Type 0) → List Procedure → ℕ → Procedure → Option Spot → Type 0
IsFirstAt some ps k p None = KeepsSome some ps k p
IsFirstAt some ps k p (Some spot) =
    some spot.rule × IsBreach ps (breach_at k spot)
    × ((other : Breach) → some other.rule → IsBreach ps other → other.procedure ≡ k
    → IsNoLaterSpot spot (record { line = other.line; rule = other.rule }))

-- the first breach of some of the rules in the procedures before a place
abbrev pub IsFirstBelow : (Rule → Type 0) → List Procedure → ℕ → Option Found → Type 0
IsFirstBelow some ps n None = KeepBelow some ps n
IsFirstBelow some ps n (Some found) =
    some found.spot.rule × (found.procedure < n) × IsBreach ps (breach_of found)
    × ((other : Breach) → some other.rule → IsBreach ps other → other.procedure < n → IsNoLater (breach_of found) other)

-- of what was found and a spot of a later procedure, what was found where it comes no later, and else the spot
abbrev pub IsEarlierOf : Option Found → Option Spot → ℕ → Option Found → Type 0
IsEarlierOf found None k r = r ≡ found
IsEarlierOf None (Some spot) k r = r ≡ Some (record { spot = spot; procedure = k })
IsEarlierOf (Some found) (Some spot) k r =
    ((r ≡ Some found) × IsNoLaterSpot found.spot spot)
    ⊎ ((r ≡ Some (record { spot = spot; procedure = k })) × IsBeforeSpot spot found.spot)

-- ---- names

abbrev pub same_bytes : Bor (List ℕ) → Bor (List ℕ) → Bool
same_bytes a b = bytes_eq a.now b.now

-- a set has the names of the procedures before a place
abbrev pub AreNames : {S : Type 0} → List Procedure → ℕ → set.IndexSet (Bor (List ℕ)) S → Type 0
AreNames ps n names =
    (q : Bor (List ℕ)) → IsTrue (set.contains same_bytes names q)
    ↔ ((k : ℕ) × (p : Procedure) × (slice_get ps k ≡ Some p) × (k < n) × (p.name ≡ q.now))
