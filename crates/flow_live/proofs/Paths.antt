-- Liveness step by step along a path.
use Rattle.std.proofs.Common.{◌≡◌, ℕ, zero, suc, ◌+◌, ◌-◌, ◌<◌, ◌⊎◌, inl, inr, List, [], ◌∷◌, arith, refl, subst}
use Rattle.flow_live.specs.Graph.{Graph, Place, Uses, Defines, length_of, Follows, IsPath, EndsInUse, LiveBefore, LiveIn, LiveOut}
use Rattle.flow_live.specs.Solving.{IsExposedBelow, IsDefinedBelow}

abbrev pub at_place : ℕ → ℕ → Place
at_place block place = record { block = block; place = place }

-- a use is live before its own place
pub live-use : (g : Graph) (name : ℕ) (at : Place) → Uses g name at → LiveBefore g name at
live-use g name at use_ = record { path = []; is_path = tt; ends = use_ }

-- live at the next place, and not defined here
pub live-next : (g : Graph) (name : ℕ) (at next : Place) → Follows g at next → (Defines g name at → ⊥) → LiveBefore g name next → LiveBefore g name at
live-next g name at next follows clear live = record { path = next ∷ live.path; is_path = (follows, live.is_path); ends = (clear, live.ends) }

-- the ways to be live
pub live_cases : (g : Graph) (name : ℕ) (at : Place) → LiveBefore g name at
    → Uses g name at ⊎ ((Defines g name at → ⊥) × ((next : Place) × Follows g at next × LiveBefore g name next))
live_cases g name at live = cases live.path live.is_path live.ends
  where
    cases : (path : List Place) → IsPath g at path → EndsInUse g name at path
        → Uses g name at ⊎ ((Defines g name at → ⊥) × ((next : Place) × Follows g at next × LiveBefore g name next))
    cases [] p e = inl e
    cases (next ∷ rest) p e = inr (e.0, (next, p.0, record { path = rest; is_path = p.1; ends = e.1 }))

-- one place down the block
pub live-down : (g : Graph) (name block place : ℕ) → place + 1 < length_of g block → (Defines g name (at_place block place) → ⊥)
    → LiveBefore g name (at_place block (place + 1)) → LiveBefore g name (at_place block place)
live-down g name block place h clear live = live-next g name (at_place block place) (at_place block (place + 1)) (inl (h, refl, refl)) clear live

-- from the last place into a successor
pub live-out : (g : Graph) (name block place : ℕ) → place + 1 ≡ length_of g block → (Defines g name (at_place block place) → ⊥)
    → LiveOut g name block → LiveBefore g name (at_place block place)
live-out g name block place h clear out =
    live-next g name (at_place block place) (at_place out.0 0) (inr (h, out.1, refl)) clear out.2

-- a use that no earlier place of the block defines is live into the block
pub live_exposed : (g : Graph) (name block : ℕ) → IsExposedBelow g name block (g.places block) → LiveIn g name block
live_exposed g name block exposed = down exposed.0 0 (omega arith)
  where
    down : (d place : ℕ) → d + place ≡ exposed.0 → LiveBefore g name (at_place block place)
    down zero place e =
        let same : exposed.0 ≡ place = omega arith in
        live-use g name (at_place block place) (subst (λ (p : ℕ). Uses g name (at_place block p)) same exposed.2)
    down (suc d) place e =
        live-down g name block place (omega arith) (exposed.3 place (omega arith)) (down d (place + 1) (omega arith))

-- a name that goes out of a block that doesn't define it goes in
pub live_through : (g : Graph) (name block : ℕ) → (IsDefinedBelow g name block (g.places block) → ⊥) → LiveOut g name block → LiveIn g name block
live_through g name block clear out = down (length_of g block - 1) 0 (omega arith)
  where
    clear_at : (place : ℕ) → Defines g name (at_place block place) → ⊥
    clear_at place d = clear (place, d.0, d)

    down : (d place : ℕ) → d + place + 1 ≡ length_of g block → LiveBefore g name (at_place block place)
    down zero place e = live-out g name block place (omega arith) (clear_at place) out
    down (suc d) place e = live-down g name block place (omega arith) (clear_at place) (down d (place + 1) (omega arith))
