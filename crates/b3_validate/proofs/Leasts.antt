-- The first of the spots at which something is broken.
use Rattle.std.proofs.Common.{◌⊎◌, inl, inr, Option, None, Some, sym, subst, arith}
use Rattle.b3_ir.specs.Procedure.{Procedure}
use Rattle.b3_rules.specs.Valid.{IsPartOf, Part}
use Rattle.b3_validate.specs.declared.spot.Spot.{Spot}
use Rattle.b3_validate.specs.Spots.{BreaksAt, IsBeforeSpot, IsLeast, IsLeastIn, IsNoLaterSpot, IsSooner, PartsKeep}

no_later_through : (a b c : Spot) → IsNoLaterSpot a b → IsNoLaterSpot b c → IsNoLaterSpot a c
no_later_through a b c x y =
    elim x [
      | inl less ↦ elim y [ inl more ↦ inl (omega arith) | inr same ↦ inl (omega arith) ]
      | inr same ↦ elim y [ inl more ↦ inl (omega arith) | inr also ↦ inr (omega arith, omega arith) ]
    ]

pub no_later : (a b : Spot) → IsBeforeSpot a b → IsNoLaterSpot a b
no_later a b x = elim x [ inl less ↦ inl less | inr same ↦ inr (same.0, omega (arith, same.1)) ]

-- ---- two judgements joined

module _ (K L : Type 0) (F G : Spot → Type 0) where
  abbrev Both : Spot → Type 0
  Both s = F s ⊎ G s

  pub join : (a b r : Option Spot) → IsLeast K F a → IsLeast L G b → IsSooner a b r → IsLeast (K × L) (λ s. F s ⊎ G s) r
  join None None r x y e = subst (IsLeast (K × L) Both) (sym e) ((x.0, y.0), λ s broken. elim broken [ inl f ↦ x.1 s f | inr g ↦ y.1 s g ])
  join None (Some b) r x y e =
      subst (IsLeast (K × L) Both) (sym e) (inr y.0, λ s broken. elim broken [ inl f ↦ absurd (x.1 s f) | inr g ↦ y.1 s g ])
  join (Some a) None r x y e =
      subst (IsLeast (K × L) Both) (sym e) (inl x.0, λ s broken. elim broken [ inl f ↦ x.1 s f | inr g ↦ absurd (y.1 s g) ])
  join (Some a) (Some b) r x y e =
      elim e [
        | inl first ↦ subst (IsLeast (K × L) Both) (sym first.0) (inl x.0, λ s broken. elim broken [ inl f ↦ x.1 s f | inr g ↦ no_later_through a b s first.1 (y.1 s g) ])
        | inr second ↦ subst (IsLeast (K × L) Both) (sym second.0) (inr y.0, λ s broken. elim broken [ inl f ↦ no_later_through b a s (no_later b a second.1) (x.1 s f) | inr g ↦ y.1 s g ])
      ]

  -- the same judgement in other words
  pub reworded : (r : Option Spot) → (K → L) → ((s : Spot) → F s → G s) → ((s : Spot) → G s → F s) → IsLeast K F r → IsLeast L G r
  reworded None keep to from x = (keep x.0, λ s g. x.1 s (from s g))
  reworded (Some a) keep to from x = (to a x.0, λ s g. x.1 s (from s g))

-- ---- parts of a procedure

-- a part that breaks a rule, as one of other parts
seen_as : (p : Procedure) (seen all : Part → Type 0) (s : Spot) (b : BreaksAt p seen s) → all b.part → BreaksAt p all s
seen_as p seen all s b is = record { part = b.part; is_part = b.is_part; is_seen = is; on_line = b.on_line; other_rule = b.other_rule; breaks = b.breaks }

module _ (p : Procedure) (seen more all : Part → Type 0) where
  -- more parts are seen
  pub join_parts : (a b r : Option Spot) → IsLeastIn p seen a → IsLeastIn p more b → IsSooner a b r
      → ((part : Part) → IsPartOf p part → all part → seen part ⊎ more part)
      → ((part : Part) → IsPartOf p part → seen part → all part)
      → ((part : Part) → IsPartOf p part → more part → all part)
      → IsLeastIn p all r
  join_parts a b r x y e split first second =
      reworded (PartsKeep p seen × PartsKeep p more) (PartsKeep p all) (λ s. BreaksAt p seen s ⊎ BreaksAt p more s) (BreaksAt p all) r
      (λ keep q part no_use is_part is. elim (split part is_part is) [ inl s ↦ keep.0 q part no_use is_part s | inr m ↦ keep.1 q part no_use is_part m ])
      (λ s broken. elim broken [ inl b ↦ seen_as p seen all s b (first b.part b.is_part b.is_seen) | inr b ↦ seen_as p more all s b (second b.part b.is_part b.is_seen) ])
      (λ s b. elim (split b.part b.is_part b.is_seen) [ inl i ↦ inl (seen_as p all seen s b i) | inr m ↦ inr (seen_as p all more s b m) ])
      (join (PartsKeep p seen) (PartsKeep p more) (BreaksAt p seen) (BreaksAt p more) a b r x y e)
