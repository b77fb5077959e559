-- The walk over the values of a block, one after the other, and what is made of them on the way.
use Rattle.std.proofs.Common.{◌≡◌, ℕ, zero, suc, ◌+◌, ◌<◌, List, [], ◌∷◌, length, drop, Option, Some, refl, sym, ap, ◌∙◌, subst, arith}
use Rattle.std.specs.Prelude.{slice_get, IfSome}
use Rattle.b3_ir.specs.Procedure.{IsIn, Kept, StandsAt, values_from, values_of}
use Rattle.b3_ir.specs.declared.value.Value.{Value}

-- ---- values

-- the values from a place on
get_dropped : (vs : List Value) (k : ℕ) (v : Value) → slice_get (drop k vs) 0 ≡ Some v → slice_get vs k ≡ Some v
get_dropped vs zero v e = e
get_dropped [] (suc k) v e = cc
get_dropped (w ∷ vs) (suc k) v e = get_dropped vs k v e

drop_next : (vs : List Value) (k : ℕ) → drop 1 (drop k vs) ≡ drop (k + 1) vs
drop_next [] zero = refl
drop_next [] (suc k) = let more : suc (k + 1) ≡ suc k + 1 = omega arith in ap (λ i. drop {A = Value} i []) more
drop_next (w ∷ vs) zero = refl
drop_next (w ∷ vs) (suc k) =
    let more : suc (k + 1) ≡ suc k + 1 = omega arith in drop_next vs k ∙ ap (λ i. drop i (w ∷ vs)) more

from_head : (vs : List Value) (v : Value) → slice_get vs 0 ≡ Some v → vs ≡ v ∷ drop 1 vs
from_head [] v e = cc
from_head (w ∷ vs) v e = let same : w ≡ v = cc in ap (λ x. x ∷ vs) same

-- the values from a node on: its own, and those from the next
pub values_next : (p : Kept) (block node : ℕ) (v : Value) (next : Option ℕ) → slice_get (values_from p block (Some node)) 0 ≡ Some v
    → values_from p block next ≡ drop 1 (values_from p block (Some node)) → values_from p block (Some node) ≡ v ∷ values_from p block next
values_next p block node v next e rest =
    from_head (values_from p block (Some node)) v e ∙ ap (λ (vs : List Value). v ∷ vs) (sym rest)

-- ---- the walk

-- the walk has come to this node of a block, or past the last: what is made so far, with what the values that are left
-- make, is the whole
pub record IsWalked {X : Type 0} (p : Kept) (block : ℕ) (with_rest : List Value → X) (whole : X) (at : Option ℕ) : Type 0 where
  pub there : IfSome at (λ node. IsIn p node block)
  pub place : ℕ
  pub rest : values_from p block at ≡ drop place (values_of p.procedure block)
  pub count : place + length (values_from p block at) ≡ length (values_of p.procedure block)
  pub makes : with_rest (values_from p block at) ≡ whole

-- the first node
pub walk_first : {X : Type 0} (p : Kept) (block : ℕ) (at : Option ℕ) (with_rest : List Value → X)
    → values_from p block at ≡ values_of p.procedure block → IfSome at (λ node. IsIn p node block)
    → IsWalked p block with_rest (with_rest (values_of p.procedure block)) at
walk_first p block at with_rest rest there = record {
  there = there;
  place = 0;
  rest = rest;
  count = omega (arith, ap (λ (vs : List Value). length vs) rest);
  makes = ap with_rest rest;
}

-- the next node
pub walk_next : {X : Type 0} (p : Kept) (block node : ℕ) (v : Value) (next : Option ℕ) (with_rest with_less : List Value → X) (whole : X)
    → IsWalked p block with_rest whole (Some node) → slice_get (values_from p block (Some node)) 0 ≡ Some v
    → ((vs : List Value) → with_less vs ≡ with_rest (v ∷ vs))
    → values_from p block next ≡ drop 1 (values_from p block (Some node)) → IfSome next (λ n. IsIn p n block)
    → IsWalked p block with_less whole next
walk_next p block node v next with_rest with_less whole walk e makes rest there =
    let step : values_from p block (Some node) ≡ v ∷ values_from p block next = values_next p block node v next e rest in
    let long : length (values_from p block (Some node)) ≡ suc (length (values_from p block next)) = ap (λ (vs : List Value). length vs) step in
    record {
      there = there;
      place = walk.place + 1;
      rest = rest ∙ ap (drop 1) walk.rest ∙ drop_next (values_of p.procedure block) walk.place;
      count = omega (arith, walk.count, long);
      makes = makes (values_from p block next) ∙ ap with_rest (sym step) ∙ walk.makes;
    }

-- the value of a node stands at its place
pub walk_stands : {X : Type 0} (p : Kept) (block node : ℕ) (v : Value) (with_rest : List Value → X) (whole : X)
    (walk : IsWalked p block with_rest whole (Some node))
    → slice_get (values_from p block (Some node)) 0 ≡ Some v → StandsAt p.procedure block walk.place v
walk_stands p block node v with_rest whole walk e =
    get_dropped (values_of p.procedure block) walk.place v (subst (λ (vs : List Value). slice_get vs 0 ≡ Some v) walk.rest e)

-- fewer values are left
pub walk_smaller : (p : Kept) (block node : ℕ) (v : Value) (next : Option ℕ) → slice_get (values_from p block (Some node)) 0 ≡ Some v
    → values_from p block next ≡ drop 1 (values_from p block (Some node)) → length (values_from p block next) < length (values_from p block (Some node))
walk_smaller p block node v next e rest =
    let long = ap (λ (vs : List Value). length vs) (values_next p block node v next e rest) in omega arith

-- the value of a node, and those that are left behind it
pub walk_here : {X : Type 0} (p : Kept) (block node : ℕ) (v : Value) (with_rest : List Value → X) (whole : X) → IsWalked p block with_rest whole (Some node)
    → slice_get (values_from p block (Some node)) 0 ≡ Some v → with_rest (v ∷ drop 1 (values_from p block (Some node))) ≡ whole
walk_here p block node v with_rest whole walk e = ap with_rest (sym (from_head (values_from p block (Some node)) v e)) ∙ walk.makes
