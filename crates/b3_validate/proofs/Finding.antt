-- The first value of a procedure that passes a test, by its place and in the list of all values.
use Rattle.std.proofs.Common.{◌≡◌, ℕ, zero, suc, ◌<◌, inl, inr, Bool, true, false, List, [], ◌∷◌, ◌++◌, Option, None, Some, refl, ap, ◌∙◌, arith}
use Rattle.std.specs.Prelude.{if◌then◌else◌, nat_eq, slice_get, slice_index_or}
use Rattle.std.specs.List.{flat_map}
use Rattle.b3_ir.specs.Naming.{all_values, value_named, with_id}
use Rattle.b3_ir.specs.Procedure.{Block, Procedure, no_block}
use Rattle.b3_ir.specs.declared.opcode.Opcode.{Opcode}
use Rattle.b3_ir.specs.declared.opcode.Opcode.TheVariants.{Return}
use Rattle.b3_ir.specs.declared.value.Value.{Value}
use Rattle.b3_rules.specs.Rules.{IsEarlier, first_return, if_return}
use Rattle.b3_validate.specs.Index.{IsFirstBy, NonePasses, has_id, is_return, returns}

-- the first of some values that passes
abbrev pub first_by : (Value → Bool) → List Value → Option Value
first_by test [] = None
first_by test (v ∷ vs) = if test v then Some v else first_by test vs

-- ---- in one list after another

skipped : (test : Value → Bool) (xs ys : List Value) → ((m : ℕ) (w : Value) → slice_get xs m ≡ Some w → test w ≡ false) → first_by test (xs ++ ys) ≡ first_by test ys
skipped test [] ys fail = refl
skipped test (x ∷ xs) ys fail = rw (fail 0 x refl) (skipped test xs ys (λ m w e. fail (suc m) w e))

found : (test : Value → Bool) (xs ys : List Value) (j : ℕ) (v : Value) → slice_get xs j ≡ Some v → test v ≡ true → ((m : ℕ) (w : Value) → m < j → slice_get xs m ≡ Some w → test w ≡ false) → first_by test (xs ++ ys) ≡ Some v
found test [] ys j v e pass fail = absurd cc
found test (x ∷ xs) ys zero v e pass fail = let same : x ≡ v = cc in rw (same, pass) refl
found test (x ∷ xs) ys (suc j) v e pass fail = rw (fail 0 x (omega arith) refl) (found test xs ys j v e pass (λ m w less there. fail (suc m) w (omega arith) there))

abbrev IsIn : List Block → ℕ → ℕ → Value → Type 0
IsIn blocks b j v = slice_get (slice_index_or blocks b no_block).values j ≡ Some v

found_in : (test : Value → Bool) (blocks : List Block) (b j : ℕ) (v : Value) → IsIn blocks b j v → test v ≡ true → ((c m : ℕ) (w : Value) → IsIn blocks c m w → IsEarlier c m b j → test w ≡ false)
    → first_by test (flat_map (λ (x : Block). x.values) blocks) ≡ Some v
found_in test [] b j v there pass fail = absurd cc
found_in test (x ∷ blocks) zero j v there pass fail =
    found test x.values (flat_map (λ (y : Block). y.values) blocks) j v there pass (λ m w less e. fail 0 m w e (inr (refl, less)))
found_in test (x ∷ blocks) (suc b) j v there pass fail =
    skipped test x.values (flat_map (λ (y : Block). y.values) blocks) (λ m w e. fail 0 m w e (inl (omega arith)))
    ∙ found_in test blocks b j v there pass (λ c m w e earlier. fail (suc c) m w e (later earlier))
  where
    later : {c m : ℕ} → IsEarlier c m b j → IsEarlier (suc c) m (suc b) j
    later earlier = elim earlier [ inl less ↦ inl (omega arith) | inr same ↦ inr (ap suc same.0, same.1) ]

none_in : (test : Value → Bool) (blocks : List Block) → ((c m : ℕ) (w : Value) → IsIn blocks c m w → test w ≡ false) → first_by test (flat_map (λ (x : Block). x.values) blocks) ≡ None
none_in test [] fail = refl
none_in test (x ∷ blocks) fail =
    skipped test x.values (flat_map (λ (y : Block). y.values) blocks) (λ m w e. fail 0 m w e)
    ∙ none_in test blocks (λ c m w e. fail (suc c) m w e)

-- ---- in a procedure

pub found_first : (p : Procedure) (test : Value → Bool) (b j : ℕ) (v : Value) → IsFirstBy p test b j v → first_by test (all_values p) ≡ Some v
found_first p test b j v first = found_in test p.blocks b j v first.there first.passes first.first

pub found_none : (p : Procedure) (test : Value → Bool) → NonePasses p test → first_by test (all_values p) ≡ None
found_none p test none = none_in test p.blocks none

-- ---- ids

by_id : (id : ℕ) (vs : List Value) → with_id id vs ≡ first_by (has_id id) vs
by_id id [] = refl
by_id id (v ∷ vs) = ap (λ (o : Option Value). if nat_eq v.id id then Some v else o) (by_id id vs)

pub named_first : (p : Procedure) (id b j : ℕ) (v : Value) → IsFirstBy p (has_id id) b j v → value_named p id ≡ Some v
named_first p id b j v first = by_id id (all_values p) ∙ found_first p (has_id id) b j v first

pub named_none : (p : Procedure) (id : ℕ) → NonePasses p (has_id id) → value_named p id ≡ None
named_none p id none = by_id id (all_values p) ∙ found_none p (has_id id) none

-- ---- the first Return

if_is_return : (opcode : Opcode) (v : Value) (rest : Option Value) → if_return opcode v rest ≡ (if is_return opcode then Some v else rest)
if_is_return Return v rest = refl
if_is_return _ v rest = refl

by_return : (vs : List Value) → first_return vs ≡ first_by returns vs
by_return [] = refl
by_return (v ∷ vs) = if_is_return v.kind.opcode v (first_return vs) ∙ ap (λ (o : Option Value). if is_return v.kind.opcode then Some v else o) (by_return vs)

pub returned_first : (p : Procedure) (b j : ℕ) (v : Value) → IsFirstBy p returns b j v → first_return (all_values p) ≡ Some v
returned_first p b j v first = by_return (all_values p) ∙ found_first p returns b j v first

pub returned_none : (p : Procedure) → NonePasses p returns → first_return (all_values p) ≡ None
returned_none p none = by_return (all_values p) ∙ found_none p returns none
