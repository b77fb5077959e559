-- Values that fit stay so where lists change.
use Rattle.std.proofs.Common.{◌≡◌, ℕ, zero, suc, List, [], ◌∷◌, ◌++◌, Some, length, set, insert, remove, inl, inr, subst, slice_get, slice_index_or}
use Rattle.std.specs.Prelude.{All}
use Rattle.std.specs.List.{AllByRecursion}
use Rattle.std.proofs.lemmas.List.{get_or_past}
use Rattle.std.proofs.lemmas.List.Elements.{All-append, All-cons, All-get_or, All-nil, All-set, All-from_recursion, recursion_from_All}
use Rattle.std.proofs.lemmas.Option.{slice_get_within, get_or_from_slice_get}
use Rattle.std.proofs.lemmas.Bool.{cases_lt}
use Rattle.b3_ir.specs.declared.value.Value.{Value}
use Rattle.b3_ir.specs.Fits.{Fits}
use Rattle.b3_ir.specs.Procedure.{AllFit, Block, no_block}

-- every item, one item more or less
all_inserted : {X : Type 0} (P : X → Type 0) (xs : List X) (i : ℕ) (x : X) → P x → AllByRecursion P xs → AllByRecursion P (insert xs i x)
all_inserted P [] zero x p h = (p, tt)
all_inserted P [] (suc i) x p h = (p, tt)
all_inserted P (y ∷ xs) zero x p h = (p, h)
all_inserted P (y ∷ xs) (suc i) x p h = (h.0, all_inserted P xs i x p h.1)

pub All-insert : {X : Type 0} (P : X → Type 0) (xs : List X) (i : ℕ) (x : X) → P x → All P xs → All P (insert xs i x)
All-insert P xs i x p h = All-from_recursion P (insert xs i x) (all_inserted P xs i x p (recursion_from_All P xs h))

all_removed : {X : Type 0} (P : X → Type 0) (xs : List X) (i : ℕ) → AllByRecursion P xs → AllByRecursion P (remove xs i)
all_removed P [] zero h = h
all_removed P [] (suc i) h = h
all_removed P (y ∷ xs) zero h = h.1
all_removed P (y ∷ xs) (suc i) h = (h.0, all_removed P xs i h.1)

pub All-remove : {X : Type 0} (P : X → Type 0) (xs : List X) (i : ℕ) → All P xs → All P (remove xs i)
All-remove P xs i h = All-from_recursion P (remove xs i) (all_removed P xs i (recursion_from_All P xs h))

-- one item more at the end
pub All-push : {X : Type 0} (P : X → Type 0) (xs : List X) (x : X) → P x → All P xs → All P (xs ++ x ∷ [])
All-push P xs x p h = All-append P xs (x ∷ []) h (All-cons P x [] p (All-nil P))

-- the values of a block fit
pub fit_of : (bs : List Block) (block : ℕ) → AllFit bs → All Fits (slice_index_or bs block no_block).values
fit_of bs block h =
    elim (cases_lt block (length bs)) [
      | inl lt ↦ All-get_or (λ (b : Block). All Fits b.values) bs block no_block lt h
      | inr past ↦ rw (get_or_past bs block no_block past) (All-nil Fits)
    ]

-- and so does each of them
pub fit_at : (bs : List Block) (block place : ℕ) (v : Value) → AllFit bs → slice_get (slice_index_or bs block no_block).values place ≡ Some v → Fits v
fit_at bs block place v h at =
    let values = (slice_index_or bs block no_block).values in
    let is = get_or_from_slice_get (slice_index_or bs block no_block).values place v v at in
    subst Fits is (All-get_or Fits (slice_index_or bs block no_block).values place v (slice_get_within (slice_index_or bs block no_block).values place v at) (fit_of bs block h))

-- a block with other values that fit
pub fit_put : (bs : List Block) (block : ℕ) (values : List Value) → AllFit bs → All Fits values → AllFit (set bs block (record (slice_index_or bs block no_block) { values = values }))
fit_put bs block values h fits = All-set (λ (b : Block). All Fits b.values) bs block (record (slice_index_or bs block no_block) { values = values }) fits h
