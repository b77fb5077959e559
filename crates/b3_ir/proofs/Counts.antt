-- How many values a procedure has after a change of one block.
use Rattle.std.proofs.Common.{◌≡◌, ℕ, ◌+◌, ◌<◌, List, [], ◌∷◌, ◌++◌, length, set, insert, remove, slice_index_or, arith, length-append}
use Rattle.std.proofs.lemmas.List.{length-set}
use Rattle.std.proofs.lemmas.List.Edits.{length-insert, length-remove}
use Rattle.std.proofs.lemmas.List.Sums.{sum_by-set}
use Rattle.b3_ir.specs.declared.value.Value.{Value}
use Rattle.b3_ir.specs.Procedure.{Block, Procedure, no_block, total, values_of, with_values}

module _ (p : Procedure) (block : ℕ) (within : block < length p.blocks) where
  total_put : (values : List Value) → total (with_values p block values) + length (values_of p block) ≡ total p + length values
  total_put values = sum_by-set (λ (s : Block). length s.values) p.blocks block (record (slice_index_or p.blocks block no_block) { values = values }) no_block within

  pub total_push : (v : Value) → total (with_values p block (values_of p block ++ v ∷ [])) ≡ total p + 1
  total_push v = omega (arith, total_put (values_of p block ++ v ∷ []), length-append (values_of p block) (v ∷ []))

  module _ (place : ℕ) (there : place < length (values_of p block)) where
    pub total_insert : (v : Value) → total (with_values p block (insert (values_of p block) place v)) ≡ total p + 1
    total_insert v = omega (arith, there, total_put (insert (values_of p block) place v), length-insert (values_of p block) place v (omega arith))

    pub total_remove : total (with_values p block (remove (values_of p block) place)) + 1 ≡ total p
    total_remove = omega (arith, total_put (remove (values_of p block) place), length-remove (values_of p block) place there)

  pub total_replace : (place : ℕ) (v : Value) → total (with_values p block (set (values_of p block) place v)) ≡ total p
  total_replace place v = omega (arith, total_put (set (values_of p block) place v), length-set (values_of p block) place v)
