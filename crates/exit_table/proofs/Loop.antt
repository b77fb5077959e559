-- Reading rows one after the other, as a loop does.
use Rattle.std.proofs.Common.{◌≡◌, ℕ, suc, ◌-◌, ◌+◌, ◌≤◌, ◌<◌, List, [], ◌∷◌, ◌++◌, Result, Ok, Err, refl, sym, ap, ◌∙◌, append_assoc, arith}
use Rattle.std.proofs.lemmas.List.{append-nil}
use Rattle.exit_table.specs.declared.fault.Fault.{Fault}
use Rattle.exit_table.specs.declared.fault.ReadError.{ReadError}
use Rattle.exit_table.specs.declared.fault.ReadError.TheVariants as errors
use Rattle.exit_table.specs.Reading.{Reader, and_then, Fails, rows}

-- what was read before, and what is still read
abbrev pub with_front : {A : Type 0} → List A → Result (List A × List ℕ) Fault → Result (List A × List ℕ) Fault
with_front front read = and_then read (λ x. Ok (front ++ x.0, x.1))

regroup : {A : Type 0} (front : List A) (n : A) (read : Result (List A × List ℕ) Fault) → with_front front (and_then read (λ x. Ok (n ∷ x.0, x.1))) ≡ with_front (front ++ n ∷ []) read
regroup {A} front n (Ok x) = ap (λ (ns : List A). Ok (ns, x.1)) (simp append_assoc)
regroup front n (Err f) = refl

module _ {K A : Type 0} (row : K → Reader A) (after : K → A → K) where
  -- the rows before, and what the rest of so many rows gives
  abbrev pub rows_from : List A → K → ℕ → Reader (List A)
  rows_from front known n fields = with_front front (rows row after known n fields)

  pub goes_on : (front : List A) (known : K) (count i : ℕ) (fields : List ℕ) (n : A) (rest : List ℕ) (total : Result (List A × List ℕ) Fault) → i < count → row known fields ≡ Ok (n, rest)
      → rows_from front known (count - i) fields ≡ total → rows_from (front ++ n ∷ []) (after known n) (count - (i + 1)) rest ≡ total
  unfolding rows
  goes_on front known count i fields n rest total lt h so_far =
      let k : count - i ≡ suc (count - (i + 1)) = omega arith in
      let one : rows_from front known (count - i) fields ≡ rows_from (front ++ n ∷ []) (after known n) (count - (i + 1)) rest = rw (k, h) (regroup front n (rows row after (after known n) (count - (i + 1)) rest)) in
      sym one ∙ so_far

  pub stops : (e : ReadError) (front : List A) (known : K) (count i : ℕ) (fields : List ℕ) (total : Result (List A × List ℕ) Fault) → i < count → Fails e (row known fields)
      → rows_from front known (count - i) fields ≡ total → Fails e total
  unfolding rows
  stops errors.NoMemory front known count i fields total lt h so_far = tt
  stops (errors.Fault f) front known count i fields total lt h so_far =
      let k : count - i ≡ suc (count - (i + 1)) = omega arith in
      let one : rows_from front known (count - i) fields ≡ Err f = rw (k, h) refl in
      sym so_far ∙ one

  pub is_done : (front : List A) (known : K) (count i : ℕ) (fields : List ℕ) (total : Result (List A × List ℕ) Fault) → count ≤ i → rows_from front known (count - i) fields ≡ total → total ≡ Ok (front, fields)
  unfolding rows
  is_done front known count i fields total le so_far =
      let k : count - i ≡ 0 = omega arith in
      let one : rows_from front known (count - i) fields ≡ Ok (front, fields) = rw k (ap (λ (ns : List A). Ok (ns, fields)) (append-nil front)) in
      sym so_far ∙ one

  pub begins : (known : K) (count i : ℕ) (fields : List ℕ) → i ≡ 0 → rows_from [] known (count - i) fields ≡ rows row after known count fields
  begins known count i fields none =
      let k : count - i ≡ count = omega arith in
      rw k (elim (rows row after known count fields) as (λ r. with_front [] r ≡ r) [ Ok x ↦ refl | Err f ↦ refl ])
