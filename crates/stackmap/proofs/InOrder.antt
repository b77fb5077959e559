-- What is given to the children in order is the register of each.
use Rattle.std.proofs.Common.{◌≡◌, ◌∙◌, ℕ, ◌+◌, ◌<◌, ◌≤◌, arith, Bool, true, false, List, [], ◌∷◌, ◌++◌, Option, Some, zero, suc, length, take, drop, get_or, slice_get, drop-cons, add-one, refl, sym, ap, cond, append_assoc}
use Rattle.std.specs.List.{filter}
use Rattle.std.proofs.Math.Seq.{take-append_seam}
use Rattle.b3_ir.specs.declared.value.Constraint.{Constraint}
use Rattle.b3_ir.specs.declared.value.Reg.{Reg}
use Rattle.b3_ir.specs.declared.value.Stackmap.{Stackmap}
use Rattle.b3_ir.specs.declared.value.Value.{Value}
use Rattle.stackmap.specs.Placing.{allowed, child_register, placed_count, register_for, register_in, registers_for, registers_from}
use Rattle.stackmap.specs.Registers.{constraints_in, has_result, is_placed, stackmap_in}
use Rattle.stackmap.specs.Standing.{given, given_from, placed_with}

at_seam : {A : Type 0} (xs : List A) (y : A) (ys : List A) → slice_get (xs ++ y ∷ ys) (length xs) ≡ Some y
at_seam [] y ys = refl
at_seam (x ∷ xs) y ys = at_seam xs y ys

longer : {A : Type 0} (xs : List A) (y : A) → length (xs ++ y ∷ []) ≡ suc (length xs)
longer [] y = refl
longer (x ∷ xs) y = ap suc (longer xs y)

count_one : (cs : List Constraint) (c : Constraint)
    → placed_count (cs ++ c ∷ []) ≡ (placed_with (placed_count cs) c)
count_one [] c = first (is_placed c)
  where
    first : (b : Bool) → length (cond b (c ∷ []) []) ≡ cond b (0 + 1) 0
    first true = refl
    first false = refl
count_one (x ∷ cs) c = more (is_placed x) (is_placed c) (count_one cs c)
  where
    more : (a b : Bool) → placed_count (cs ++ c ∷ []) ≡ cond b (placed_count cs + 1) (placed_count cs)
        → length (cond a (x ∷ filter is_placed (cs ++ c ∷ [])) (filter is_placed (cs ++ c ∷ [])))
        ≡ cond b (length (cond a (x ∷ filter is_placed cs) (filter is_placed cs)) + 1) (length (cond a (x ∷ filter is_placed cs) (filter is_placed cs)))
    more true true e = omega (arith, e)
    more true false e = ap suc e
    more false true e = e
    more false false e = e

module _ (v : Value) (map : Stackmap) (typed : Bool) (carries : stackmap_in v.body ≡ Some map) (is_typed : typed ≡ has_result v) where
  here : (pre : List Constraint) (c : Constraint) (cs : List Constraint) → map.constraints ≡ pre ++ c ∷ cs
      → register_for v (length pre) ≡ given (allowed map typed) (placed_count pre) c
  here pre c cs e =
      ap (λ (m : Option Stackmap). register_in m (has_result v) (length pre)) carries
      ∙ ap (λ (b : Bool). register_in (Some map) b (length pre)) (sym is_typed)
      ∙ ap (λ (o : Option Constraint). child_register map typed (length pre) o) (ap (λ (l : List Constraint). slice_get l (length pre)) e ∙ at_seam pre c cs)
      ∙ ap (λ (l : List Constraint). given (allowed map typed) (placed_count l) c) (ap (take (length pre)) e ∙ take-append_seam pre (c ∷ cs))

  from : (pre cs : List Constraint) → map.constraints ≡ pre ++ cs
      → given_from (allowed map typed) (placed_count pre) cs ≡ registers_from v (length pre) cs
  unfolding given_from registers_from
  from pre [] e = refl
  from pre (c ∷ cs) e =
      let rest : given_from (allowed map typed) (placed_with (placed_count pre) c) cs ≡ registers_from v (suc (length pre)) cs =
      ap (λ (n : ℕ). given_from (allowed map typed) n cs) (sym (count_one pre c))
      ∙ from (pre ++ c ∷ []) cs (e ∙ sym (append_assoc pre (c ∷ []) cs))
      ∙ ap (λ (n : ℕ). registers_from v n cs) (longer pre c) in
      rw (here pre c cs e, rest) refl

  pub in_order : given_from (allowed map typed) 0 map.constraints ≡ registers_for v
  in_order = from [] map.constraints refl ∙ ap (λ (o : Option Stackmap). registers_from v 0 (constraints_in o)) (sym carries)

-- ---- each by its place

pub register_at : (v : Value) (k : ℕ) (cs : List Constraint) (n : ℕ) → n < length cs
    → slice_get (registers_from v k cs) n ≡ Some (register_for v (k + n))
unfolding registers_from
register_at v k [] n within = absurd (omega arith)
register_at v k (c ∷ cs) zero within = ap (λ (j : ℕ). Some (register_for v j)) (omega arith)
register_at v k (c ∷ cs) (suc n) within = register_at v (suc k) cs n (omega arith) ∙ ap (λ (j : ℕ). Some (register_for v j)) (omega arith)

pub registers_count : (v : Value) (k : ℕ) (cs : List Constraint) → length (registers_from v k cs) ≡ length cs
unfolding registers_from
registers_count v k [] = refl
registers_count v k (c ∷ cs) = ap suc (registers_count v (suc k) cs)

-- ---- one more

pub given_pushed : (registers more whole : List (Option Reg)) (allowed : List ℕ) (placed next : ℕ) (cs : List Constraint) (at : ℕ) (d : Constraint)
    → at < length cs
    → registers ++ given_from allowed placed (drop at cs) ≡ whole → more ≡ registers ++ given allowed placed (get_or cs at d) ∷ []
    → next ≡ placed_with placed (get_or cs at d) → more ++ given_from allowed next (drop (at + 1) cs) ≡ whole
unfolding given_from
given_pushed registers more whole allowed placed next cs at d less e f g =
    let c : Constraint = get_or cs at d in rw add-one
    (ap (λ (n : ℕ). more ++ given_from allowed n (drop (suc at) cs)) g
    ∙ ap (λ (l : List (Option Reg)). l ++ given_from allowed (placed_with placed c) (drop (suc at) cs)) f
    ∙ append_assoc registers (given allowed placed c ∷ []) (given_from allowed (placed_with placed c) (drop (suc at) cs))
    ∙ ap (λ (l : List Constraint). registers ++ given_from allowed placed l) (sym (drop-cons cs at d less)) ∙ e)

pub placed_at_most : (placed index next : ℕ) (c : Constraint) → placed ≤ index → next ≡ placed_with placed c → next ≤ index + 1
placed_at_most placed index next c less e = rw e (by (is_placed c))
  where
    by : (b : Bool) → cond b (placed + 1) placed ≤ index + 1
    by true = omega (arith, less)
    by false = omega (arith, less)
