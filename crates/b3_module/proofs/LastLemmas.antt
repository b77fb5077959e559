-- Changes of the last procedure of a module.
use Rattle.std.proofs.Common.{◌≡◌, ℕ, zero, suc, ◌+◌, ◌-◌, List, [], ◌∷◌, ◌++◌, length, Some, refl, sym, ap, ◌∙◌, arith}
use Rattle.std.specs.Prelude.{map, slice_get, slice_set, slice_index_or}
use Rattle.std.proofs.lemmas.List.{length-map}
use Rattle.b3_ir.specs.declared.value.Value.{Value}
use Rattle.b3_ir.specs.Procedure.{Block, Kept, Procedure, empty_procedure, empty_kept, no_block, procedures, values_of, with_values}
use Rattle.b3_module.specs.Texts.{with_last, with_value}
use Rattle.b3_module.specs.Reading.{last_of}

-- ---- the last item of a list

pub with_last_set : {A : Type 0} (f : A → A) (d : A) (xs : List A) (n : ℕ) → suc n ≡ length xs → with_last f xs ≡ slice_set xs n (f (slice_index_or xs n d))
with_last_set f d [] n h = absurd (omega arith)
with_last_set f d (x ∷ []) zero h = refl
with_last_set f d (x ∷ []) (suc n) h = absurd (omega arith)
with_last_set f d (x ∷ y ∷ xs) zero h = absurd (omega arith)
with_last_set f d (x ∷ y ∷ xs) (suc n) h = ap (λ ys. x ∷ ys) (with_last_set f d (y ∷ xs) n (omega arith))

pub length_with_last : {A : Type 0} (f : A → A) (xs : List A) → length (with_last f xs) ≡ length xs
length_with_last f [] = refl
length_with_last f (x ∷ []) = refl
length_with_last f (x ∷ y ∷ xs) = ap suc (length_with_last f (y ∷ xs))

pub with_last_at : {A : Type 0} (f : A → A) (d : A) (xs : List A) (n : ℕ) → suc n ≡ length xs → slice_index_or (with_last f xs) n d ≡ f (slice_index_or xs n d)
with_last_at f d [] n h = absurd (omega arith)
with_last_at f d (x ∷ []) zero h = refl
with_last_at f d (x ∷ []) (suc n) h = absurd (omega arith)
with_last_at f d (x ∷ y ∷ xs) zero h = absurd (omega arith)
with_last_at f d (x ∷ y ∷ xs) (suc n) h = with_last_at f d (y ∷ xs) n (omega arith)

pub set_map : {A B : Type 0} (f : A → B) (xs : List A) (n : ℕ) (y : A) → map f (slice_set xs n y) ≡ slice_set (map f xs) n (f y)
set_map f [] n y = refl
set_map f (x ∷ xs) zero y = refl
set_map f (x ∷ xs) (suc n) y = ap (λ ys. f x ∷ ys) (set_map f xs n y)

pub get_map : {A B : Type 0} (f : A → B) (xs : List A) (n : ℕ) (y : A) (d : B) → slice_get xs n ≡ Some y → slice_index_or (map f xs) n d ≡ f y
get_map f [] n y d h = absurd cc
get_map f (x ∷ xs) zero y d h = let e : x ≡ y = cc in ap f e
get_map f (x ∷ xs) (suc n) y d h = get_map f xs n y d h

-- ---- a module

pub one_more : (m : List Kept) (name : List ℕ) (line : ℕ) → procedures (m ++ empty_kept name line ∷ []) ≡ procedures m ++ empty_procedure name line ∷ []
one_more [] name line = refl
one_more (k ∷ m) name line = ap (λ (ps : List Procedure). k.procedure ∷ ps) (one_more m name line)

-- the last procedure is changed by f
pub last_changed : (m : List Kept) (n : ℕ) (old new : Kept) (f : Procedure → Procedure) → n + 1 ≡ length m → slice_get m n ≡ Some old → new.procedure ≡ f old.procedure → procedures (slice_set m n new) ≡ with_last f (procedures m)
last_changed m n old new f count there e =
    let size : suc n ≡ length (procedures m) = omega (arith, length-map m (λ (k : Kept). k.procedure)) in
    set_map (λ (k : Kept). k.procedure) m n new
    ∙ ap (slice_set (procedures m) n) (e ∙ ap f (sym (get_map (λ (k : Kept). k.procedure) m n old (empty_procedure [] 0) there)))
    ∙ sym (with_last_set f (empty_procedure [] 0) (procedures m) n size)

-- the last procedure, where it is kept
pub last_is : (m : List Kept) (n : ℕ) (old : Kept) → n + 1 ≡ length m → slice_get m n ≡ Some old → last_of (procedures m) ≡ old.procedure
last_is m n old count there =
    let size : length (procedures m) - 1 ≡ n = omega (arith, length-map m (λ (k : Kept). k.procedure)) in
    ap (λ (k : ℕ). slice_index_or (procedures m) k (empty_procedure [] 0)) size ∙ get_map (λ (k : Kept). k.procedure) m n old (empty_procedure [] 0) there

-- a value is added to the last block
pub value_added : (p : Procedure) (v : Value) (n : ℕ) → n + 1 ≡ length p.blocks → with_values p n (values_of p n ++ v ∷ []) ≡ with_value v p
value_added p v n count =
    ap (λ (blocks : List Block). record p { blocks = blocks }) (sym (with_last_set (λ (b : Block). record b { values = b.values ++ v ∷ [] }) no_block p.blocks n (omega arith)))
