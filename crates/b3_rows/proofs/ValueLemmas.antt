-- The line of a value.
use Rattle.std.proofs.Common.{◌≡◌, ℕ, Bool, true, false, cond, List, [], ◌∷◌, ◌++◌, length, Some, None, ◌≢◌, eq-eqb, refl, ◌∙◌, ap, arith}
use Rattle.std.specs.Prelude.{◌==◌, option_map}
use Rattle.std.proofs.lemmas.List.{nil_from_length}
use Rattle.std.proofs.lemmas.Bool.Decides.{nat_tests}
use Rattle.b3_rows.specs.Values.{inner_of}

onto_chosen : (b : ℕ) (xs : List ℕ) (x : Bool) → option_map (λ (rest : List ℕ). b ∷ rest) (cond x (Some xs) None) ≡ cond x (Some (b ∷ xs)) None
onto_chosen b xs true = refl
onto_chosen b xs false = refl

inner_last : (xs : List ℕ) (b : ℕ) → inner_of (xs ++ b ∷ []) ≡ cond (b == 41) (Some xs) None
unfolding inner_of
inner_last [] b = refl
inner_last (c ∷ []) b = onto_chosen c [] (b == 41)
inner_last (c ∷ d ∷ xs) b = ap (option_map (λ (rest : List ℕ). c ∷ rest)) (inner_last (d ∷ xs) b) ∙ onto_chosen c (d ∷ xs) (b == 41)

pub inner_yes : (text xs : List ℕ) (b : ℕ) → text ≡ xs ++ b ∷ [] → b ≡ 41 → inner_of text ≡ Some xs
inner_yes text xs b e is = let test : (b == 41) ≡ true = eq-eqb b 41 is in ap inner_of e ∙ inner_last xs b ∙ rw test refl

pub inner_no : (text xs : List ℕ) (b : ℕ) → text ≡ xs ++ b ∷ [] → b ≢ 41 → inner_of text ≡ None
inner_no text xs b e is = let test : (b == 41) ≡ false = grind (arith, nat_tests) in ap inner_of e ∙ inner_last xs b ∙ rw test refl

pub inner_none : (text : List ℕ) → length text ≡ 0 → inner_of text ≡ None
unfolding inner_of
inner_none text e = rw (nil_from_length text e) refl
