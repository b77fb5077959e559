-- The numbers of words, and the parts of a summary.
use Rattle.std.proofs.Common.{◌≡◌, ℕ, ◌+◌, ◌-◌, ◌*◌, ◌≤◌, List, [], ◌∷◌, ◌++◌, ap, ◌∙◌, append_assoc, arith}
use Rattle.b3_items.specs.Numbers.{value_on}

-- what is read grows
pub value_on_grows : (n : ℕ) (ds : List ℕ) → n ≤ value_on n ds
value_on_grows n [] = omega arith
value_on_grows n (c ∷ cs) = omega (arith, value_on_grows (n * 10 + (c - 48)) cs)

-- five pieces put one behind the other
pub five_parts : (o a b c d e p q r s t : List ℕ) → o ≡ [] → a ≡ o ++ p → b ≡ a ++ q → c ≡ b ++ r → d ≡ c ++ s → e ≡ d ++ t → e ≡ p ++ (q ++ (r ++ (s ++ t)))
five_parts o a b c d e p q r s t empty one two three four five =
    let x : a ≡ p = one ∙ ap (λ (l : List ℕ). l ++ p) empty in
    five ∙ ap (λ (l : List ℕ). l ++ t) (four ∙ ap (λ (l : List ℕ). l ++ s) (three ∙ ap (λ (l : List ℕ). l ++ r) (two ∙ ap (λ (l : List ℕ). l ++ q) x)))
    ∙ simp append_assoc
