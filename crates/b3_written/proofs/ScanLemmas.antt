-- The first place of a byte.
use Rattle.std.proofs.Common.{◌≡◌, ℕ, Bool, true, false, not, nat_lt, List, [], ◌∷◌, ◌++◌, length, Some, None, refl, arith, eq-eqb}
use Rattle.std.specs.Prelude.{◌==◌}
use Rattle.std.specs.List.{list_all, position, position_or_len}
use Rattle.std.proofs.lemmas.Bool.{and_parts, lt-ltb}
use Rattle.std.proofs.lemmas.Bool.Decides.{nat_tests}
use Rattle.std.proofs.lemmas.List.{length-append}

-- another byte
abbrev pub is_other : ℕ → ℕ → Bool
is_other k b = not (b == k)

place_len : (k : ℕ) (front rest : List ℕ) → list_all (is_other k) front ≡ true → position_or_len (λ b. b == k) (front ++ (k ∷ rest)) ≡ length front
place_len k [] rest h = let same : (k == k) ≡ true = eq-eqb k k refl in rw same refl
place_len k (c ∷ front) rest h =
    let both = and_parts (is_other k c) (list_all (is_other k) front) h in
    rw both.0 (omega (arith, place_len k front rest both.1))

-- behind a front without it
pub place_behind : (k : ℕ) (front rest : List ℕ) → list_all (is_other k) front ≡ true → position (λ b. b == k) (front ++ (k ∷ rest)) ≡ Some (length front)
place_behind k front rest h =
    let len = place_len k front rest h in
    let lt : nat_lt (length front) (length (front ++ (k ∷ rest))) ≡ true = lt-ltb (length front) (length (front ++ (k ∷ rest)))
    (omega (arith, length-append front (k ∷ rest))) in
    rw (len, lt) refl

whole_len : (k : ℕ) (text : List ℕ) → list_all (is_other k) text ≡ true → position_or_len (λ b. b == k) text ≡ length text
whole_len k [] h = refl
whole_len k (c ∷ text) h =
    let both = and_parts (is_other k c) (list_all (is_other k) text) h in
    rw both.0 (omega (arith, whole_len k text both.1))

-- in a text without it
pub place_none : (k : ℕ) (text : List ℕ) → list_all (is_other k) text ≡ true → position (λ b. b == k) text ≡ None
place_none k text h =
    let len = whole_len k text h in
    let off : nat_lt (length text) (length text) ≡ false = grind (arith, nat_tests) in
    rw (len, off) refl
