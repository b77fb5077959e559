-- Words and bytes, digit by digit.
use Rattle.std.proofs.Common.{◌≡◌, ℕ, ◌+◌, ◌*◌, ◌≤◌, List, [], ◌∷◌, ◌++◌, length, Option, Some, None, refl, sym, ap, ◌∙◌, append_assoc, arith}
use Rattle.std.specs.Prelude.{option_and_then}
use Rattle.std.proofs.Math.Nat.{mul-le-mul_left}
use Rattle.std.proofs.lemmas.List.{append-nil, nil_from_length}
use Rattle.b3_items.specs.Numbers.{below, hex_digit}
use Rattle.b3_trial.specs.declared.line.Piece.{Piece}
use Rattle.b3_trial.specs.Lines.{hex_byte, hex_bytes, onto, piece_of, pieces_of, value_on}

-- ---- what is read grows

value_step : (base n m : ℕ) (cs : List ℕ) (o : Option ℕ) → 1 ≤ base → ((d : ℕ) → value_on base (n * base + d) cs ≡ Some m → n * base + d ≤ m)
    → option_and_then (λ d. value_on base (n * base + d) cs) o ≡ Some m → n ≤ m
value_step base n m cs None one more e = absurd cc
value_step base n m cs (Some d) one more e = omega (arith, more d e, mul-le-mul_left n one)

pub value_on_grows : (base n m : ℕ) (cs : List ℕ) → 1 ≤ base → value_on base n cs ≡ Some m → n ≤ m
value_on_grows base n m [] one e = let same : n ≡ m = cc in omega arith
value_on_grows base n m (c ∷ cs) one e = value_step base n m cs (below base (hex_digit c)) one (λ d. value_on_grows base (n * base + d) m cs one) e

-- ---- one item more

pub onto_nil : {A : Type 0} (o : Option (List A)) → onto [] o ≡ o
onto_nil None = refl
onto_nil (Some xs) = refl

pub onto_onto : {A : Type 0} (front : List A) (x : A) (o : Option (List A)) → onto front (onto (x ∷ []) o) ≡ onto (front ++ x ∷ []) o
onto_onto front x None = refl
onto_onto front x (Some xs) = ap Some (sym (append_assoc front (x ∷ []) xs))

onto_end : {A : Type 0} (front : List A) → onto front (Some []) ≡ Some front
onto_end front = ap Some (append-nil front)

-- ---- bytes

pub bytes_more : (high low byte : ℕ) (front more : List ℕ) → hex_byte high low ≡ Some byte
    → onto front (hex_bytes (high ∷ low ∷ more)) ≡ onto (front ++ byte ∷ []) (hex_bytes more)
unfolding hex_bytes
bytes_more high low byte front more e = ap (λ (o : Option ℕ). onto front (option_and_then (λ b. onto (b ∷ []) (hex_bytes more)) o)) e
    ∙ onto_onto front byte (hex_bytes more)

pub bytes_not : (high low : ℕ) (front more : List ℕ) → hex_byte high low ≡ None → onto front (hex_bytes (high ∷ low ∷ more)) ≡ None
unfolding hex_bytes
bytes_not high low front more e = ap (λ (o : Option ℕ). onto front (option_and_then (λ b. onto (b ∷ []) (hex_bytes more)) o)) e

odd_at : (high : ℕ) (front : List ℕ) → onto front (hex_bytes (high ∷ [])) ≡ None
unfolding hex_bytes
odd_at high front = refl

pub bytes_odd : (high : ℕ) (front more : List ℕ) → length more ≡ 0 → onto front (hex_bytes (high ∷ more)) ≡ None
bytes_odd high front more none = ap (λ (x : List ℕ). onto front (hex_bytes (high ∷ x))) (nil_from_length more none) ∙ odd_at high front

end_at : (front : List ℕ) → onto front (hex_bytes []) ≡ Some front
unfolding hex_bytes
end_at front = onto_end front

pub bytes_end : (front text : List ℕ) → length text ≡ 0 → onto front (hex_bytes text) ≡ Some front
bytes_end front text none = ap (λ (x : List ℕ). onto front (hex_bytes x)) (nil_from_length text none) ∙ end_at front

-- ---- pieces

pub pieces_more : (t : List ℕ) (ts : List (List ℕ)) (piece : Piece) (front : List Piece) → piece_of t ≡ Some piece
    → onto front (pieces_of (t ∷ ts)) ≡ onto (front ++ piece ∷ []) (pieces_of ts)
unfolding pieces_of
pieces_more t ts piece front e = ap (λ (o : Option Piece). onto front (option_and_then (λ p. onto (p ∷ []) (pieces_of ts)) o)) e
    ∙ onto_onto front piece (pieces_of ts)

pub pieces_not : (t : List ℕ) (ts : List (List ℕ)) (front : List Piece) → piece_of t ≡ None → onto front (pieces_of (t ∷ ts)) ≡ None
unfolding pieces_of
pieces_not t ts front e = ap (λ (o : Option Piece). onto front (option_and_then (λ p. onto (p ∷ []) (pieces_of ts)) o)) e

pub pieces_end : (front : List Piece) → onto front (pieces_of []) ≡ Some front
unfolding pieces_of
pieces_end front = onto_end front
