-- Numbers.
use Rattle.std.proofs.Common.{◌≡◌, ℕ, ◌+◌, ◌-◌, ◌*◌, ◌<◌, ◌≤◌, Bool, true, false, cond, ◌&&◌, List, [], ◌∷◌, length, take, drop, Option, Some, None, option_and_then, refl, arith}
use Rattle.std.specs.Prelude.{◌==◌}
use Rattle.std.specs.Str.{bytes_eq}
use Rattle.b3_items.specs.Numbers.{after, value_on, hex_on, hex_digit}

-- what is read grows
pub value_on_grows : (n : ℕ) (ds : List ℕ) → n ≤ value_on n ds
value_on_grows n [] = omega arith
value_on_grows n (c ∷ cs) = omega (arith, value_on_grows (n * 10 + (c - 48)) cs)

hex_step : (n m : ℕ) (cs : List ℕ) (o : Option ℕ) → ((d : ℕ) → hex_on (n * 16 + d) cs ≡ Some m → n * 16 + d ≤ m)
    → option_and_then (λ d. hex_on (n * 16 + d) cs) o ≡ Some m → n ≤ m
hex_step n m cs None more e = absurd cc
hex_step n m cs (Some d) more e = omega (arith, more d e)

pub hex_on_grows : (n m : ℕ) (cs : List ℕ) → hex_on n cs ≡ Some m → n ≤ m
hex_on_grows n m [] e = let same : n ≡ m = cc in omega arith
hex_on_grows n m (c ∷ cs) e = hex_step n m cs (hex_digit c) (λ d. hex_on_grows (n * 16 + d) m cs) e

-- ---- fronts

short_on : (x : Bool) {r : Option (List ℕ)} → r ≡ None → cond x r None ≡ None
short_on true e = e
short_on false e = refl

pub after_short : (front text : List ℕ) → length text < length front → after front text ≡ None
after_short [] text h = absurd (omega arith)
after_short (p ∷ ps) [] h = refl
after_short (p ∷ ps) (c ∷ cs) h = short_on (c == p) (after_short ps cs (omega arith))

is_on : (x y : Bool) (rest : List ℕ) (r : Option (List ℕ)) → r ≡ cond y (Some rest) None → cond x r None ≡ cond (x && y) (Some rest) None
is_on true y rest r e = e
is_on false y rest r e = refl

pub after_is : (front text : List ℕ) → length front ≤ length text
    → after front text ≡ cond (bytes_eq (take (length front) text) front) (Some (drop (length front) text)) None
after_is [] text h = refl
after_is (p ∷ ps) [] h = absurd (omega arith)
after_is (p ∷ ps) (c ∷ cs) h = is_on (c == p) (bytes_eq (take (length ps) cs) ps) (drop (length ps) cs) (after ps cs) (after_is ps cs (omega arith))
