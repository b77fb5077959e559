-- The names of the made procedures are names, and differ.
use Rattle.std.proofs.Common.{◌≡◌, ℕ, ◌^◌, ◌<◌, true, List, [], ◌∷◌, ◌++◌, refl, sym, ap, ◌∙◌, arith}
use Rattle.std.specs.Prelude.{codes}
use Rattle.std.specs.Char.{is_ascii_digit}
use Rattle.std.specs.Fmt.{decimal}
use Rattle.std.specs.List.{list_all}
use Rattle.std.specs.Str.{all_ascii_digits}
use Rattle.std.proofs.lemmas.Bool.{and_parts}
use Rattle.std.proofs.lemmas.Bool.Decides.{nat_tests}
use Rattle.std.proofs.lemmas.Fmt.{digits_decimal, digits_value-decimal, length-decimal-le}
use Rattle.b3_ir.specs.Names.{IsName, may_stand_in_name}
use Rattle.b3_items.specs.Numbers.{value_on}
use Rattle.b3_written.proofs.RoundLemmas.{own}

digit_stands : (c : ℕ) → is_ascii_digit c ≡ true → may_stand_in_name c ≡ true
digit_stands c h = grind (arith, nat_tests)

digits_stand : (ds : List ℕ) → all_ascii_digits ds ≡ true → list_all may_stand_in_name ds ≡ true
digits_stand [] h = refl
digits_stand (c ∷ cs) h =
    let both = and_parts (is_ascii_digit c) (all_ascii_digits cs) h in
    rw (digit_stands c both.0, digits_stand cs both.1) refl

pub name_good : (k : ℕ) → k < 2 ^ 32 → IsName (codes "g" ++ decimal k)
name_good k low = record {
  begin = refl;
  all = digits_stand (decimal k) (digits_decimal own k (omega arith));
  short = omega (arith, length-decimal-le 10 k (omega arith) (omega arith) (omega arith));
}

tail_same : (a b : ℕ) (x y : List ℕ) → a ∷ x ≡ b ∷ y → x ≡ y
tail_same a b x y e = cc

pub name_tells : (j k : ℕ) → j < 2 ^ 32 → k < 2 ^ 32 → codes "g" ++ decimal j ≡ codes "g" ++ decimal k → j ≡ k
name_tells j k low high e =
    sym (digits_value-decimal own j (omega arith)) ∙ ap (value_on 0) (tail_same 103 103 (decimal j) (decimal k) e) ∙ digits_value-decimal own k (omega arith)
