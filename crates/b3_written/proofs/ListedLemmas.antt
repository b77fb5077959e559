-- Items one after the other.
use Rattle.std.proofs.Common.{◌≡◌, ℕ, zero, suc, ◌+◌, Bool, true, false, cond, List, [], ◌∷◌, ◌++◌, map, refl, sym, ◌∙◌, ap, append_assoc, append-nil, arith}
use Rattle.std.specs.Prelude.{◌-◌, codes, nat_eq}
use Rattle.std.specs.Int.{bit_at}
use Rattle.b3_ir.specs.declared.value.Constraint.{Constraint}
use Rattle.b3_ir.specs.declared.value.Value.{Value}
use Rattle.b3_rows.specs.declared.row.Row.TheVariants.{ValueRow}
use Rattle.b3_rows.specs.Written.{child_texts, item_texts, joined, line_of_row, target_texts, members_from, reg_text}
use Rattle.b3_written.specs.Listed.{behind, child_with, chosen_target, head_text, listed, member_texts, place_of, places_behind, separator, some_with}

joined_behind : (text : List ℕ) (more : List (List ℕ)) → joined (text ∷ more) ≡ text ++ behind more
joined_behind text [] = sym (append-nil text)
joined_behind text (next ∷ more) = ap (λ (t : List ℕ). text ++ (44 ∷ 32 ∷ t)) (joined_behind next more)

-- the first of some texts
pub listed_first : (some : Bool) (text : List ℕ) (more : List (List ℕ)) → listed some (text ∷ more) ≡ separator some ++ (text ++ listed true more)
listed_first true text more = refl
listed_first false text more = joined_behind text more

pub listed_none : (some : Bool) → listed some [] ≡ []
listed_none true = refl
listed_none false = refl

behind_two : (xs ys : List (List ℕ)) → behind (xs ++ ys) ≡ behind xs ++ behind ys
behind_two [] ys = refl
behind_two (x ∷ xs) ys = ap (λ (t : List ℕ). 44 ∷ 32 ∷ t) (ap (λ (t : List ℕ). x ++ t) (behind_two xs ys) ∙ sym (append_assoc x (behind xs) (behind ys)))

-- texts one part after the other
pub listed_two : (some : Bool) (xs ys : List (List ℕ)) → listed some (xs ++ ys) ≡ listed some xs ++ listed (some_with some xs) ys
listed_two true [] ys = refl
listed_two true (x ∷ xs) ys = behind_two (x ∷ xs) ys
listed_two false [] ys = refl
listed_two false (x ∷ xs) ys = joined_behind x (xs ++ ys) ∙ ap (λ (t : List ℕ). x ++ t) (behind_two xs ys)
    ∙ sym (append_assoc x (behind xs) (behind ys)) ∙ ap (λ (t : List ℕ). t ++ behind ys) (sym (joined_behind x xs))

-- the first child, and those behind it
child_next : (left id : ℕ) (ids : List ℕ) (cs : List Constraint)
    → child_texts left (id ∷ ids) cs ≡ child_with id (place_of left cs) ∷ child_texts (left - 1) ids (places_behind left cs)
child_next zero id ids [] = refl
child_next zero id ids (c ∷ cs) = refl
child_next (suc left) id ids cs = let e : suc left - 1 ≡ left = omega arith in rw e refl

pub child_first : (some : Bool) (left id : ℕ) (ids : List ℕ) (cs : List Constraint)
    → listed some (child_texts left (id ∷ ids) cs) ≡ separator some ++ (child_with id (place_of left cs) ++ listed true (child_texts (left - 1) ids
    (places_behind left cs)))
child_first some left id ids cs = ap (listed some) (child_next left id ids cs)
    ∙ listed_first some (child_with id (place_of left cs)) (child_texts (left - 1) ids (places_behind left cs))

pub child_some : (some : Bool) (left id : ℕ) (ids : List ℕ) (cs : List Constraint) → some_with some (child_texts left (id ∷ ids) cs) ≡ true
child_some some left id ids cs = ap (some_with some) (child_next left id ids cs)

pub true_with : (texts : List (List ℕ)) → some_with true texts ≡ true
true_with [] = refl
true_with (text ∷ more) = refl

-- one text more, and a part more
pub listed_step : (some : Bool) (out put1 put2 text : List ℕ) (more : List (List ℕ)) → put1 ≡ out ++ separator some → put2 ≡ put1 ++ text
    → put2 ++ listed true more ≡ out ++ listed some (text ∷ more)
listed_step some out put1 put2 text more e f =
    rw (f, e) (append_assoc (out ++ separator some) text (listed true more) ∙ append_assoc out (separator some) (text ++ listed true more)
    ∙ ap (λ (t : List ℕ). out ++ t) (sym (listed_first some text more)))

pub part_step : (some some2 : Bool) (out out2 : List ℕ) (xs ys : List (List ℕ)) → out2 ≡ out ++ listed some xs → some2 ≡ some_with some xs
    → out2 ++ listed some2 ys ≡ out ++ listed some (xs ++ ys)
part_step some some2 out out2 xs ys e f = rw (e, f) (append_assoc out (listed some xs) (listed (some_with some xs) ys)
    ∙ ap (λ (t : List ℕ). out ++ t) (sym (listed_two some xs ys)))

pub some_two : (some some2 : Bool) (xs ys : List (List ℕ)) → some2 ≡ some_with some xs → some_with some2 ys ≡ some_with some (xs ++ ys)
some_two some some2 xs [] e = e ∙ ap (some_with some) (sym (append-nil xs))
some_two some some2 [] (y ∷ ys) e = refl
some_two some some2 (x ∷ xs) (y ∷ ys) e = refl

-- the whole of a list is its last part
pub part_last : (some : Bool) (out out2 : List ℕ) (xs : List (List ℕ)) → out2 ++ listed some [] ≡ out ++ listed some xs → out2 ≡ out ++ listed some xs
part_last some out out2 xs e = sym (append-nil out2) ∙ ap (λ (t : List ℕ). out2 ++ t) (sym (listed_none some)) ∙ e

pub child_step : (some : Bool) (out put1 put2 : List ℕ) (left id : ℕ) (ids : List ℕ) (cs : List Constraint) → put1 ≡ out ++ separator some
    → put2 ≡ put1 ++ child_with id (place_of left cs)
    → put2 ++ listed true (child_texts (left - 1) ids (places_behind left cs)) ≡ out ++ listed some (child_texts left (id ∷ ids) cs)
child_step some out put1 put2 left id ids cs e f =
    listed_step some out put1 put2 (child_with id (place_of left cs)) (child_texts (left - 1) ids (places_behind left cs)) e f
    ∙ ap (λ (ts : List (List ℕ)). out ++ listed some ts) (sym (child_next left id ids cs))

pub child_more : (some : Bool) (left id : ℕ) (ids : List ℕ) (cs : List Constraint)
    → some_with true (child_texts (left - 1) ids (places_behind left cs)) ≡ some_with some (child_texts left (id ∷ ids) cs)
child_more some left id ids cs = true_with (child_texts (left - 1) ids (places_behind left cs)) ∙ sym (child_some some left id ids cs)

members_on : (r : ℕ) (rest : List ℕ) (x : Bool) → map reg_text (cond x (r ∷ rest) rest) ≡ cond x (reg_text r ∷ []) [] ++ map reg_text rest
members_on r rest true = refl
members_on r rest false = refl

-- the first of the registers that are looked at, and the others
pub members_next : (set r left : ℕ) → map reg_text (members_from set r (suc left)) ≡ member_texts set r ++ map reg_text (members_from set (r + 1) left)
unfolding members_from
members_next set r left = members_on r (members_from set (r + 1) left) (nat_eq (bit_at set r) 1)

pub members_none : (set r : ℕ) → members_from set r 0 ≡ []
unfolding members_from
members_none set r = refl

-- a named item
pub named_step : (some : Bool) (out put1 put2 name text : List ℕ) → put1 ≡ out ++ (separator some ++ (name ++ codes " = ")) → put2 ≡ put1 ++ text
    → put2 ≡ out ++ listed some ((name ++ (codes " = " ++ text)) ∷ [])
named_step some out put1 put2 name text e f =
    rw (f, e) (append_assoc out (separator some ++ (name ++ codes " = ")) text ∙ ap (λ (t : List ℕ). out ++ t)
    (append_assoc (separator some) (name ++ codes " = ") text
    ∙ ap (λ (t : List ℕ). separator some ++ t) (append_assoc name (codes " = ") text ∙ sym (append-nil (name ++ (codes " = " ++ text))))
    ∙ sym (listed_first some (name ++ (codes " = " ++ text)) [])))

-- three parts, and four
pub three_parts : (some a b : Bool) (out o1 o2 o3 : List ℕ) (xs ys zs : List (List ℕ)) → o1 ≡ out ++ listed some xs → a ≡ some_with some xs
    → o2 ≡ o1 ++ listed a ys → b ≡ some_with a ys → o3 ≡ o2 ++ listed b zs → o3 ≡ out ++ listed some (xs ++ (ys ++ zs))
three_parts some a b out o1 o2 o3 xs ys zs e1 f1 e2 f2 e3 = e3 ∙ part_step a b o1 o2 ys zs e2 f2 ∙ part_step some a out o1 xs (ys ++ zs) e1 f1

pub four_parts : (some a b c : Bool) (out o1 o2 o3 o4 : List ℕ) (xs ys zs ws : List (List ℕ)) → o1 ≡ out ++ listed some xs → a ≡ some_with some xs
    → o2 ≡ o1 ++ listed a ys → b ≡ some_with a ys → o3 ≡ o2 ++ listed b zs → c ≡ some_with b zs → o4 ≡ o3 ++ listed c ws
    → o4 ≡ out ++ listed some (xs ++ (ys ++ (zs ++ ws)))
four_parts some a b c out o1 o2 o3 o4 xs ys zs ws e1 f1 e2 f2 e3 f3 e4 =
    three_parts a b c o1 o2 o3 o4 ys zs ws e2 f2 e3 f3 e4 ∙ part_step some a out o1 xs (ys ++ (zs ++ ws)) e1 f1

-- one text
pub listed_alone : (some : Bool) (text : List ℕ) → listed some (text ∷ []) ≡ separator some ++ text
listed_alone some text = listed_first some text [] ∙ ap (λ (t : List ℕ). separator some ++ t) (append-nil text)

-- the line of a value, part by part
pub value_line : (v : Value) → line_of_row (ValueRow v) ≡ codes "    " ++ (head_text v ++ (codes "(" ++ (joined (item_texts v) ++ codes ")")))
value_line v = simp append_assoc

-- two texts one after the other
pub then_more : (out o1 o2 a b : List ℕ) → o1 ≡ out ++ a → o2 ≡ o1 ++ b → o2 ≡ out ++ (a ++ b)
then_more out o1 o2 a b e f = rw (f, e) (append_assoc out a b)

targets_next : (number : ℕ) (more : List ℕ) → target_texts (number ∷ more) ≡ chosen_target number more ∷ target_texts more
targets_next number [] = refl
targets_next number (next ∷ more) = refl

pub target_step : (some : Bool) (out put1 put2 : List ℕ) (number : ℕ) (more : List ℕ) → put1 ≡ out ++ separator some
    → put2 ≡ put1 ++ chosen_target number more → put2 ++ listed true (target_texts more) ≡ out ++ listed some (target_texts (number ∷ more))
target_step some out put1 put2 number more e f =
    listed_step some out put1 put2 (chosen_target number more) (target_texts more) e f
    ∙ ap (λ (ts : List (List ℕ)). out ++ listed some ts) (sym (targets_next number more))
