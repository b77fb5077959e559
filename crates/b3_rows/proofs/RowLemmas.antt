-- Rows.
use Rattle.std.proofs.Common.{◌≡◌, ◌≢◌, ℕ, ◌≤◌, Bool, true, false, cond, ◌&&◌, List, [], ◌∷◌, ◌++◌, length, Option, Some, None, refl, sym, ◌∙◌, ap, append_assoc, arith, eq-eqb}
use Rattle.std.specs.Prelude.{◌==◌, nat_le, IsTrue, ◌↔◌, option_map, option_and_then, codes}
use Rattle.std.specs.List.{list_all}
use Rattle.std.specs.Option.{option_or}
use Rattle.std.proofs.lemmas.Bool.{and_parts, le-leb}
use Rattle.std.proofs.lemmas.Bool.Decides.{nat_tests}
use Rattle.std.proofs.lemmas.List.{nil_from_length}
use Rattle.b3_ir.specs.Names.{IsName, begins_name, may_stand_in_name}
use Rattle.b3_rows.specs.declared.row.Row.TheVariants.{NoSuccessors, Many}
use Rattle.b3_items.specs.Numbers.{plain_after}
use Rattle.b3_items.specs.Items.{is_mark_of, onto_front}
use Rattle.b3_rows.specs.Rows.{before_colon, is_name_text, many_of, one_of, two_of, or_bad, successors_of}

-- ---- a colon at the end

onto_chosen : (b : ℕ) (xs : List ℕ) (x : Bool) → option_map (λ (rest : List ℕ). b ∷ rest) (cond x (Some xs) None) ≡ cond x (Some (b ∷ xs)) None
onto_chosen b xs true = refl
onto_chosen b xs false = refl

colon_last : (xs : List ℕ) (b : ℕ) → before_colon (xs ++ b ∷ []) ≡ cond (b == 58) (Some xs) None
unfolding before_colon
colon_last [] b = refl
colon_last (c ∷ []) b = onto_chosen c [] (b == 58)
colon_last (c ∷ d ∷ xs) b = ap (option_map (λ (rest : List ℕ). c ∷ rest)) (colon_last (d ∷ xs) b) ∙ onto_chosen c (d ∷ xs) (b == 58)

pub colon_yes : (text xs : List ℕ) (b : ℕ) → text ≡ xs ++ b ∷ [] → b ≡ 58 → before_colon text ≡ Some xs
colon_yes text xs b e is = let test : (b == 58) ≡ true = eq-eqb b 58 is in ap before_colon e ∙ colon_last xs b ∙ rw test refl

pub colon_no : (text xs : List ℕ) (b : ℕ) → text ≡ xs ++ b ∷ [] → b ≢ 58 → before_colon text ≡ None
colon_no text xs b e is = let test : (b == 58) ≡ false = grind (arith, nat_tests) in ap before_colon e ∙ colon_last xs b ∙ rw test refl

pub colon_none : (text : List ℕ) → length text ≡ 0 → before_colon text ≡ None
unfolding before_colon
colon_none text e = rw (nil_from_length text e) refl

-- ---- successors

pub many_none : many_of [] ≡ None
unfolding many_of
many_none = refl

pub many_last : (t : List ℕ) → many_of (t ∷ []) ≡ option_map (λ n. n ∷ []) (plain_after (codes "fallThrough:#") t)
unfolding many_of
many_last t = refl

pub many_bad : (t mark : List ℕ) (ts : List (List ℕ)) → is_mark_of 44 mark ≡ false → many_of (t ∷ mark ∷ ts) ≡ None
unfolding many_of
many_bad t mark ts h = rw h refl

pub many_more : (t mark : List ℕ) (ts : List (List ℕ)) → is_mark_of 44 mark ≡ true
    → many_of (t ∷ mark ∷ ts) ≡ option_and_then (λ n. onto_front (n ∷ []) (many_of ts)) (plain_after (codes "#") t)
unfolding many_of
many_more t mark ts h = rw h refl

pub front_one : (front : List ℕ) (n : ℕ) → onto_front front (Some (n ∷ [])) ≡ Some (front ++ n ∷ [])
front_one front n = refl

pub successors_none : successors_of [] ≡ NoSuccessors
unfolding successors_of
successors_none = refl

pub successors_some : (t : List ℕ) (ts : List (List ℕ)) → successors_of (t ∷ ts)
    ≡ or_bad (option_or (one_of (t ∷ ts)) (option_or (two_of (t ∷ ts)) (option_map Many (many_of (t ∷ ts)))))
unfolding successors_of
successors_some t ts = refl

-- ---- names

test_of_name : (name : List ℕ) → IsName name → is_name_text name ≡ true
unfolding is_name_text
test_of_name name h = rw (le-leb (length name) 255 h.short, h.begin, h.all) refl

short_of : (n : ℕ) → nat_le n 255 ≡ true → n ≤ 255
short_of n h = grind (arith, nat_tests)

name_of_test : (name : List ℕ) → is_name_text name ≡ true → IsName name
unfolding is_name_text
name_of_test name h =
    let last = and_parts (nat_le (length name) 255 && begins_name name) (list_all may_stand_in_name name) h in
    let both = and_parts (nat_le (length name) 255) (begins_name name) last.0 in
    record { begin = both.1; all = last.1; short = short_of (length name) both.0 }

tests_agree : (a b : Bool) → (a ≡ true → b ≡ true) → (b ≡ true → a ≡ true) → a ≡ b
tests_agree true true f g = refl
tests_agree true false f g = sym (f refl)
tests_agree false true f g = g refl
tests_agree false false f g = refl

pub name_tested : (name : List ℕ) (b : Bool) → (IsTrue b ↔ IsName name) → b ≡ is_name_text name
name_tested name b h = tests_agree b (is_name_text name) (λ e. test_of_name name (h.0 e)) (λ e. h.1 (name_of_test name e))

-- a target more in front of what follows
pub targets_again : (front : List ℕ) (n : ℕ) (more : Option (List ℕ)) → onto_front (front ++ n ∷ []) more ≡ onto_front front (onto_front (n ∷ []) more)
targets_again front n None = refl
targets_again front n (Some ns) = ap Some (append_assoc front (n ∷ []) ns)
