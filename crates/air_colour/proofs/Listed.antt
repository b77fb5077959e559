-- Counting neighbours by their list.
use Rattle.std.proofs.Common.{◌≡◌, ℕ, zero, suc, ◌+◌, ◌<◌, ◌≤◌, inl, inr, Bool, true, false, cond, not, ◌&&◌, ◌||◌, eqb, List, [], ◌∷◌, take, arith, refl, sym, ◌∙◌, ap, subst}
use Rattle.std.specs.Prelude.{Contains, count_by}
use Rattle.std.proofs.lemmas.Bool.{cases_eq, eq-eqb, ne_eqb, false_from_ne_true}
use Rattle.std.proofs.lemmas.List.Sums.{sum_by-cons}
use Rattle.b3_base.proofs.Lists.{Contains-later}
use Rattle.b3_base.proofs.Booleans.{same_tests}
use mathlib.Core.Bool.{and-true, and-false}
use Rattle.air_graph.specs.Edges.{IsListOf, IsOnce}
use Rattle.air_graph.specs.Walk.{in_list}
use Rattle.air_graph.proofs.Adding.{listed}
use Rattle.air_colour.specs.Interference.{count, one}
use Rattle.air_colour.proofs.Counting.{but, but_gone, but_same, count_none, count_same, count_without}

one_cond : (b : Bool) → one b ≡ cond b 1 0
one_cond true = refl
one_cond false = refl

head-in : (y : ℕ) (ys : List ℕ) → Contains (y ∷ ys) y
head-in y ys = (0, omega arith, refl)

in_cons : (y : ℕ) (ys : List ℕ) (x : ℕ) → in_list (y ∷ ys) x ≡ (eqb y x || in_list ys x)
in_cons y ys x = refl

once_count : (p : ℕ → Bool) (list : List ℕ) (n : ℕ) → IsOnce list → ((x : ℕ) → Contains list x → x < n)
    → count (λ x. p x && in_list list x) n ≡ count_by p list
unfolding IsOnce
once_count p [] n once below = count_none (λ x. p x && false) n (λ x _. and-false (p x))
once_count p (y ∷ ys) n (first, more) below =
    let P : ℕ → Bool = λ x. p x && (eqb y x || in_list ys x) in
    let lt : y < n = below y (head-in y ys) in
    let rest = once_count p ys n more (λ x i. below x (Contains-later y ys x i)) in
    let here : P y ≡ p y = ap (λ (b : Bool). p y && (b || in_list ys y)) (eq-eqb y y refl) ∙ and-true (p y) in
    let none : in_list ys y ≡ false = false_from_ne_true (in_list ys y) (λ t. first ((listed ys y).0 t)) in
    let others : count (but P y) n ≡ count (λ x. p x && in_list ys x) n =
    count_same (but P y) (λ x. p x && in_list ys x) n (λ x _. elim (cases_eq x y) [
      | inl e ↦ subst (λ (z : ℕ). but P y z ≡ (p z && in_list ys z)) (sym e)
          (but_gone P y ∙ sym (ap (λ (b : Bool). p y && b) none ∙ and-false (p y)))
      | inr ne ↦ but_same P y x ne ∙ ap (λ (b : Bool). p x && (b || in_list ys x)) (ne_eqb y x (λ e. ne (sym e)))
    ]) in
    count_same (λ x. p x && in_list (y ∷ ys) x) P n (λ x _. ap (λ (b : Bool). p x && b) (in_cons y ys x))
    ∙ count_without P y n lt ∙ ap (λ (b : Bool). one b + count (but P y) n) here
    ∙ ap (λ (m : ℕ). one (p y) + m) (others ∙ rest) ∙ ap (λ (m : ℕ). m + count_by p ys) (one_cond (p y)) ∙ sym (sum_by-cons (λ x. cond (p x) 1 0) y ys)

pub listed_count : (p q : ℕ → Bool) (list : List ℕ) (n : ℕ) → IsListOf q list → ((x : ℕ) → Contains list x → x < n)
    → count (λ x. p x && q x) n ≡ count_by p list
listed_count p q list n is below =
    count_same (λ x. p x && q x) (λ x. p x && in_list list x) n (λ x _.
    ap (λ (b : Bool). p x && b) (same_tests (q x) (in_list list x) (λ t. (listed list x).1 ((is.all x).1 t)) (λ t. (is.all x).0 ((listed list x).0 t))))
    ∙ once_count p list n is.once below

-- ---- neighbours of one of two classes

split_bits : (l a b s : Bool) → one ((l && (a || b)) && s) ≡ one ((l && s) && a) + one (((l && s) && not a) && b)
split_bits true true true true = refl
split_bits true true true false = refl
split_bits true true false true = refl
split_bits true true false false = refl
split_bits true false true true = refl
split_bits true false true false = refl
split_bits true false false true = refl
split_bits true false false false = refl
split_bits false a b s = refl

pub split_count : (l a b s : ℕ → Bool) (n : ℕ) → count (λ x. (l x && (a x || b x)) && s x) n
    ≡ count (λ x. (l x && s x) && a x) n + count (λ x. ((l x && s x) && not (a x)) && b x) n
split_count l a b s zero = refl
split_count l a b s (suc n) =
    let rest = split_count l a b s n in
    let here = split_bits (l n) (a n) (b n) (s n) in
    omega (arith, rest, here)

-- a front has no more that pass
pub count_front : (p : ℕ → Bool) (xs : List ℕ) (i : ℕ) → count_by p (take i xs) ≤ count_by p xs
count_front p xs zero = omega arith
count_front p [] (suc i) = omega arith
count_front p (x ∷ xs) (suc i) =
    let more = count_front p xs i in
    let all = sum_by-cons (λ x. cond (p x) 1 0) x xs in
    let front = sum_by-cons (λ x. cond (p x) 1 0) x (take i xs) in
    omega (arith, more, all, front)
