-- One more class is given a register.
use Rattle.std.proofs.Common.{◌≡◌, ℕ, ◌+◌, ◌<◌, ◌≤◌, inl, inr, Bool, true, Option, Some, None, List, [], ◌∷◌, ◌++◌, length, get_or, take, drop, arith, refl, sym, ◌∙◌, ap, subst, add-one, get_or-set_same, get_or-set_other, IfSome, IfNone, drop-cons}
use Rattle.std.specs.Prelude.{slice_set}
use Rattle.std.proofs.lemmas.Bool.{cases_eq, false≢true}
use Rattle.std.proofs.lemmas.List.{take_more, take-append-drop, take_all, drop_all}
use Rattle.air_graph.specs.Edges.{EdgeSet}
use Rattle.air_colour.specs.Interference.{Graph, IsIn, take_away}
use Rattle.air_colour.specs.Easy.{left_after}
use Rattle.air_colour.specs.Choosing.{Simplifies, IsGiven, IsChosen}
use Rattle.air_colour.specs.Kept.{has, given_in, IsTaken, IsStart}
use Rattle.air_colour.specs.Chosen.{IsChosenFrom}
use Rattle.air_colour.proofs.Taking.{taken_in, in_taken, taken_differs}

-- ---- what is left of a graph

left_meets : (order : List ℕ) (g : Graph) → (left_after g order).meets ≡ g.meets
left_meets [] g = refl
left_meets (a ∷ rest) g = left_meets rest (take_away g a)

left_names : (order : List ℕ) (g : Graph) → (left_after g order).names ≡ g.names
left_names [] g = refl
left_names (a ∷ rest) g = left_names rest (take_away g a)

left_more : (front : List ℕ) (a : ℕ) (g : Graph) → left_after g (front ++ a ∷ []) ≡ take_away (left_after g front) a
left_more [] a g = refl
left_more (b ∷ rest) a g = left_more rest a (take_away g b)

left_registers : (order : List ℕ) (g : Graph) (k x : ℕ) → Simplifies k g order → IsIn g x → g.register x ≡ true → IsIn (left_after g order) x
left_registers [] g k x s is t = is
left_registers (a ∷ rest) g k x s is t =
    left_registers rest (take_away g a) k x s.1 (taken_in g a x is (λ e. false≢true (sym s.0.free ∙ subst (λ (y : ℕ). g.register y ≡ true) e t))) t

simplifies_after : (front back : List ℕ) (g : Graph) (k : ℕ) → Simplifies k g (front ++ back) → Simplifies k (left_after g front) back
simplifies_after [] back g k s = s
simplifies_after (a ∷ rest) back g k s = simplifies_after rest back (take_away g a) k s.1

-- ---- what is given elsewhere doesn't matter

given_same : (k : ℕ) (g : Graph) (f f' : ℕ → Option ℕ) (a : ℕ) → f a ≡ f' a → ((x : ℕ) → IsIn g x → f x ≡ f' x) → IsGiven k g f a → IsGiven k g f' a
given_same k g f f' a e same choice =
    elim choice [
      | inl one ↦ inl (one.0, one.1, sym e ∙ one.2, λ by. one.3 (by.0, by.1, by.2, same by.0 by.1 ∙ by.3))
      | inr none ↦ inr (sym e ∙ none.0, λ r lt. let by = none.1 r lt in (by.0, by.1, by.2, sym (same by.0 by.1) ∙ by.3))
    ]

chosen_same : (order : List ℕ) (k : ℕ) (g : Graph) (f f' : ℕ → Option ℕ) → ((x : ℕ) → IsIn g x → f x ≡ f' x) → Simplifies k g order → IsChosen k g f order
    → IsChosen k g f' order
chosen_same [] k g f f' same s c = tt
chosen_same (a ∷ rest) k g f f' same s c = (
  given_same k (take_away g a) f f' a (same a s.0.is_in) (λ x is. same x (in_taken g a x is)) c.0,
  chosen_same rest k (take_away g a) f f' (λ x is. same x (in_taken g a x is)) s.1 c.1,
)

-- ---- the step

-- the class a is given the option o in the graph h, of which rest was given before
module _ (k : ℕ) (edges : EdgeSet) (given : List (Option ℕ)) (h : Graph) (a : ℕ) (rest : List ℕ) (o : Option ℕ)
    (meets : h.meets ≡ has edges) (names : h.names ≡ length given) (s : Simplifies k h (a ∷ rest))
    (chosen : IsChosen k (take_away h a) (given_in given) rest) (later : (x r : ℕ) → given_in given x ≡ Some r → IsIn (take_away h a) x) where
  a_below : a < length given
  a_below = let lt = s.0.is_in.0 in omega arith

  here : given_in (slice_set given a o) a ≡ o
  here = get_or-set_same given a o None a_below

  there : (x : ℕ) → (x ≡ a → ⊥) → given_in (slice_set given a o) x ≡ given_in given x
  there x ne = get_or-set_other given a x o None ne

  others : (x : ℕ) → IsIn (take_away h a) x → given_in given x ≡ given_in (slice_set given a o) x
  others x is = sym (there x (taken_differs h a x is))

  is_given : IfSome o (λ r. (r < k) × (IsTaken edges given a r → ⊥)) → IfNone o ((r : ℕ) → r < k → IsTaken edges given a r)
      → IsGiven k (take_away h a) (given_in (slice_set given a o)) a
  is_given some none = cases o refl some none
    where
      cases : (p : Option ℕ) → o ≡ p → IfSome p (λ r. (r < k) × (IsTaken edges given a r → ⊥)) → IfNone p ((r : ℕ) → r < k → IsTaken edges given a r)
          → IsGiven k (take_away h a) (given_in (slice_set given a o)) a
      cases (Some r) e some none =
          inl (
            r,
            some.0,
            here ∙ e,
            λ by.
                let lt = by.1.0 in
                some.1 (by.0, omega arith, sym (ap (λ (m : ℕ → ℕ → Bool). m a by.0) meets) ∙ by.2, others by.0 by.1 ∙ by.3),
          )
      cases None e some none =
          inr (
            here ∙ e,
            λ r lt.
                let by = none r lt in
                let is : IsIn (take_away h a) by.0 = later by.0 r by.3 in
                (by.0, is, ap (λ (m : ℕ → ℕ → Bool). m a by.0) meets ∙ by.2, sym (others by.0 is) ∙ by.3),
          )

  given_step : IfSome o (λ r. (r < k) × (IsTaken edges given a r → ⊥)) → IfNone o ((r : ℕ) → r < k → IsTaken edges given a r)
      → IsChosen k h (given_in (slice_set given a o)) (a ∷ rest)
  given_step some none = (is_given some none, chosen_same rest k (take_away h a) (given_in given) (given_in (slice_set given a o)) others s.1 chosen)

  later_step : (x r : ℕ) → given_in (slice_set given a o) x ≡ Some r → IsIn h x
  later_step x r e = elim (cases_eq x a) [
    | inl same ↦ subst (λ (y : ℕ). IsIn h y) (sym same) s.0.is_in
    | inr ne ↦ in_taken h a x (later x r (sym (there x ne) ∙ e))
  ]

drop_more : (order : List ℕ) (i : ℕ) → i < length order → drop i order ≡ get_or order i 0 ∷ drop (i + 1) order
drop_more order i lt = rw add-one (drop-cons order i 0 lt)

pub chosen_step : (k : ℕ) (edges : EdgeSet) (given : List (Option ℕ)) (order : List ℕ) (i : ℕ) (g : Graph) (o : Option ℕ)
    → g.meets ≡ has edges → g.names ≡ length given → Simplifies k g order → i < length order
    → IsChosenFrom k g (given_in given) order (i + 1)
    → IfSome o (λ r. (r < k) × (IsTaken edges given (get_or order i 0) r → ⊥)) → IfNone o ((r : ℕ) → r < k → IsTaken edges given (get_or order i 0) r)
    → IsChosenFrom k g (given_in (slice_set given (get_or order i 0) o)) order i
chosen_step k edges given order i g o meets names s lt from some none =
    let a : ℕ = get_or order i 0 in
    let h : Graph = left_after g (take i order) in
    let more : left_after g (take (i + 1) order) ≡ take_away h a = ap (left_after g) (take_more order i 0 lt) ∙ left_more (take i order) a g in
    let cut : drop i order ≡ a ∷ drop (i + 1) order = drop_more order i lt in
    let whole : Simplifies k g (take i order ++ drop i order) = subst (λ (l : List ℕ). Simplifies k g l) (sym (take-append-drop i order)) s in
    let s' : Simplifies k h (a ∷ drop (i + 1) order) = subst (λ (l : List ℕ). Simplifies k h l) cut (simplifies_after (take i order)
    (drop i order) g k whole) in
    let chosen' : IsChosen k (take_away h a) (given_in given) (drop (i + 1) order) = subst (λ (x : Graph). IsChosen k x (given_in given) (drop
    (i + 1) order)) more from.chosen in
    let later' : (x r : ℕ) → given_in given x ≡ Some r → IsIn (take_away h a) x = λ x r e. subst (λ (y : Graph). IsIn y x) more (from.later x r e) in
    record {
      chosen = subst (λ (l : List ℕ). IsChosen k h (given_in (slice_set given a o)) l) (sym cut)
          (given_step k edges given h a (drop (i + 1) order) o (left_meets (take i order) g ∙ meets) (left_names (take i order) g
          ∙ names) s' chosen' later' some none);
      later = later_step k edges given h a (drop (i + 1) order) o (left_meets (take i order) g ∙ meets) (left_names (take i order) g ∙ names) s' chosen' later';
    }

-- at first none is given but those that hold registers
pub chosen_first : (k : ℕ) (given : ℕ → Option ℕ) (order : List ℕ) (n : ℕ) (g : Graph) → Simplifies k g order → IsStart g given → length order ≤ n
    → IsChosenFrom k g given order n
chosen_first k given order n g s start le =
    record {
      chosen = subst (λ (l : List ℕ). IsChosen k (left_after g (take n order)) given l) (sym (drop_all n order le)) tt;
      later = λ x r e. let is = start x r e in
          subst (λ (l : List ℕ). IsIn (left_after g l) x) (sym (take_all n order le)) (left_registers order g k x s is.0 is.1);
    }
