-- A run that follows another one whose steps take words from a list, from a first step on; a fact holds of each moment, with an
-- upper state behind which nothing is lost that isn't lost at the end.
use Rattle.std.proofs.Common.{◌≡◌, ℕ, zero, suc, ◌+◌, ◌-◌, ◌*◌, ◌/◌, ◌<◌, ◌≤◌, List, [], ◌++◌, refl, sym, ap, ◌∙◌, subst, arith, append_assoc}
use Rattle.b3_base.specs.Run.{SimulatesFrom, iterate}
use Rattle.b3_base.proofs.Run.{iterate-add, iterate-keeps, run_simulated_from}

module _ {A B : Type 0} (up : A × List ℕ → A × List ℕ) (low : B → B) (R : A → B → Type 0) (P : A → B → Type 0) (Lost : A → Type 0) (place : A → ℕ)
    (b c : ℕ) where
  -- one upper step, by some words, is a few lower ones
  pub record OneStep (a : A) (s : B) : Type 0 where
    pub words : List ℕ
    pub next : A
    pub steps : ℕ
    pub is : (rest : List ℕ) → up (a, words ++ rest) ≡ (next, rest)
    pub most : steps ≤ c
    pub proper : (i : ℕ) → i < steps → P next (iterate low i s)
    pub related : R next (iterate low steps s)

  pub record FollowsBy : Type 0 where
    pub below : (a : A) (s : B) → R a s → place a < b
    pub step : (a : A) (s : B) → R a s → OneStep a s
    pub rises : (a : A) (s : B) (r : R a s) → (step a s r).steps ≡ 0 → place a < place (step a s r).next
    pub lost : (a : A) (s : B) (r : R a s) → Lost a → Lost (step a s r).next

  module _ (by : FollowsBy) (a₀ : A) (s₀ : B) (first : OneStep a₀ s₀) (some : 1 ≤ first.steps) where
    record Both : Type 0 where
      upper : A
      lower : B
      related : R upper lower

    -- before the first step, or behind it
    data Upper : Type 0 where
      Before : Upper
      On : (both : Both) → Upper

    first_both : Both
    first_both = record { upper = first.next; lower = iterate low first.steps s₀; related = first.related }

    next_both : Both → Both
    next_both x = let one = by.step x.upper x.lower x.related in record { upper = one.next; lower = iterate low one.steps x.lower; related = one.related }

    next_upper : Upper → Upper
    next_upper Before = On first_both
    next_upper (On x) = On (next_both x)

    abbrev IsOf : Upper → B → Type 0
    IsOf Before s = ⊥
    IsOf (On x) s = x.lower ≡ s

    abbrev Holds : Upper → B → Type 0
    Holds Before s = ⊥
    Holds (On x) s = P x.upper s

    abbrev IsLost : Upper → Type 0
    IsLost Before = ⊥
    IsLost (On x) = Lost x.upper

    abbrev place_of : Upper → ℕ
    place_of Before = 0
    place_of (On x) = place x.upper

    below_of : (a : Upper) (s : B) → IsOf a s → place_of a < b
    below_of Before s r = absurd r
    below_of (On x) s r = by.below x.upper x.lower x.related

    step_of : (a : Upper) (s : B) → IsOf a s
        → (j : ℕ) × (j ≤ c) × (j ≡ 0 → place_of a < place_of (next_upper a)) × ((i : ℕ) → i < j → Holds (next_upper a) (iterate low i s))
        × IsOf (next_upper a) (iterate low j s)
    unfolding next_upper next_both
    step_of Before s r = absurd r
    step_of (On x) s r =
        let one = by.step x.upper x.lower x.related in (
          one.steps,
          one.most,
          by.rises x.upper x.lower x.related,
          λ i less. subst (λ (t : B). P one.next (iterate low i t)) r (one.proper i less),
          ap (iterate low one.steps) r,
        )

    simulates : SimulatesFrom next_upper low IsOf Holds place_of b c Before s₀
    unfolding next_upper first_both
    simulates = record {
      first = (first.steps, some, first.most, first.proper, refl);
      onward = record { below = below_of; step = step_of };
    }

    stays_lost : (a : Upper) → IsLost a → IsLost (next_upper a)
    unfolding next_upper next_both
    stays_lost Before lost = absurd lost
    stays_lost (On x) lost = by.lost x.upper x.lower x.related lost

    lost_later : (m n : ℕ) (a : Upper) → m ≤ n → IsLost (iterate next_upper m a) → IsLost (iterate next_upper n a)
    lost_later m n a le lost =
        let split : m + (n - m) ≡ n = omega arith in
        subst IsLost (sym (iterate-add next_upper m (n - m) a) ∙ ap (λ k. iterate next_upper k a) split)
        (iterate-keeps next_upper IsLost stays_lost (n - m) (iterate next_upper m a) lost)

    -- the words, from a state behind the first step
    record Collected (n : ℕ) (x : Both) : Type 0 where
      words : List ℕ
      last : Both
      is : (rest : List ℕ) → iterate up n (x.upper, words ++ rest) ≡ (last.upper, rest)
      comes : iterate next_upper n (On x) ≡ On last

    collected : (n : ℕ) (x : Both) → Collected n x
    unfolding iterate next_upper next_both
    collected zero x = record { words = []; last = x; is = λ rest. refl; comes = refl }
    collected (suc n) x =
        let one = by.step x.upper x.lower x.related in
        let more = collected n (next_both x) in
        record {
          words = one.words ++ more.words;
          last = more.last;
          is = λ rest. ap (λ ws. iterate up n (up (x.upper, ws))) (append_assoc one.words more.words rest) ∙ ap (iterate up n) (one.is (more.words ++ rest))
              ∙ more.is rest;
          comes = more.comes;
        }

    -- n upper steps, at least one, by some words
    pub record Followed (n : ℕ) : Type 0 where
      pub words : List ℕ
      pub next : A
      pub steps : ℕ
      pub is : (rest : List ℕ) → iterate up n (a₀, words ++ rest) ≡ (next, rest)
      pub least : n / b ≤ steps
      pub most : steps ≤ n * c
      pub proper : (i : ℕ) → i < steps → (mid : A) × P mid (iterate low i s₀) × (Lost mid → Lost next)
      pub related : R next (iterate low steps s₀)

    passed : (n i : ℕ) (last : Both) → iterate next_upper n Before ≡ On last → (a : Upper) → Holds a (iterate low i s₀)
        → (IsLost a → IsLost (iterate next_upper n Before))
        → (mid : A) × P mid (iterate low i s₀) × (Lost mid → Lost last.upper)
    passed n i last comes Before holds later = absurd holds
    passed n i last comes (On x) holds later = (x.upper, holds, λ lost. subst IsLost comes (later lost))

    comes_to : (n : ℕ) (list : Collected n first_both) → iterate next_upper (suc n) Before ≡ On list.last
    unfolding iterate next_upper
    comes_to n list = list.comes

    words_are : (n : ℕ) (list : Collected n first_both) (rest : List ℕ) → iterate up (suc n) (a₀, (first.words ++ list.words) ++ rest) ≡ (list.last.upper, rest)
    unfolding iterate first_both
    words_are n list rest = ap (λ ws. iterate up n (up (a₀, ws))) (append_assoc first.words list.words rest)
        ∙ ap (iterate up n) (first.is (list.words ++ rest)) ∙ list.is rest

    pub followed : (n : ℕ) → 1 ≤ n → Followed n
    followed zero some_step = absurd (omega arith)
    followed (suc n) some_step =
        let run = run_simulated_from next_upper low IsOf Holds place_of b c Before s₀ simulates (suc n) some_step in
        let list = collected n first_both in
        let comes = comes_to n list in
        record {
          words = first.words ++ list.words;
          next = list.last.upper;
          steps = run.0;
          is = words_are n list;
          least = run.1;
          most = run.2;
          proper = λ i less.
              let p = run.3 i less in
              passed (suc n) i list.last comes (iterate next_upper p.0 Before) p.2 (λ lost. lost_later p.0 (suc n) Before p.1 lost);
          related = subst (R list.last.upper) (subst (λ a. IsOf a (iterate low run.0 s₀)) comes run.4) list.last.related;
        }
