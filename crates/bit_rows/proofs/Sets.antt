-- The numbers below a bound that pass a test, as a set.
use Rattle.std.proofs.Common.{◌≡◌, ℕ, zero, suc, ◌+◌, ◌/◌, ◌<◌, inl, inr, Bool, true, false, not, ◌&&◌, ◌||◌, cond, ltb, eqb, arith, sym, ◌∙◌, ap, refl, nat_eq, count_ones, ◌^◌}
use Rattle.std.proofs.lemmas.Bool.{cases_order, lt-ltb, le-ltb, eq-eqb, ne_eqb, cases_Bool}
use Rattle.std.specs.Ordering.{nat_cmp}
use Rattle.std.specs.Cmp.{nat_cmp_total, unsigned_tied}
use Rattle.std.specs.FinSet as set
use Rattle.std.specs.Int.{bit_at}
use lib.Count.{ones, ones_step}
use native.Mathlib.Nat.{pow-suc}
use Rattle.std.proofs.lemmas.Nat.Bits.{bit_at-suc, bit_at_lowest, bit_at-lt}
use Rattle.bit_rows.specs.BitRows.{BitSet}
use Rattle.bit_rows.specs.Words.{passing}

pub ap2 : {A B C : Type 0} (f : A → B → C) {a a' : A} {b b' : B} → a ≡ a' → b ≡ b' → f a b ≡ f a' b'
ap2 f {a} {a'} {b} {b'} p q = ap (λ x. f x b) p ∙ ap (λ y. f a' y) q

pub contains-insert_nat : (s : BitSet) (k q : ℕ) → set.contains (set.insert s k) q ≡ (eqb q k || set.contains s q)
contains-insert_nat s k q = set.contains-insert nat_cmp_total s k q ∙ ap (λ b. b || set.contains s q) (unsigned_tied q k)

pub contains-remove_nat : (s : BitSet) (k q : ℕ) → set.contains (set.remove s k) q ≡ (not (eqb q k) && set.contains s q)
contains-remove_nat s k q = set.contains-remove nat_cmp_total s k q ∙ ap (λ b. not b && set.contains s q) (unsigned_tied q k)

-- one more number, which passes or does not
passes : (p : ℕ → Bool) (n q : ℕ) → p n ≡ true → (eqb q n || (ltb q n && p q)) ≡ (ltb q (suc n) && p q)
passes p n q holds =
    elim (cases_order q n) [
      | inl e ↦ ap (λ b. b || (ltb q n && p q)) (eq-eqb q n e) ∙ sym (ap2 (λ x y. x && y) (lt-ltb q (suc n) (omega arith)) (ap p e ∙ holds))
      | inr r ↦ elim r [
        | inl lt ↦ ap (λ b. b || (ltb q n && p q)) (ne_eqb q n (λ e. omega arith)) ∙ ap (λ b. b && p q) (lt-ltb q n lt ∙ sym (lt-ltb q (suc n) (omega arith)))
        | inr gt ↦ ap (λ b. b || (ltb q n && p q)) (ne_eqb q n (λ e. omega arith)) ∙ ap (λ b. b && p q) (le-ltb q n (omega arith) ∙ sym (le-ltb q (suc n) (omega arith)))
      ]
    ]

fails : (p : ℕ → Bool) (n q : ℕ) → p n ≡ false → (ltb q n && p q) ≡ (ltb q (suc n) && p q)
fails p n q lacks =
    elim (cases_order q n) [
      | inl e ↦ ap (λ b. b && p q) (le-ltb q n (omega arith)) ∙ sym (ap2 (λ x y. x && y) (lt-ltb q (suc n) (omega arith)) (ap p e ∙ lacks))
      | inr r ↦ elim r [
        | inl lt ↦ ap (λ b. b && p q) (lt-ltb q n lt ∙ sym (lt-ltb q (suc n) (omega arith)))
        | inr gt ↦ ap (λ b. b && p q) (le-ltb q n (omega arith) ∙ sym (le-ltb q (suc n) (omega arith)))
      ]
    ]

pub contains-passing : (p : ℕ → Bool) (n q : ℕ) → set.contains (passing p n) q ≡ (ltb q n && p q)
unfolding passing
contains-passing p zero q = set.contains-empty nat_cmp q ∙ sym (ap (λ b. b && p q) (le-ltb q 0 (omega arith)))
contains-passing p (suc n) q =
    elim (cases_Bool (p n)) [
      | inl holds ↦ ap (λ b. set.contains (cond b (set.insert (passing p n) n) (passing p n)) q) holds
          ∙ contains-insert_nat (passing p n) n q ∙ ap (λ b. eqb q n || b) (contains-passing p n q) ∙ passes p n q holds
      | inr lacks ↦ ap (λ b. set.contains (cond b (set.insert (passing p n) n) (passing p n)) q) lacks ∙ contains-passing p n q ∙ fails p n q lacks
    ]

pub passing-same : (p r : ℕ → Bool) (n : ℕ) → ((q : ℕ) → q < n → p q ≡ r q) → passing p n ≡ passing r n
unfolding passing
passing-same p r zero same = refl
passing-same p r (suc n) same =
    ap2 (λ b s. cond b (set.insert s n) s) (same n (omega arith)) (passing-same p r n (λ q h. same q (omega arith)))

abbrev pub one_if : Bool → ℕ
one_if b = cond b 1 0

-- how many numbers below n pass p
abbrev pub count_below : (ℕ → Bool) → ℕ → ℕ
count_below p zero = 0
count_below p (suc n) = one_if (p n) + count_below p n

pub len-passing : (p : ℕ → Bool) (n : ℕ) → set.len (passing p n) ≡ count_below p n
unfolding passing
len-passing p zero = set.len-empty nat_cmp
len-passing p (suc n) =
    let new : set.contains (passing p n) n ≡ false = contains-passing p n n ∙ ap (λ b. b && p n) (le-ltb n n (omega arith)) in
    elim (cases_Bool (p n)) [
      | inl holds ↦ ap (λ b. set.len (cond b (set.insert (passing p n) n) (passing p n))) holds
          ∙ set.len-insert nat_cmp_total (passing p n) n
          ∙ ap (λ b. cond b (set.len (passing p n)) (set.len (passing p n) + 1)) new
          ∙ omega (arith, len-passing p n, ap one_if holds)
      | inr lacks ↦ ap (λ b. set.len (cond b (set.insert (passing p n) n) (passing p n))) lacks ∙ omega (arith, len-passing p n, ap one_if lacks)
    ]

pub count_below-same : (p r : ℕ → Bool) (n : ℕ) → ((q : ℕ) → q < n → p q ≡ r q) → count_below p n ≡ count_below r n
count_below-same p r zero same = refl
count_below-same p r (suc n) same = ap2 (λ b k. one_if b + k) (same n (omega arith)) (count_below-same p r n (λ q h. same q (omega arith)))

pub count_below-join : (p : ℕ → Bool) (a b t : ℕ) → a + b ≡ t → count_below p t ≡ count_below p a + count_below (λ i. p (a + i)) b
count_below-join p a zero t e = let same : t ≡ a = omega arith in ap (count_below p) same ∙ omega arith
count_below-join p a (suc b) zero e = absurd (omega arith)
count_below-join p a (suc b) (suc t) e =
    let same : t ≡ a + b = omega arith in
    let ih = count_below-join p a b t (omega arith) in
    let last : one_if (p t) ≡ one_if (p (a + b)) = ap (λ i. one_if (p i)) same in
    omega (arith, ih, last)

count_below-front : (p : ℕ → Bool) (n : ℕ) → count_below p (suc n) ≡ one_if (p 0) + count_below (λ i. p (suc i)) n
count_below-front p zero = refl
count_below-front p (suc n) = omega (arith, count_below-front p n)

digit_of : (d : ℕ) → d < 2 → one_if (nat_eq d 1) ≡ d
digit_of zero h = refl
digit_of (suc zero) h = refl
digit_of (suc (suc d)) h = absurd (omega arith)

-- the ones of a word of k bits
pub count_word : (k w : ℕ) → w < 2 ^ k → count_below (λ i. nat_eq (bit_at w i) 1) k ≡ count_ones w
unfolding ones
count_word zero w h =
    let e : w ≡ 0 = omega (arith, h) in
    sym (ap count_ones e)
count_word (suc k) w h =
    count_below-front (λ i. nat_eq (bit_at w i) 1) k
    ∙ ap2 (λ x y. x + y) (digit_of (bit_at w 0) (bit_at-lt w 0) ∙ bit_at_lowest w)
    (count_below-same (λ i. nat_eq (bit_at w (suc i)) 1) (λ i. nat_eq (bit_at (w / 2) i) 1) k (λ q _. ap (λ x. nat_eq x 1) (bit_at-suc w q))
    ∙ count_word k (w / 2) (omega (arith, simp pow-suc at h)))
    ∙ sym (ones_step w)
