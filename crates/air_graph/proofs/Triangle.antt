-- The numbers of pairs.
use Rattle.std.proofs.Common.{◌≡◌, ℕ, zero, suc, ◌+◌, ◌-◌, ◌*◌, ◌/◌, ◌^◌, ◌<◌, ◌≤◌, ◌⊎◌, ◌↔◌, inl, inr, Bool, true, false, cond, eqb, arith, refl, sym, ap, ◌∙◌, subst, ltb}
use Rattle.std.proofs.Math.Nat.{mul-suc, suc-mul}
use Rattle.std.proofs.lemmas.Bool.{cases_lt, eqb-true, eq-eqb, false≢true, le-ltb, lt-ltb, or_cases, or_left, or_right}
use Rattle.std.specs.FinSet as set
use Rattle.bit_rows.specs.BitRows.{BitSet}
use Rattle.bit_rows.proofs.Sets.{contains-insert_nat}
use Rattle.air_graph.specs.Edges.{ArePair, pair_number, pairs_below}

-- twice as many, as a product
twice : (n : ℕ) → pairs_below n + pairs_below n ≡ n * (n - 1)
unfolding pairs_below
twice zero = refl
twice (suc zero) = refl
twice (suc (suc n)) =
    let more = twice (suc n) in
    let a : suc n * (suc n) ≡ suc n * n + suc n = mul-suc (suc n) n in
    let b : suc (suc n) * (suc n) ≡ suc n * suc n + suc n = suc-mul (suc n) (suc n) in
    let c : suc n * (suc n - 1) ≡ suc n * n = ap (λ k. suc n * k) (omega arith) in
    let d : suc (suc n) * (suc (suc n) - 1) ≡ suc (suc n) * suc n = ap (λ k. suc (suc n) * k) (omega arith) in
    omega (arith, more, a, b, c, d)

pub half : (n : ℕ) → n * (n - 1) / 2 ≡ pairs_below n
half n = let e = twice n in omega (arith, e)

pub few_pairs : (n : ℕ) → n ≤ 2 ^ 17 → pairs_below n ≤ n * 2 ^ 17
unfolding pairs_below
few_pairs zero le = omega arith
few_pairs (suc n) le = let more = few_pairs n (omega (arith, le)) in omega (arith, more, le)

-- the pairs with a number below m end before those with m
pub rises : (m n : ℕ) → m < n → pairs_below m + m ≤ pairs_below n
unfolding pairs_below
rises m zero lt = absurd (omega (arith, lt))
rises m (suc n) lt =
    elim (cases_lt m n) [
      | inl less ↦ let more = rises m n less in omega (arith, more)
      | inr le ↦
          let same : m ≡ n = omega (arith, lt, le) in
          let pairs : pairs_below m ≡ pairs_below n = ap pairs_below same in
          omega (arith, pairs, same)
    ]

-- a pair's number is below how many pairs there are
pub within : (i j n : ℕ) → i < j → j < n → pair_number i j < pairs_below n
within i j n order lt = let r = rises j n lt in omega (arith, r, order)

-- different pairs have different numbers
pub same_pair : (i j x y : ℕ) → i < j → x < y → pair_number x y ≡ pair_number i j → (x ≡ i) × (y ≡ j)
same_pair i j x y a b e =
    elim (cases_lt y j) [
      | inl lt ↦ let r = rises y j lt in absurd (omega (arith, r, e, b))
      | inr le ↦ elim (cases_lt j y) [
        | inl lt ↦ let r = rises j y lt in absurd (omega (arith, r, e, a))
        | inr le' ↦
            let same : y ≡ j = omega (arith, le, le') in
            let pairs : pairs_below y ≡ pairs_below j = ap pairs_below same in
            (omega (arith, pairs, e), same)
      ]
    ]

-- ---- an edge is added

-- the pair of two numbers, in rising order
abbrev pub pair_of : ℕ → ℕ → ℕ
pair_of i j = cond (ltb i j) (pair_number i j) (pair_number j i)

abbrev pub edge_in : BitSet → ℕ → ℕ → Bool
edge_in pairs i j = cond (ltb i j) (set.contains pairs (pair_number i j)) (cond (ltb j i) (set.contains pairs (pair_number j i)) false)

below-in : (pairs : BitSet) (i j : ℕ) → i < j → edge_in pairs i j ≡ set.contains pairs (pair_number i j)
below-in pairs i j lt = rw (lt-ltb i j lt) refl

above-in : (pairs : BitSet) (i j : ℕ) → j < i → edge_in pairs i j ≡ set.contains pairs (pair_number j i)
above-in pairs i j lt = rw (le-ltb i j (omega (arith, lt)), lt-ltb j i lt) refl

same-in : (pairs : BitSet) (i : ℕ) → edge_in pairs i i ≡ false
same-in pairs i = rw (le-ltb i i (omega arith)) refl

pub added_number : (pairs : BitSet) (n q : ℕ) → (set.contains (set.insert pairs n) q ≡ true) ↔ ((set.contains pairs q ≡ true) ⊎ (q ≡ n))
added_number pairs n q = (
  λ t. elim (or_cases (eqb q n) (set.contains pairs q) (sym (contains-insert_nat pairs n q) ∙ t)) [
    | inl e ↦ inr (eqb-true q n e)
    | inr e ↦ inl e
  ],
  λ t. contains-insert_nat pairs n q ∙ elim t [
    | inl e ↦ or_right (eqb q n) (set.contains pairs q) e
    | inr e ↦ or_left (eqb q n) (set.contains pairs q) (eq-eqb q n e)
  ],
)

-- for i < j
added_up : (pairs : BitSet) (i j x y : ℕ) → i < j → (edge_in (set.insert pairs (pair_number i j)) x y ≡ true) ↔ ((edge_in pairs x y ≡ true) ⊎ ArePair i j x y)
added_up pairs i j x y lt =
    let more : BitSet = set.insert pairs (pair_number i j) in
    elim (cases_lt x y) [
      | inl up ↦
          let both = added_number pairs (pair_number i j) (pair_number x y) in (
            λ t. elim (both.0 (sym (below-in more x y up) ∙ t)) [
              | inl e ↦ inl (below-in pairs x y up ∙ e)
              | inr e ↦ inr (inl (same_pair i j x y lt up e))
            ],
            λ t. below-in more x y up ∙ both.1 (elim t [
              | inl e ↦ inl (sym (below-in pairs x y up) ∙ e)
              | inr p ↦ elim p [
                | inl q ↦ inr (rw (q.0, q.1) refl)
                | inr q ↦ absurd (omega (arith, up, lt, q.0, q.1))
              ]
            ]),
          )
      | inr le ↦ elim (cases_lt y x) [
        | inl down ↦
            let both = added_number pairs (pair_number i j) (pair_number y x) in (
              λ t. elim (both.0 (sym (above-in more x y down) ∙ t)) [
                | inl e ↦ inl (above-in pairs x y down ∙ e)
                | inr e ↦ let s = same_pair i j y x lt down e in inr (inr (s.1, s.0))
              ],
              λ t. above-in more x y down ∙ both.1 (elim t [
                | inl e ↦ inl (sym (above-in pairs x y down) ∙ e)
                | inr p ↦ elim p [
                  | inl q ↦ absurd (omega (arith, down, lt, q.0, q.1))
                  | inr q ↦ inr (rw (q.0, q.1) refl)
                ]
              ]),
            )
        | inr le' ↦
            let same : x ≡ y = omega (arith, le, le') in
            let none = λ (s : BitSet). (subst (λ (z : ℕ). edge_in s x z ≡ false) same (same-in s x)) in (
              λ t. absurd (false≢true (sym (none more) ∙ t)),
              λ t. absurd (elim t [
                | inl e ↦ false≢true (sym (none pairs) ∙ e)
                | inr p ↦ elim p [ inl q ↦ omega (arith, same, lt, q.0, q.1) | inr q ↦ omega (arith, same, lt, q.0, q.1) ]
              ]),
            )
      ]
    ]

turned : (i j x y : ℕ) → ArePair j i x y → ArePair i j x y
turned i j x y p = elim p [ inl q ↦ inr q | inr q ↦ inl q ]

pub added : (pairs : BitSet) (i j x y : ℕ) → (i ≡ j → ⊥) → (edge_in (set.insert pairs (pair_of i j)) x y ≡ true) ↔ ((edge_in pairs x y ≡ true)
    ⊎ ArePair i j x y)
added pairs i j x y differ =
    elim (cases_lt i j) [
      | inl lt ↦ rw (lt-ltb i j lt) (added_up pairs i j x y lt)
      | inr le ↦
          let lt : j < i = omega (arith, le, differ) in
          let both = added_up pairs j i x y lt in
          rw (le-ltb i j (omega (arith, lt))) (
            λ t. elim (both.0 t) [ inl e ↦ inl e | inr p ↦ inr (turned i j x y p) ],
            λ t. both.1 (elim t [ inl e ↦ inl e | inr p ↦ inr (turned j i x y p) ]),
          )
    ]
