-- The lists of neighbours beside the row of bits.
use Rattle.std.proofs.Common.{◌≡◌, ℕ, suc, ◌<◌, ◌⊎◌, ◌↔◌, inl, inr, Bool, true, false, List, [], ◌∷◌, ◌++◌, length, get_or, replicate, arith, refl, sym, ap, ◌∙◌, subst}
use Rattle.std.specs.Prelude.{Contains}
use Rattle.std.specs.FinSet as set
use Rattle.std.specs.Ordering.{nat_cmp}
use Rattle.std.proofs.lemmas.Bool.{cases_eq, cases_lt, false≢true, le-ltb, lt-ltb}
use Rattle.std.proofs.lemmas.List.{get_or-replicate, length-replicate}
use Rattle.std.proofs.lemmas.List.Elements.{Contains-append_left, Contains-push, Contains-push_cases}
use Rattle.bit_rows.specs.BitRows.{BitSet}
use Rattle.air_graph.specs.Edges.{AreNear, EdgeSet, IsListOf, IsOnce, has_edge, pair_number}
use Rattle.air_graph.proofs.Triangle.{added, pair_of}

abbrev pub no_edges : ℕ → EdgeSet
no_edges n = record { names = n; pairs = set.empty }

pub blank : (e : EdgeSet) (n : ℕ) → e ≡ no_edges n → (x y : ℕ) → has_edge e x y ≡ true → ⊥
blank e n same x y t =
    let none : (q : ℕ) → set.contains (set.empty {K = ℕ} {R = nat_cmp}) q ≡ false = λ q. set.contains-empty nat_cmp q in
    let t' : has_edge (no_edges n) x y ≡ true = subst (λ (s : EdgeSet). has_edge s x y ≡ true) same t in
    elim (cases_lt x y) [
      | inl lt ↦ false≢true (sym (rw (lt-ltb x y lt) (none (pair_number x y))) ∙ t')
      | inr le ↦ elim (cases_lt y x) [
        | inl lt ↦ false≢true (sym (rw (le-ltb x y le, lt-ltb y x lt) (none (pair_number y x))) ∙ t')
        | inr le' ↦ false≢true (sym (rw (le-ltb x y le, le-ltb y x le') refl) ∙ t')
      ]
    ]

-- ---- lists

not_in_none : (x : ℕ) → Contains [] x → ⊥
not_in_none x c = let lt = c.1 in omega (arith, lt)

behind : (y : ℕ) (ys : List ℕ) (x : ℕ) → Contains ys x → Contains (y ∷ ys) x
behind y ys x (k, lt, e) = (suc k, omega (arith, lt), e)

pushed_once : (xs : List ℕ) (x : ℕ) → IsOnce xs → (Contains xs x → ⊥) → IsOnce (xs ++ x ∷ [])
unfolding IsOnce
pushed_once [] x once none = (not_in_none x, tt)
pushed_once (y ∷ ys) x (first, more) none = (
  λ c. elim (Contains-push_cases ys x y c) [ inl i ↦ first i | inr e ↦ none (0, omega arith, sym e) ],
  pushed_once ys x more (λ c. none (behind y ys x c)),
)

pub grown : (p q : ℕ → Bool) (list : List ℕ) (x : ℕ) → IsListOf p list → (p x ≡ true → ⊥)
    → ((z : ℕ) → (q z ≡ true) ↔ ((p z ≡ true) ⊎ (z ≡ x))) → IsListOf q (list ++ x ∷ [])
grown p q list x is none both = record {
  all = λ z. (
    λ c. (both z).1 (elim (Contains-push_cases list x z c) [ inl i ↦ inl ((is.all z).0 i) | inr e ↦ inr (sym e) ]),
    λ t. elim ((both z).0 t) [
      | inl u ↦ Contains-append_left list (x ∷ []) z ((is.all z).1 u)
      | inr e ↦ subst (λ (k : ℕ). Contains (list ++ x ∷ []) k) (sym e) (Contains-push list x)
    ],
  );
  once = pushed_once list x is.once (λ c. none ((is.all x).0 c));
}

same_list : (p q : ℕ → Bool) (list : List ℕ) → IsListOf p list → ((z : ℕ) → (q z ≡ true) ↔ (p z ≡ true)) → IsListOf q list
same_list p q list is both = record {
  all = λ z. (λ c. (both z).1 ((is.all z).0 c), λ t. (is.all z).1 ((both z).0 t));
  once = is.once;
}

pub none_near : (n : ℕ) → AreNear (no_edges n) (replicate n [])
unfolding IsOnce
none_near n = record {
  long = length-replicate n [];
  lists = λ i lt. subst (λ (l : List ℕ). IsListOf (has_edge (no_edges n) i) l) (sym (get_or-replicate n i [] [] lt)) (record {
    all = λ x. (λ c. absurd (not_in_none x c), λ t. absurd (blank (no_edges n) n refl i x t));
    once = tt;
  });
  below = λ i x lt c. absurd (not_in_none x (subst (λ (l : List ℕ). Contains l x) (get_or-replicate n i [] [] lt) c));
}

pub near_kept : (e : EdgeSet) (near near' : List (List ℕ)) → AreNear e near → length near' ≡ length near
    → ((a : ℕ) → get_or near' a [] ≡ get_or near a []) → AreNear e near'
near_kept e near near' is long same = record {
  long = long ∙ is.long;
  lists = λ i lt. subst (λ (l : List ℕ). IsListOf (has_edge e i) l) (sym (same i)) (is.lists i lt);
  below = λ i x lt c. is.below i x lt (subst (λ (l : List ℕ). Contains l x) (same i) c);
}

module _ (names : ℕ) (pairs : BitSet) (near near' : List (List ℕ)) (i j : ℕ) (li : i < names) (lj : j < names) (differ : i ≡ j → ⊥) where
  abbrev old : EdgeSet
  old = record { names = names; pairs = pairs }

  abbrev new : EdgeSet
  new = record { names = names; pairs = set.insert pairs (pair_of i j) }

  at_first : (z : ℕ) → (has_edge new i z ≡ true) ↔ ((has_edge old i z ≡ true) ⊎ (z ≡ j))
  at_first z =
      let both = added pairs i j i z differ in (
        λ t. elim (both.0 t) [ inl u ↦ inl u | inr p ↦ elim p [ inl q ↦ inr q.1 | inr q ↦ absurd (differ q.0) ] ],
        λ t. both.1 (elim t [ inl u ↦ inl u | inr e ↦ inr (inl (refl, e)) ]),
      )

  at_second : (z : ℕ) → (has_edge new j z ≡ true) ↔ ((has_edge old j z ≡ true) ⊎ (z ≡ i))
  at_second z =
      let both = added pairs i j j z differ in (
        λ t. elim (both.0 t) [ inl u ↦ inl u | inr p ↦ elim p [ inl q ↦ absurd (differ (sym q.0)) | inr q ↦ inr q.1 ] ],
        λ t. both.1 (elim t [ inl u ↦ inl u | inr e ↦ inr (inr (refl, e)) ]),
      )

  at_other : (a z : ℕ) → (a ≡ i → ⊥) → (a ≡ j → ⊥) → (has_edge new a z ≡ true) ↔ (has_edge old a z ≡ true)
  at_other a z ni nj =
      let both = added pairs i j a z differ in (
        λ t. elim (both.0 t) [ inl u ↦ u | inr p ↦ absurd (elim p [ inl q ↦ ni q.0 | inr q ↦ nj q.0 ]) ],
        λ t. both.1 (inl t),
      )

  pub near_added : AreNear old near → (has_edge old i j ≡ true → ⊥) → (has_edge old j i ≡ true → ⊥) → length near' ≡ length near
      → ((a : ℕ) → (a ≡ i → ⊥) → (a ≡ j → ⊥) → get_or near' a [] ≡ get_or near a [])
      → get_or near' i [] ≡ get_or near i [] ++ j ∷ [] → get_or near' j [] ≡ get_or near j [] ++ i ∷ [] → AreNear new near'
  near_added is none back long others first second = record {
    long = long ∙ is.long;
    lists = λ a la. elim (cases_eq a i) [
      | inl e ↦ subst (λ (z : ℕ). IsListOf (has_edge new z) (get_or near' z [])) (sym e)
          (subst (λ (l : List ℕ). IsListOf (has_edge new i) l) (sym first)
          (grown (has_edge old i) (has_edge new i) (get_or near i []) j (is.lists i li) none at_first))
      | inr ni ↦ elim (cases_eq a j) [
        | inl e ↦ subst (λ (z : ℕ). IsListOf (has_edge new z) (get_or near' z [])) (sym e)
            (subst (λ (l : List ℕ). IsListOf (has_edge new j) l) (sym second)
            (grown (has_edge old j) (has_edge new j) (get_or near j []) i (is.lists j lj) back at_second))
        | inr nj ↦ subst (λ (l : List ℕ). IsListOf (has_edge new a) l) (sym (others a ni nj))
            (same_list (has_edge old a) (has_edge new a) (get_or near a []) (is.lists a la) (λ z. at_other a z ni nj))
      ]
    ];
    below = λ a x la c. elim (cases_eq a i) [
      | inl e ↦
          let c' = subst (λ (l : List ℕ). Contains l x) first (subst (λ (z : ℕ). Contains (get_or near' z []) x) e c) in
          elim (Contains-push_cases (get_or near i []) j x c') [
            | inl u ↦ is.below i x li u
            | inr s ↦ subst (λ (z : ℕ). z < names) s lj
          ]
      | inr ni ↦ elim (cases_eq a j) [
        | inl e ↦
            let c' = subst (λ (l : List ℕ). Contains l x) second (subst (λ (z : ℕ). Contains (get_or near' z []) x) e c) in
            elim (Contains-push_cases (get_or near j []) i x c') [
              | inl u ↦ is.below j x lj u
              | inr s ↦ subst (λ (z : ℕ). z < names) s li
            ]
        | inr nj ↦ is.below a x la (subst (λ (l : List ℕ). Contains l x) (others a ni nj) c)
      ]
    ];
  }

-- an edge goes both ways
up : (e : EdgeSet) (i j : ℕ) → i < j → has_edge e i j ≡ set.contains e.pairs (pair_number i j)
up e i j lt = rw (lt-ltb i j lt) refl

down : (e : EdgeSet) (i j : ℕ) → j < i → has_edge e i j ≡ set.contains e.pairs (pair_number j i)
down e i j lt = rw (le-ltb i j (omega (arith, lt)), lt-ltb j i lt) refl

pub no_edge : (e : EdgeSet) (i : ℕ) → has_edge e i i ≡ false
no_edge e i = rw (le-ltb i i (omega arith)) refl

pub edge_back : (e : EdgeSet) (i j : ℕ) → has_edge e i j ≡ has_edge e j i
edge_back e i j =
    elim (cases_lt i j) [
      | inl lt ↦ up e i j lt ∙ sym (down e j i lt)
      | inr le ↦ elim (cases_lt j i) [
        | inl lt ↦ down e i j lt ∙ sym (up e j i lt)
        | inr le' ↦
            let same : i ≡ j = omega (arith, le, le') in
            ap (has_edge e i) (sym same) ∙ ap (λ (k : ℕ). has_edge e k i) same
      ]
    ]
