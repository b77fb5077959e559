-- A visit of a block keeps what the search keeps.
use Rattle.std.proofs.Common.{◌≡◌, ℕ, zero, suc, ◌+◌, ◌*◌, ◌<◌, ◌≤◌, ◌⊎◌, inl, inr, ◌↔◌, Bool, true, false, not, ◌&&◌, ◌||◌, List, length, arith, sym, ◌∙◌, ap, refl, subst}
use Rattle.std.proofs.lemmas.Bool.{cases_lt, cases_eq, cases_Bool, or_cases, or_left, or_right, and_parts, and_from, not-true, not_from_false, false≢true, false_from_ne_true}
use Rattle.std.proofs.lemmas.List.{set-get_or}
use Rattle.std.specs.Cmp.{nat_cmp_total}
use Rattle.std.specs.FinSet as set
use Rattle.bit_rows.specs.BitRows.{BitSet, BitRows, row_of, with_row}
use Rattle.flow_live.specs.Graph.{Graph, IsInRange, IsSuccessor, LiveOut, LiveIn}
use Rattle.flow_live.specs.Solving.{has, HasRoom, IsSolving, Advances, Joins, Passes, lack, absent, absent_in}
use Rattle.flow_live.proofs.RowFacts.{row-same, row-other, has-union, has-difference, same-row}
use Rattle.flow_live.proofs.Paths.{live_through}

-- ---- through a block

and_not : (b : Bool) → (b && not b) ≡ false
and_not true = refl
and_not false = refl

-- the four steps: the work row is emptied, takes what goes out, loses what is defined, and joins
-- what goes in
module _ (m0 m1 m2 m3 m4 : BitRows) (n block : ℕ) (h : block < n) (all : length m0.sets ≡ 3 * n + 1)
    (e1 : m1 ≡ with_row m0 (3 * n) (set.difference (row_of m0 (3 * n)) (row_of m0 (3 * n))))
    (l1 : length m1.sets ≡ length m0.sets)
    (e2 : m2 ≡ with_row m1 (3 * n) (set.union (row_of m1 (3 * n)) (row_of m1 (n + block))))
    (l2 : length m2.sets ≡ length m0.sets)
    (e3 : m3 ≡ with_row m2 (3 * n) (set.difference (row_of m2 (3 * n)) (row_of m2 (2 * n + block))))
    (l3 : length m3.sets ≡ length m0.sets)
    (e4 : m4 ≡ with_row m3 block (set.union (row_of m3 block) (row_of m3 (3 * n)))) where
  kept1 : (row : ℕ) → (row ≡ 3 * n → ⊥) → row_of m1 row ≡ row_of m0 row
  kept1 row ne = ap (λ r. row_of r row) e1 ∙ row-other m0 (3 * n) row (set.difference (row_of m0 (3 * n)) (row_of m0 (3 * n))) ne

  kept2 : (row : ℕ) → (row ≡ 3 * n → ⊥) → row_of m2 row ≡ row_of m0 row
  kept2 row ne = ap (λ r. row_of r row) e2 ∙ row-other m1 (3 * n) row (set.union (row_of m1 (3 * n)) (row_of m1 (n + block))) ne ∙ kept1 row ne

  kept3 : (row : ℕ) → (row ≡ 3 * n → ⊥) → row_of m3 row ≡ row_of m0 row
  kept3 row ne = ap (λ r. row_of r row) e3 ∙ row-other m2 (3 * n) row (set.difference (row_of m2 (3 * n)) (row_of m2 (2 * n + block))) ne ∙ kept2 row ne

  work1 : (q : ℕ) → has m1 (3 * n) q ≡ false
  work1 q = ap (λ r. has r (3 * n) q) e1 ∙ has-difference m0 (3 * n) (3 * n) q (omega arith) ∙ and_not (has m0 (3 * n) q)

  work2 : (q : ℕ) → has m2 (3 * n) q ≡ has m0 (n + block) q
  work2 q =
      ap (λ r. has r (3 * n) q) e2 ∙ has-union m1 (3 * n) (n + block) q (omega arith)
      ∙ ap (λ b. b || has m1 (n + block) q) (work1 q) ∙ same-row m0 m1 (n + block) q (kept1 (n + block) (λ e. omega arith))

  work3 : (q : ℕ) → has m3 (3 * n) q ≡ (has m0 (n + block) q && not (has m0 (2 * n + block) q))
  work3 q =
      ap (λ r. has r (3 * n) q) e3 ∙ has-difference m2 (3 * n) (2 * n + block) q (omega arith)
      ∙ ap (λ b. b && not (has m2 (2 * n + block) q)) (work2 q)
      ∙ ap (λ b. has m0 (n + block) q && not b) (same-row m0 m2 (2 * n + block) q (kept2 (2 * n + block) (λ e. omega arith)))

  pub passes : (grew : Bool) → (grew ≡ false) ↔ (m4 ≡ m3) → Passes n block m0 m4 grew
  passes grew still =
      record {
        others = λ row ne ne'. ap (λ r. row_of r row) e4 ∙ row-other m3 block row (set.union (row_of m3 block) (row_of m3 (3 * n))) ne ∙ kept3 row ne';
        passed = λ q. ap (λ r. has r block q) e4 ∙ has-union m3 block (3 * n) q (omega arith)
            ∙ ap (λ b. b || has m3 (3 * n) q) (same-row m0 m3 block q (kept3 block (λ e. omega arith)))
            ∙ ap (λ b. has m0 block q || b) (work3 q);
        work = λ q t. (and_parts (has m0 (n + block) q) (not (has m0 (2 * n + block) q))
            (sym (work3 q) ∙ sym (same-row m3 m4 (3 * n) q (ap (λ r. row_of r (3 * n)) e4 ∙ row-other m3 block (3 * n) (set.union (row_of m3 block) (row_of m3 (3 * n))) (λ e. omega arith))) ∙ t)).0;
        still = (
          λ e. ap (λ r. row_of r block) (still.0 e) ∙ kept3 block (λ x. omega arith),
          λ e. still.1 (
              let joined : BitSet = set.union (row_of m3 block) (row_of m3 (3 * n)) in
              let same : joined ≡ row_of m3 block = sym (row-same m3 block joined (omega arith)) ∙ sym (ap (λ r. row_of r block) e4) ∙ e ∙ sym (kept3 block (λ x. omega arith)) in
              e4 ∙ ap (with_row m3 block) same ∙ ap (λ (l : List BitSet). let r : BitRows = record { bits = m3.bits; sets = l } in r) (set-get_or m3.sets block set.empty)),
        );
      }

-- ---- the state

module _ (g : Graph) (block : ℕ) (m0 m1 m2 : BitRows) (grew : Bool) (range : IsInRange g) (h : block < g.blocks) (s : IsSolving g m0)
    (j : Joins g g.blocks block m0 m1) (p : Passes g.blocks block m1 m2 grew) where
  successor_below : (next : ℕ) → IsSuccessor g block next → next < g.blocks
  successor_below next succ = subst (λ (x : ℕ). x < g.blocks) succ.2 (range.successor block succ.0 h succ.1)

  out_live : (name : ℕ) → has m1 (g.blocks + block) name ≡ true → LiveOut g name block
  out_live name t =
      elim (j.only name t) [
        | inl a ↦ s.outs block name h a
        | inr b ↦ (b.0, b.1, s.ins b.0 name (successor_below b.0 b.1) b.2)
      ]

  out_named : (name : ℕ) → has m1 (g.blocks + block) name ≡ true → name < g.names
  out_named name t = elim (j.only name t) [ inl a ↦ s.in_names (g.blocks + block) name a | inr b ↦ s.in_names b.0 name b.2 ]

  -- rows that neither step changes
  same : (row name : ℕ) → (row ≡ block → ⊥) → (row ≡ g.blocks + block → ⊥) → (row ≡ 3 * g.blocks → ⊥) → has m2 row name ≡ has m0 row name
  same row name a b c = same-row m1 m2 row name (p.others row a c) ∙ same-row m0 m1 row name (j.others row b)

  out_same : (name : ℕ) → has m2 (g.blocks + block) name ≡ has m1 (g.blocks + block) name
  out_same name = same-row m1 m2 (g.blocks + block) name (p.others (g.blocks + block) (λ e. omega arith) (λ e. omega arith))

  in_first : (name : ℕ) → has m1 block name ≡ has m0 block name
  in_first name = same-row m0 m1 block name (j.others block (λ e. omega arith))

  def_first : (name : ℕ) → has m1 (2 * g.blocks + block) name ≡ has m0 (2 * g.blocks + block) name
  def_first name = same-row m0 m1 (2 * g.blocks + block) name (j.others (2 * g.blocks + block) (λ e. omega arith))

  in_cases : (name : ℕ) → has m2 block name ≡ true → (has m0 block name ≡ true) ⊎ ((has m1 (g.blocks + block) name ≡ true) × (has m0 (2 * g.blocks + block) name ≡ false))
  in_cases name t =
      elim (or_cases (has m1 block name) (has m1 (g.blocks + block) name && not (has m1 (2 * g.blocks + block) name)) (sym (p.passed name) ∙ t)) [
        | inl a ↦ inl (sym (in_first name) ∙ a)
        | inr b ↦ let both = and_parts (has m1 (g.blocks + block) name) (not (has m1 (2 * g.blocks + block) name)) b in
            inr (both.0, sym (def_first name) ∙ not-true (has m1 (2 * g.blocks + block) name) both.1)
      ]

  pub in_grows : (name : ℕ) → has m0 block name ≡ true → has m2 block name ≡ true
  in_grows name t = p.passed name ∙ or_left (has m1 block name) (has m1 (g.blocks + block) name && not (has m1 (2 * g.blocks + block) name)) (in_first name ∙ t)

  named : (row name : ℕ) → has m2 row name ≡ true → name < g.names
  named row name t =
      elim (cases_eq row block) [
        | inl e ↦ elim (in_cases name (subst (λ (r : ℕ). has m2 r name ≡ true) e t)) [ inl a ↦ s.in_names block name a | inr b ↦ out_named name b.0 ]
        | inr a ↦ elim (cases_eq row (g.blocks + block)) [
          | inl e ↦ out_named name (sym (out_same name) ∙ subst (λ (r : ℕ). has m2 r name ≡ true) e t)
          | inr b ↦ elim (cases_eq row (3 * g.blocks)) [
            | inl e ↦ out_named name (p.work name (subst (λ (r : ℕ). has m2 r name ≡ true) e t))
            | inr c ↦ s.in_names row name (sym (same row name a b c) ∙ t)
          ]
        ]
      ]

  pub IsSolving-visit : HasRoom g m2 → IsSolving g m2
  IsSolving-visit room =
      record {
        room = room;
        in_names = named;
        ins = λ b name lt t. elim (cases_eq b block) [
          | inl e ↦ subst (λ (x : ℕ). LiveIn g name x) (sym e) (elim (in_cases name (subst (λ (r : ℕ). has m2 r name ≡ true) e t)) [
            | inl a ↦ s.ins block name h a
            | inr o ↦ live_through g name block (λ d. false≢true (sym o.1 ∙ (s.defined block name h).1 d)) (out_live name o.0)
          ])
          | inr ne ↦ s.ins b name lt (sym (same b name ne (λ e. omega arith) (λ e. omega arith)) ∙ t)
        ];
        outs = λ b name lt t. elim (cases_eq b block) [
          | inl e ↦ subst (λ (x : ℕ). LiveOut g name x) (sym e) (out_live name (sym (out_same name) ∙ subst (λ (r : ℕ). has m2 (g.blocks + r) name ≡ true) e t))
          | inr ne ↦ s.outs b name lt (sym (same (g.blocks + b) name (λ e. omega arith) (λ e. ne (omega arith)) (λ e. omega arith)) ∙ t)
        ];
        used = λ b name lt x. elim (cases_eq b block) [
          | inl e ↦ subst (λ (r : ℕ). has m2 r name ≡ true) (sym e) (in_grows name (subst (λ (r : ℕ). has m0 r name ≡ true) e (s.used b name lt x)))
          | inr ne ↦ same b name ne (λ e. omega arith) (λ e. omega arith) ∙ s.used b name lt x
        ];
        defined = λ b name lt.
            let keeps = same (2 * g.blocks + b) name (λ e. omega arith) (λ e. omega arith) (λ e. omega arith) in
            (λ t. (s.defined b name lt).0 (sym keeps ∙ t), λ d. keeps ∙ (s.defined b name lt).1 d);
        through = λ b name lt t f.
            let keeps = same (2 * g.blocks + b) name (λ e. omega arith) (λ e. omega arith) (λ e. omega arith) in
            elim (cases_eq b block) [
              | inl e ↦ subst (λ (r : ℕ). has m2 r name ≡ true) (sym e) (p.passed name ∙ or_right (has m1 block name) (has m1 (g.blocks + block) name && not (has m1 (2 * g.blocks + block) name))
                  (and_from (has m1 (g.blocks + block) name) (not (has m1 (2 * g.blocks + block) name))
                  (sym (out_same name) ∙ subst (λ (r : ℕ). has m2 (g.blocks + r) name ≡ true) e t)
                  (not_from_false (has m1 (2 * g.blocks + block) name) (def_first name ∙ subst (λ (r : ℕ). has m0 (2 * g.blocks + r) name ≡ false) e (sym keeps ∙ f)))))
              | inr ne ↦ same b name ne (λ e. omega arith) (λ e. omega arith)
                  ∙ s.through b name lt (sym (same (g.blocks + b) name (λ e. omega arith) (λ e. ne (omega arith)) (λ e. omega arith)) ∙ t) (sym keeps ∙ f)
            ];
      }

-- ---- the measure

absent_le : (p r : ℕ → Bool) (n : ℕ) → ((q : ℕ) → q < n → p q ≡ true → r q ≡ true) → absent r n ≤ absent p n
absent_le p r zero more = omega arith
absent_le p r (suc n) more =
    elim (cases_Bool (p n)) [
      | inl t ↦ omega (arith, ap lack (more n (omega arith) t), absent_le p r n (λ q h. more q (omega arith)))
      | inr f ↦ omega (arith, ap lack f, lack_le (r n), absent_le p r n (λ q h. more q (omega arith)))
    ]
  where
    lack_le : (b : Bool) → lack b ≤ 1
    lack_le true = omega arith
    lack_le false = omega arith

absent_same : (p r : ℕ → Bool) (n : ℕ) → ((q : ℕ) → q < n → p q ≡ true → r q ≡ true) → absent p n ≤ absent r n → (q : ℕ) → q < n → p q ≡ r q
absent_same p r zero more le q h = absurd (omega arith)
absent_same p r (suc n) more le q h =
    let below = absent_le p r n (λ x lt. more x (omega arith)) in
    elim (cases_Bool (p n)) [
      | inl t ↦
          let t' = more n (omega arith) t in
          last (absent_same p r n (λ x lt. more x (omega arith)) (omega (arith, ap lack t, ap lack t'))) (t ∙ sym t')
      | inr f ↦ elim (cases_Bool (r n)) [
        | inl t' ↦ absurd (omega (arith, ap lack f, ap lack t', below))
        | inr f' ↦ last (absent_same p r n (λ x lt. more x (omega arith)) (omega (arith, ap lack f, ap lack f'))) (f ∙ sym f')
      ]
    ]
  where
    last : ((x : ℕ) → x < n → p x ≡ r x) → p n ≡ r n → p q ≡ r q
    last front here =
        elim (cases_lt q n) [ inl lt ↦ front q lt | inr ge ↦ let e : q ≡ n = omega arith in ap p e ∙ here ∙ ap r (sym e) ]

absent_in_le : (p r : ℕ → ℕ → Bool) (n names : ℕ) → ((b q : ℕ) → b < n → p b q ≡ true → r b q ≡ true) → absent_in r n names ≤ absent_in p n names
absent_in_le p r zero names more = omega arith
absent_in_le p r (suc n) names more =
    omega (arith, absent_le (p n) (r n) names (λ q _. more n q (omega arith)), absent_in_le p r n names (λ b q lt. more b q (omega arith)))

absent_in_same : (p r : ℕ → ℕ → Bool) (n names : ℕ) → ((b q : ℕ) → b < n → p b q ≡ true → r b q ≡ true) → absent_in p n names ≤ absent_in r n names
    → (b q : ℕ) → b < n → q < names → p b q ≡ r b q
absent_in_same p r zero names more le b q h h' = absurd (omega arith)
absent_in_same p r (suc n) names more le b q h h' =
    let row = absent_le (p n) (r n) names (λ q _. more n q (omega arith)) in
    let rest = absent_in_le p r n names (λ b q lt. more b q (omega arith)) in
    elim (cases_lt b n) [
      | inl lt ↦ absent_in_same p r n names (λ b q lt. more b q (omega arith)) (omega (arith, row)) b q lt h'
      | inr ge ↦
          let e : b ≡ n = omega arith in
          ap (λ x. p x q) e ∙ absent_same (p n) (r n) names (λ q _. more n q (omega arith)) (omega (arith, rest)) q h' ∙ ap (λ x. r x q) (sym e)
    ]

pub advances_visit : (g : Graph) (block : ℕ) (m0 m1 m2 : BitRows) (grew : Bool) → block < g.blocks
    → ((b name : ℕ) → b < g.blocks → has m0 b name ≡ true → has m2 b name ≡ true)
    → ((name : ℕ) → has m0 block name ≡ true → name < g.names) → ((name : ℕ) → has m2 block name ≡ true → name < g.names)
    → row_of m1 block ≡ row_of m0 block → ((grew ≡ false) ↔ (row_of m2 block ≡ row_of m1 block)) → Advances g m0 m2 grew
advances_visit g block m0 m1 m2 grew h more named0 named2 first still =
    record {
      least = absent_in_le (has m0) (has m2) g.blocks g.names more;
      fewer = λ t. elim (cases_lt (absent_in (has m2) g.blocks g.names) (absent_in (has m0) g.blocks g.names)) [
        | inl lt ↦ lt
        | inr ge ↦ absurd (false≢true (sym (still.1 (
            set.same_set nat_cmp_total set.nat_cmp-IsAntisymmetric (row_of m2 block) (row_of m0 block) (λ q. alike q ge) ∙ sym first)) ∙ t))
      ];
    }
  where
    alike : (q : ℕ) → absent_in (has m0) g.blocks g.names ≤ absent_in (has m2) g.blocks g.names → has m2 block q ≡ has m0 block q
    alike q ge =
        elim (cases_lt q g.names) [
          | inl lt ↦ sym (absent_in_same (has m0) (has m2) g.blocks g.names more ge block q h lt)
          | inr past ↦ false_from_ne_true (has m2 block q) (λ t. absurd (omega (arith, named2 q t))) ∙ sym (false_from_ne_true (has m0 block q) (λ t. absurd (omega (arith, named0 q t))))
        ]
