-- A pass over the blocks, from the last to the first.
use Rattle.std.proofs.Common.{◌≡◌, ℕ, ◌+◌, ◌<◌, ◌≤◌, ◌⊎◌, inl, inr, Bool, true, false, ◌||◌, List, length, arith, sym, ◌∙◌, ap, subst, set as put, get_or-set_same, get_or-set_other}
use Rattle.std.specs.Prelude.{slice_index_or}
use Rattle.std.proofs.lemmas.Bool.{cases_lt, cases_eq, cases_Bool, false≢true, or_cases}
use Rattle.bit_rows.specs.BitRows.{BitRows, row_of}
use Rattle.flow_live.specs.Graph.{Graph, IsInRange, IsSuccessor}
use Rattle.flow_live.specs.Solving.{has, Flows, IsKeptUp, Advances}
use Rattle.flow_live.proofs.RowFacts.{same-row}

pub next_below : (g : Graph) (block next : ℕ) → IsInRange g → block < g.blocks → IsSuccessor g block next → next < g.blocks
next_below g block next range h succ = subst (λ (x : ℕ). x < g.blocks) succ.2 (range.successor block succ.0 h succ.1)

-- a look at one block more
pub kept_up_more : (g : Graph) (m n : BitRows) (grew : List Bool) (all grows : Bool) (low b : ℕ) → IsInRange g → low ≡ b + 1 → b < g.blocks → length grew ≡ g.blocks
    → IsKeptUp g m grew (λ block. (all ≡ false) ⊎ (low ≤ block)) low
    → ((x : ℕ) → x < g.blocks → (x ≡ b → ⊥) → row_of n x ≡ row_of m x)
    → ((x : ℕ) → x < g.blocks → (x ≡ b → ⊥) → row_of n (g.blocks + x) ≡ row_of m (g.blocks + x))
    → ((next : ℕ) → IsSuccessor g b next → (all ≡ true) ⊎ (Flows g m b next ⊎ (slice_index_or grew next false ≡ true)) → (name : ℕ) → has m next name ≡ true → has n (g.blocks + b) name ≡ true)
    → (grows ≡ false → row_of n b ≡ row_of m b)
    → IsKeptUp g n (put grew b grows) (λ block. (all ≡ false) ⊎ (b ≤ block)) b
kept_up_more g m n grew all grows low b range e h long inv ins outs joined still c s lt seen succ =
    let s_lt = next_below g c s range lt succ in
    elim (cases_eq c b) [
      | inl own ↦
          let succ' : IsSuccessor g b s = subst (λ (x : ℕ). IsSuccessor g x s) own succ in
          let flows : (name : ℕ) → has m s name ≡ true → has n (g.blocks + c) name ≡ true = λ name t.
          subst (λ (x : ℕ). has n (g.blocks + x) name ≡ true) (sym own) (joined s succ' (premise own) name t) in
          elim (cases_eq s b) [
            | inl loop ↦ elim (cases_Bool grows) [
              | inl t ↦ inr (at_b s loop ∙ t, inl (omega arith, omega arith, omega arith))
              | inr f ↦ inl (λ name t. flows name (sym (same_at s (λ ne. absurd (ne loop)) loop f name) ∙ t))
            ]
            | inr ne ↦ inl (λ name t. flows name (sym (same-row m n s name (ins s s_lt ne)) ∙ t))
          ]
      | inr other ↦
          let old = inv c s lt (seen_before other) succ in
          let out : (name : ℕ) → has n (g.blocks + c) name ≡ has m (g.blocks + c) name = λ name. same-row m n (g.blocks + c) name (outs c lt other) in
          elim old [
            | inl flows ↦ elim (cases_eq s b) [
              | inl into ↦ elim (cases_Bool grows) [
                | inl t ↦ inr (at_b s into ∙ t, elim (cases_lt c b) [ inl less ↦ inr (inl (less, omega arith)) | inr more ↦ inl (more, omega arith, omega arith) ])
                | inr f ↦ inl (λ name t. out name ∙ flows name (sym (same_at s (λ ne. absurd (ne into)) into f name) ∙ t))
              ]
              | inr ne ↦ inl (λ name t. out name ∙ flows name (sym (same-row m n s name (ins s s_lt ne)) ∙ t))
            ]
            | inr late ↦ elim (cases_eq s b) [
              | inl into ↦ absurd (elim late.1 [
                | inl x ↦ omega arith
                | inr x ↦ elim x [ inl y ↦ omega arith | inr y ↦ other (omega arith) ]
              ])
              | inr ne ↦ inr (
                get_or-set_other grew b s grows false ne ∙ late.0,
                elim late.1 [
                  | inl x ↦ inl (omega arith, omega arith, x.2)
                  | inr x ↦ elim x [
                    | inl y ↦ inr (inl (before other y.0, omega arith))
                    | inr y ↦ inr (inr (before other y.0, before ne y.1, y.2))
                  ]
                ],
              )
            ]
          ]
    ]
  where
    before : {x : ℕ} → (x ≡ b → ⊥) → x < low → x < b
    before {x} ne less = elim (cases_lt x b) [ inl a ↦ a | inr a ↦ absurd (ne (omega arith)) ]

    at_b : (x : ℕ) → x ≡ b → slice_index_or (put grew b grows) x false ≡ grows
    at_b x same = ap (λ y. slice_index_or (put grew b grows) y false) same ∙ get_or-set_same grew b grows false (omega arith)

    same_at : (x : ℕ) → ((x ≡ b → ⊥) → ⊥) → x ≡ b → grows ≡ false → (name : ℕ) → has n x name ≡ has m x name
    same_at x _ same f name = ap (λ y. has n y name) same ∙ same-row m n b name (still f) ∙ ap (λ y. has m y name) (sym same)

    seen_before : (c ≡ b → ⊥) → (all ≡ false) ⊎ (low ≤ c)
    seen_before ne = elim seen [ inl a ↦ inl a | inr le ↦ elim (cases_lt b c) [ inl less ↦ inr (omega arith) | inr more ↦ absurd (ne (omega arith)) ] ]

    premise : c ≡ b → (all ≡ true) ⊎ (Flows g m b s ⊎ (slice_index_or grew s false ≡ true))
    premise own =
        elim (cases_Bool all) [
          | inl t ↦ inl t
          | inr f ↦ elim (inv c s lt (inl f) succ) [
            | inl flows ↦ inr (inl (subst (λ (x : ℕ). Flows g m x s) own flows))
            | inr late ↦ inr (inr late.0)
          ]
        ]

-- before the first look of a pass
pub kept_up_begin : (g : Graph) (m : BitRows) (grew : List Bool) (all : Bool) (low : ℕ) → low ≡ g.blocks → (all ≡ false → IsKeptUp g m grew (λ _. Unit {0}) low)
    → IsKeptUp g m grew (λ block. (all ≡ false) ⊎ (low ≤ block)) low
kept_up_begin g m grew all low e inv block next h seen succ =
    elim seen [ inl f ↦ inv f block next h tt succ | inr le ↦ absurd (omega arith) ]

-- after the last look of a pass
pub kept_up_end : (g : Graph) (m : BitRows) (grew : List Bool) (all : Bool) (high : ℕ) → IsInRange g → high ≡ g.blocks
    → IsKeptUp g m grew (λ block. (all ≡ false) ⊎ (0 ≤ block)) 0 → IsKeptUp g m grew (λ _. Unit {0}) high
kept_up_end g m grew all high range e inv block next h seen succ =
    elim (inv block next h (inr (omega arith)) succ) [
      | inl flows ↦ inl flows
      | inr late ↦
          let below = next_below g block next range h succ in
          inr (late.0, elim late.1 [ inl x ↦ inr (inr (omega arith, omega arith, x.2)) | inr x ↦ elim x [ inl y ↦ absurd (omega arith) | inr y ↦ absurd (omega arith) ] ])
    ]

-- where no set grew, each edge is kept up
pub settled : (g : Graph) (m : BitRows) (grew : List Bool) (low : ℕ) (seen : ℕ → Type 0) → IsInRange g → IsKeptUp g m grew seen low
    → ((next : ℕ) → next < g.blocks → slice_index_or grew next false ≡ false) → (block next : ℕ) → block < g.blocks → seen block → IsSuccessor g block next → Flows g m block next
settled g m grew low seen range inv none block next h s succ =
    elim (inv block next h s succ) [ inl flows ↦ flows | inr late ↦ absurd (false≢true (sym (none next (next_below g block next range h succ)) ∙ late.0)) ]

pub none_more : (grew : List Bool) (grows any : Bool) (low b n : ℕ) → low ≡ b + 1 → b < length grew
    → (any ≡ false → (next : ℕ) → low ≤ next → next < n → slice_index_or grew next false ≡ false)
    → any ≡ false → grows ≡ false → (next : ℕ) → b ≤ next → next < n → slice_index_or (put grew b grows) next false ≡ false
none_more grew grows any low b n e h inv f f' next le lt =
    elim (cases_eq next b) [
      | inl same ↦ ap (λ x. slice_index_or (put grew b grows) x false) same ∙ get_or-set_same grew b grows false h ∙ f'
      | inr ne ↦ get_or-set_other grew b next grows false ne ∙ inv f next (elim (cases_lt b next) [ inl less ↦ omega arith | inr more ↦ absurd (ne (omega arith)) ]) lt
    ]

pub advances_none : (g : Graph) (m : BitRows) (grew : Bool) → grew ≡ false → Advances g m m grew
advances_none g m grew f = record { least = omega arith; fewer = λ t. absurd (false≢true (sym f ∙ t)) }

pub advances_more : (g : Graph) (a b c : BitRows) (x y z : Bool) → z ≡ (x || y) → Advances g a b x → Advances g b c y → Advances g a c z
advances_more g a b c x y z e p q =
    record {
      least = omega (arith, p.least, q.least);
      fewer = λ t. elim (or_cases x y (sym e ∙ t)) [ inl t' ↦ omega (arith, p.fewer t', q.least) | inr t' ↦ omega (arith, p.least, q.fewer t') ];
    }
