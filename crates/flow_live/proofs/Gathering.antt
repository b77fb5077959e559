-- What a block uses and defines, place by place and touch by touch.
use Rattle.std.proofs.Common.{◌≡◌, ℕ, ◌+◌, ◌*◌, ◌-◌, ◌<◌, ◌≤◌, ◌⊎◌, inl, inr, ◌↔◌, true, false, ◌||◌, eqb, length, arith, sym, ◌∙◌, ap, subst}
use Rattle.std.proofs.lemmas.Bool.{cases_lt, or_cases, or_left, or_right, eq-eqb, eqb-true, false≢true, false_from_ne_true}
use Rattle.std.specs.FinSet as set
use Rattle.bit_rows.specs.BitRows.{BitRows, row_of, with_row}
use Rattle.flow_live.specs.declared.touch.Touch.{Touch}
use Rattle.flow_live.specs.declared.touch.Touch.TheVariants.{Def}
use Rattle.flow_live.specs.Graph.{Graph, IsInRange, Place, Uses, Defines, IsUseOf, IsDefOf, HasTouchBelow, name_of}
use Rattle.flow_live.specs.Solving.{has, HasRoom, IsExposedBelow, IsDefinedBelow, IsGatheredBelow, IsBlank, IsSolving}
use Rattle.flow_live.proofs.RowFacts.{has-insert, same-row}
use Rattle.flow_live.proofs.Paths.{at_place, live_exposed}

-- ---- one touch

pub put_name : (m n : BitRows) (row name : ℕ) → row < length m.sets → n ≡ with_row m row (set.insert (row_of m row) name)
    → (q : ℕ) → (has n row q ≡ true) ↔ ((has m row q ≡ true) ⊎ (q ≡ name))
put_name m n row name h e q =
    let is : has n row q ≡ (eqb q name || has m row q) = ap (λ r. has r row q) e ∙ has-insert m row name q h in (
      λ t. elim (or_cases (eqb q name) (has m row q) (sym is ∙ t)) [ inl a ↦ inr (eqb-true q name a) | inr b ↦ inl b ],
      λ t. is ∙ elim t [ inl b ↦ or_right (eqb q name) (has m row q) b | inr a ↦ or_left (eqb q name) (has m row q) (eq-eqb q name a) ],
    )

pub put_use : (m n : BitRows) (block defined name : ℕ) (touch : Touch) → block < length m.sets → n ≡ with_row m block (set.insert (row_of m block) name)
    → IsUseOf touch name → ((q : ℕ) → IsUseOf touch q → q ≡ name) → has m defined name ≡ false
    → (q : ℕ) → (has n block q ≡ true) ↔ ((has m block q ≡ true) ⊎ (IsUseOf touch q × (has m defined q ≡ false)))
put_use m n block defined name touch h e is only clear q =
    let p = put_name m n block name h e q in (
      λ t. elim (p.0 t) [ inl a ↦ inl a | inr s ↦ inr (subst (λ (x : ℕ). IsUseOf touch x) (sym s) is, ap (has m defined) s ∙ clear) ],
      λ t. p.1 (elim t [ inl a ↦ inl a | inr u ↦ inr (only q u.0) ]),
    )

pub put_def : (m n : BitRows) (defined name : ℕ) (touch : Touch) → defined < length m.sets → n ≡ with_row m defined (set.insert (row_of m defined) name)
    → touch ≡ Def name → (q : ℕ) → (has n defined q ≡ true) ↔ ((has m defined q ≡ true) ⊎ IsDefOf touch q)
put_def m n defined name touch h e is q =
    let p = put_name m n defined name h e q in (
      λ t. elim (p.0 t) [ inl a ↦ inl a | inr s ↦ inr (is ∙ ap Def (sym s)) ],
      λ t. p.1 (elim t [ inl a ↦ inl a | inr d ↦ let same : q ≡ name = cc in inr same ]),
    )

-- ---- one place

-- ---- one block

exposed_more : (g : Graph) (name block place : ℕ)
    → IsExposedBelow g name block (place + 1) ↔ (IsExposedBelow g name block place ⊎ (Uses g name (at_place block place) × (IsDefinedBelow g name block place → ⊥)))
exposed_more g name block place = (
  λ t. elim (cases_lt t.0 place) [
    | inl lt ↦ inl (t.0, lt, t.2, t.3)
    | inr ge ↦
        let same : t.0 ≡ place = omega arith in
        inr (subst (λ (p : ℕ). Uses g name (at_place block p)) same t.2, λ d. t.3 d.0 (omega arith) d.2)
  ],
  λ t. elim t [
    | inl a ↦ (a.0, omega arith, a.2, a.3)
    | inr b ↦ (place, omega arith, b.0, λ earlier lt d. b.1 (earlier, lt, d))
  ],
)

defined_more : (g : Graph) (name block place : ℕ)
    → IsDefinedBelow g name block (place + 1) ↔ (IsDefinedBelow g name block place ⊎ Defines g name (at_place block place))
defined_more g name block place = (
  λ t. elim (cases_lt t.0 place) [
    | inl lt ↦ inl (t.0, lt, t.2)
    | inr ge ↦ let same : t.0 ≡ place = omega arith in inr (subst (λ (p : ℕ). Defines g name (at_place block p)) same t.2)
  ],
  λ t. elim t [ inl a ↦ (a.0, omega arith, a.2) | inr b ↦ (place, omega arith, b) ],
)

pub IsGathered-more : (g : Graph) (block place : ℕ) (old mid new : BitRows) → block < g.blocks
    → IsGatheredBelow g block place old
    → ((name : ℕ) → (has mid block name ≡ true) ↔ ((has old block name ≡ true) ⊎ (Uses g name (at_place block place) × (has old (2 * g.blocks + block) name ≡ false))))
    → ((name : ℕ) → (has new (2 * g.blocks + block) name ≡ true) ↔ ((has mid (2 * g.blocks + block) name ≡ true) ⊎ Defines g name (at_place block place)))
    → row_of mid (2 * g.blocks + block) ≡ row_of old (2 * g.blocks + block) → row_of new block ≡ row_of mid block
    → IsGatheredBelow g block (place + 1) new
IsGathered-more g block place old mid new h inv uses defs keeps_defs keeps_uses =
    record {
      used = λ name.
          let more = exposed_more g name block place in
          let same = same-row mid new block name keeps_uses in (
            λ t. more.1 (elim ((uses name).0 (sym same ∙ t)) [
              | inl a ↦ inl ((inv.used name).0 a)
              | inr u ↦ inr (u.0, λ d. false≢true (sym u.1 ∙ (inv.defined name).1 d))
            ]),
            λ t. same ∙ (uses name).1 (elim (more.0 t) [
              | inl a ↦ inl ((inv.used name).1 a)
              | inr u ↦ inr (u.0, false_from_ne_true (has old (2 * g.blocks + block) name) (λ d. u.1 ((inv.defined name).0 d)))
            ]),
          );
      defined = λ name.
          let more = defined_more g name block place in
          let same = same-row old mid (2 * g.blocks + block) name keeps_defs in (
            λ t. more.1 (elim ((defs name).0 t) [ inl a ↦ inl ((inv.defined name).0 (sym same ∙ a)) | inr d ↦ inr d ]),
            λ t. (defs name).1 (elim (more.0 t) [ inl a ↦ inl (same ∙ (inv.defined name).1 a) | inr d ↦ inr d ]),
          );
    }

pub IsGathered-kept : (g : Graph) (block end : ℕ) (old new : BitRows) → row_of new block ≡ row_of old block → row_of new (2 * g.blocks + block) ≡ row_of old (2 * g.blocks + block)
    → IsGatheredBelow g block end old → IsGatheredBelow g block end new
IsGathered-kept g block end old new e f it =
    record {
      used = λ name. (λ t. (it.used name).0 (sym (same-row old new block name e) ∙ t), λ t. same-row old new block name e ∙ (it.used name).1 t);
      defined = λ name. (λ t. (it.defined name).0 (sym (same-row old new (2 * g.blocks + block) name f) ∙ t), λ t. same-row old new (2 * g.blocks + block) name f ∙ (it.defined name).1 t);
    }

pub IsBlank-kept : (g : Graph) (block : ℕ) (old new : BitRows) → row_of new block ≡ row_of old block → row_of new (2 * g.blocks + block) ≡ row_of old (2 * g.blocks + block)
    → IsBlank g block old → IsBlank g block new
IsBlank-kept g block old new e f it =
    record {
      used = λ name. same-row old new block name e ∙ it.used name;
      defined = λ name. same-row old new (2 * g.blocks + block) name f ∙ it.defined name;
    }

use_in_range : (g : Graph) (name : ℕ) (at : Place) → IsInRange g → at.block < g.blocks → Uses g name at → name < g.names
use_in_range g name at range h u =
    let below = range.name at.block at.place u.1.0 h u.0 u.1.1 in
    elim u.1.2 [ inl e ↦ subst (λ (n : ℕ). n < g.names) (ap name_of e) below | inr e ↦ subst (λ (n : ℕ). n < g.names) (ap name_of e) below ]

def_in_range : (g : Graph) (name : ℕ) (at : Place) → IsInRange g → at.block < g.blocks → Defines g name at → name < g.names
def_in_range g name at range h d = subst (λ (n : ℕ). n < g.names) (ap name_of d.1.2) (range.name at.block at.place d.1.0 h d.0 d.1.1)

-- what each block does by itself is a state to begin from
pub IsSolving-start : (g : Graph) (m : BitRows) → IsInRange g → HasRoom g m
    → ((b : ℕ) → b < g.blocks → IsGatheredBelow g b (g.places b) m)
    → ((row name : ℕ) → g.blocks ≤ row → row < 2 * g.blocks → has m row name ≡ false)
    → ((row name : ℕ) → 3 * g.blocks ≤ row → has m row name ≡ false)
    → IsSolving g m
IsSolving-start g m range room gathered outs work =
    record {
      room = room;
      in_names = λ row name t. elim (cases_lt row g.blocks) [
        | inl low ↦ let u = ((gathered row low).used name).0 t in use_in_range g name (at_place row u.0) range low u.2
        | inr high ↦ elim (cases_lt row (2 * g.blocks)) [
          | inl out ↦ absurd (false≢true (sym (outs row name high out) ∙ t))
          | inr past ↦ elim (cases_lt row (3 * g.blocks)) [
            | inl def ↦
                let b : ℕ = row - 2 * g.blocks in
                let low : b < g.blocks = omega arith in
                let same : row ≡ 2 * g.blocks + b = omega arith in
                let d = ((gathered b low).defined name).0 (subst (λ (r : ℕ). has m r name ≡ true) same t) in
                def_in_range g name (at_place b d.0) range low d.2
            | inr far ↦ absurd (false≢true (sym (work row name far) ∙ t))
          ]
        ]
      ];
      ins = λ block name h t. live_exposed g name block (((gathered block h).used name).0 t);
      outs = λ block name h t. absurd (false≢true (sym (outs (g.blocks + block) name (omega arith) (omega arith)) ∙ t));
      used = λ block name h x. ((gathered block h).used name).1 x;
      defined = λ block name h. (gathered block h).defined name;
      through = λ block name h t _. absurd (false≢true (sym (outs (g.blocks + block) name (omega arith) (omega arith)) ∙ t));
    }
