-- Where all edges are kept up, every live name is known.
use Rattle.std.proofs.Common.{◌≡◌, ℕ, zero, suc, ◌+◌, ◌*◌, ◌-◌, ◌<◌, ◌≤◌, ◌⊎◌, inl, inr, ◌↔◌, true, List, [], ◌∷◌, take, drop, arith, sym, ◌∙◌, ap, subst}
use Rattle.std.proofs.lemmas.Bool.{cases_lt, cases_eq, false_from_ne_true}
use Rattle.std.proofs.lemmas.List.{get_or-take, get_or-drop}
use Rattle.std.specs.Prelude.{slice_index_or}
use Rattle.std.specs.FinSet as set
use Rattle.bit_rows.specs.BitRows.{BitSet, BitRows}
use Rattle.flow_live.specs.Liveness.{IsLivenessOf}
use Rattle.flow_live.specs.Graph.{Graph, IsInRange, Place, Uses, Defines, length_of, IsSuccessor, IsPath, EndsInUse, LiveBefore, LiveIn, LiveOut}
use Rattle.flow_live.specs.Solving.{has, IsSolving, Flows}
use Rattle.flow_live.proofs.Paths.{at_place, live_cases, live-down, live-out}
use Rattle.flow_live.proofs.Passing.{next_below}

module _ (g : Graph) (m : BitRows) (range : IsInRange g) (s : IsSolving g m)
    (edges : (block next : ℕ) → block < g.blocks → IsSuccessor g block next → Flows g m block next) where
  -- from a place on, the block uses the name first, or it neither uses nor defines it and it is
  -- known to go out
  Known : ℕ → ℕ → ℕ → Type 0
  Known name block place =
      ((use_at : ℕ) × (place ≤ use_at) × Uses g name (at_place block use_at) × ((k : ℕ) → place ≤ k → k < use_at → Defines g name (at_place block k) → ⊥))
      ⊎ (((k : ℕ) → place ≤ k → Defines g name (at_place block k) → ⊥) × (has m (g.blocks + block) name ≡ true))

  known_in : (name block : ℕ) → block < g.blocks → Known name block 0 → has m block name ≡ true
  unfolding Known
  known_in name block h k =
      elim k [
        | inl u ↦ s.used block name h (u.0, u.2.0, u.2, λ earlier lt. u.3 earlier (omega arith) lt)
        | inr o ↦ s.through block name h o.1 (false_from_ne_true (has m (2 * g.blocks + block) name) (λ t. let d = (s.defined block name h).0 t in o.0 d.0 (omega arith) d.2))
      ]

  known_down : (name block place : ℕ) → (Defines g name (at_place block place) → ⊥) → Known name block (place + 1) → Known name block place
  unfolding Known
  known_down name block place clear k =
      elim k [
        | inl u ↦ inl (
          u.0,
          omega arith,
          u.2,
          λ j le lt. elim (cases_eq j place) [
            | inl e ↦ subst (λ (x : ℕ). Defines g name (at_place block x) → ⊥) (sym e) clear
            | inr ne ↦ u.3 j (elim (cases_lt place j) [ inl less ↦ omega arith | inr more ↦ absurd (ne (omega arith)) ]) lt
          ],
        )
        | inr o ↦ inr (
          (λ j le. elim (cases_eq j place) [
            | inl e ↦ subst (λ (x : ℕ). Defines g name (at_place block x) → ⊥) (sym e) clear
            | inr ne ↦ o.0 j (elim (cases_lt place j) [ inl less ↦ omega arith | inr more ↦ absurd (ne (omega arith)) ])
          ]),
          o.1,
        )
      ]

  known_use : (name block place : ℕ) → Uses g name (at_place block place) → Known name block place
  unfolding Known
  known_use name block place u = inl (place, omega arith, u, λ k le lt. absurd (omega arith))

  known_out : (name block place : ℕ) → place + 1 ≡ length_of g block → (Defines g name (at_place block place) → ⊥) → has m (g.blocks + block) name ≡ true → Known name block place
  unfolding Known
  known_out name block place last clear t =
      inr (
        (λ k le. elim (cases_eq k place) [
          | inl e ↦ subst (λ (x : ℕ). Defines g name (at_place block x) → ⊥) (sym e) clear
          | inr ne ↦ λ d. absurd (past k le ne d.0)
        ]),
        t,
      )
    where
      past : (k : ℕ) → place ≤ k → (k ≡ place → ⊥) → k < g.places block → ⊥
      past k le ne lt = ne (omega arith)

  known : (name : ℕ) (at : Place) (path : List Place) → at.block < g.blocks → IsPath g at path → EndsInUse g name at path → Known name at.block at.place
  known name at [] h p e = known_use name at.block at.place e
  known name at (next ∷ rest) h p e =
      elim p.0 [
        | inl down ↦
            let h' : next.block < g.blocks = subst (λ (b : ℕ). b < g.blocks) (sym down.1) h in
            let k = known name next rest h' p.1 e.1 in
            known_down name at.block at.place e.0 (subst (λ (q : ℕ). Known name at.block q) down.2 (subst (λ (b : ℕ). Known name b next.place) down.1 k))
        | inr out ↦
            let h' = next_below g at.block next.block range h out.1 in
            let k = known name next rest h' p.1 e.1 in
            known_out name at.block at.place out.0 e.0
            (edges at.block next.block h out.1 name (known_in name next.block h' (subst (λ (q : ℕ). Known name next.block q) out.2 k)))
      ]

  pub in_is_live : (name block : ℕ) → block < g.blocks → (has m block name ≡ true) ↔ LiveIn g name block
  in_is_live name block h = (
    λ t. s.ins block name h t,
    λ live. known_in name block h (known name (at_place block 0) live.path h live.is_path live.ends),
  )

  pub out_is_live : (name block : ℕ) → block < g.blocks → (has m (g.blocks + block) name ≡ true) ↔ LiveOut g name block
  out_is_live name block h = (
    λ t. s.outs block name h t,
    λ live. edges block live.0 h live.1 name ((in_is_live name live.0 (next_below g block live.0 range h live.1)).1 live.2),
  )

-- ---- from a place to a later one of its block

skip_one : (g : Graph) (name block place : ℕ) → place + 1 < length_of g block → (Uses g name (at_place block place) → ⊥) → (Defines g name (at_place block place) → ⊥)
    → LiveBefore g name (at_place block place) ↔ LiveBefore g name (at_place block (place + 1))
skip_one g name block place h unused clear = (
  λ live. elim (live_cases g name (at_place block place) live) [
    | inl u ↦ absurd (unused u)
    | inr n ↦ elim n.1.1 [
      | inl down ↦ subst (λ (q : ℕ). LiveBefore g name (at_place block q)) down.2 (subst (λ (b : ℕ). LiveBefore g name (at_place b n.1.0.place)) down.1 n.1.2)
      | inr out ↦ absurd (omega (arith, out.0))
    ]
  ],
  λ live. live-down g name block place h clear live,
)

skip_last : (g : Graph) (name block place : ℕ) → place + 1 ≡ length_of g block → (Uses g name (at_place block place) → ⊥) → (Defines g name (at_place block place) → ⊥)
    → LiveBefore g name (at_place block place) ↔ LiveOut g name block
skip_last g name block place h unused clear = (
  λ live. elim (live_cases g name (at_place block place) live) [
    | inl u ↦ absurd (unused u)
    | inr n ↦ elim n.1.1 [
      | inl down ↦ absurd (omega (arith, down.0))
      | inr out ↦ (n.1.0.block, out.1, subst (λ (q : ℕ). LiveBefore g name (at_place n.1.0.block q)) out.2 n.1.2)
    ]
  ],
  λ live. live-out g name block place h clear live,
)

-- no place from the one up to the other touches the name
abbrev pub IsUntouched : Graph → ℕ → ℕ → ℕ → ℕ → Type 0
IsUntouched g name block from to =
    (k : ℕ) → from ≤ k → k < to → (Uses g name (at_place block k) → ⊥) × (Defines g name (at_place block k) → ⊥)

pub skip : (g : Graph) (name block d from to : ℕ) → d + from ≡ to → to < length_of g block → IsUntouched g name block from to
    → LiveBefore g name (at_place block from) ↔ LiveBefore g name (at_place block to)
skip g name block zero from to e h none =
    let same : from ≡ to = omega arith in
    (λ live. subst (λ (q : ℕ). LiveBefore g name (at_place block q)) same live, λ live. subst (λ (q : ℕ). LiveBefore g name (at_place block q)) (sym same) live)
skip g name block (suc d) from to e h none =
    let here = none from (omega arith) (omega arith) in
    let one = skip_one g name block from (omega arith) here.0 here.1 in
    let rest = skip g name block d (from + 1) to (omega arith) h (λ k le lt. none k (omega arith) lt) in
    (λ live. rest.0 (one.0 live), λ live. one.1 (rest.1 live))

pub skip_all : (g : Graph) (name block from : ℕ) → from < length_of g block → IsUntouched g name block from (g.places block)
    → LiveBefore g name (at_place block from) ↔ LiveOut g name block
skip_all g name block from h none =
    let last : ℕ = length_of g block - 1 in
    let to = skip g name block (last - from) from last (omega arith) (omega arith) (λ k le lt. none k le (omega arith)) in
    let end = skip_last g name block last (omega arith) (λ u. (none last (omega arith) u.0).0 u) (λ d. (none last (omega arith) d.0).1 d) in
    (λ live. end.0 (to.0 live), λ live. to.1 (end.1 live))

-- ---- what is kept of the rows

in_row : (n block : ℕ) (sets : List BitSet) → block < n → slice_index_or (take n sets) block set.empty ≡ slice_index_or sets block set.empty
in_row n block sets h = get_or-take n sets block set.empty h

pub out_row : (n block : ℕ) (sets : List BitSet) → block < n → slice_index_or (take n (drop n sets)) block set.empty ≡ slice_index_or sets (n + block) set.empty
out_row n block sets h = get_or-take n (drop n sets) block set.empty h ∙ get_or-drop n sets block set.empty

pub liveness : (g : Graph) (m : BitRows) (n names : ℕ) → n ≡ g.blocks → names ≡ g.names → IsInRange g → IsSolving g m
    → ((block next : ℕ) → block < n → IsSuccessor g block next → Flows g m block next)
    → IsLivenessOf g (record { blocks = n; names = names; ins = take n m.sets; outs = take n (drop n m.sets) })
liveness g m n names e e' range s edges =
    let all : (block next : ℕ) → block < g.blocks → IsSuccessor g block next → Flows g m block next = λ block next h succ. edges block next (omega (arith, e)) succ in
    record {
      blocks = e;
      names = e';
      live_in = λ block name h _.
          let is = in_is_live g m range s all name block h in
          let same = ap (λ x. set.contains x name) (in_row n block m.sets (omega (arith, e))) in
          (λ t. is.0 (sym same ∙ t), λ live. same ∙ is.1 live);
      live_out = λ block name h _.
          let is = out_is_live g m range s all name block h in
          let same = ap (λ x. set.contains x name) (out_row n block m.sets (omega (arith, e)) ∙ ap (λ k. slice_index_or m.sets (k + block) set.empty) e) in
          (λ t. is.0 (sym same ∙ t), λ live. same ∙ is.1 live);
    }
