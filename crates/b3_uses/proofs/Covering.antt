-- An id is covered at a place exactly where it is defined earlier in the block, or is not live out
-- of the block in the reversed flow.
use Rattle.std.proofs.Common.{◌≡◌, ◌≢◌, ℕ, zero, suc, ◌+◌, ◌-◌, ◌<◌, ◌≤◌, ◌⊎◌, ◌↔◌, inl, inr, List, [], ◌∷◌, Some, Option, length, sym, ap, ◌∙◌, subst, arith, ⊎_elim}
use Rattle.std.proofs.lemmas.Bool.{cases_eq}
use Rattle.std.specs.Prelude.{Contains, slice_index_or}
use Rattle.flow_live.specs.Graph.{Graph, Place, Uses, Defines, length_of, IsPath as IsFlowPath, EndsInUse, LiveIn, LiveOut}
use Rattle.flow_live.specs.Solving.{IsDefinedBelow}
use Rattle.flow_live.proofs.Paths.{live_exposed, live_through}
use Rattle.b3_ir.specs.Procedure.{Block, Procedure, no_block, values_of}
use Rattle.b3_ir.specs.declared.value.Value.{Value}
use Rattle.b3_rules.specs.Paths.{IsSuccessor, IsPath, HasRun, IsCovered}
use Rattle.b3_uses.specs.Origins.{IsPassed, PassedDefinition}
use Rattle.b3_uses.specs.Reversed.{HasDefinition, IsReversed, turned}
use Rattle.b3_uses.proofs.Contained.{contains_none, contains_head, contains_tail, contains_cases}

-- ---- decided by search
pub defined_or_not : (vs : List Value) (id : ℕ) → HasDefinition vs id ⊎ (HasDefinition vs id → ⊥)
defined_or_not [] id = inr (λ d. contains_none d.0 d.1)
defined_or_not (u ∷ vs) id =
    elim (cases_eq u.id id) [
      | inl e ↦ inl (u, contains_head u vs, e)
      | inr other ↦ elim (defined_or_not vs id) [
        | inl d ↦ inl (d.0, contains_tail u vs d.0 d.1, d.2)
        | inr none ↦ inr (λ d. ⊎_elim (λ (e : u ≡ d.0). other (ap (λ (x : Value). x.id) e ∙ d.2)) (λ more. none (d.0, more, d.2))
            (contains_cases u vs d.0 d.1))
      ]
    ]

passed_or_not : (p : Procedure) (passed : List ℕ) (id : ℕ) → PassedDefinition p passed id ⊎ (PassedDefinition p passed id → ⊥)
passed_or_not p [] id = inr (λ d. contains_none d.0 d.1)
passed_or_not p (c ∷ passed) id =
    elim (defined_or_not (values_of p c) id) [
      | inl d ↦ inl (c, contains_head c passed, d)
      | inr none ↦ elim (passed_or_not p passed id) [
        | inl d ↦ inl (d.0, contains_tail c passed d.0 d.1, d.2)
        | inr never ↦ inr (λ d. ⊎_elim (λ (e : c ≡ d.0). none (subst (λ (x : ℕ). HasDefinition (values_of p x) id) (sym e) d.2))
            (λ more. never (d.0, more, d.2)) (contains_cases c passed d.0 d.1))
      ]
    ]

-- a block with a value is one of the blocks
pub block_in : (blocks : List Block) (b : ℕ) (v : Value) → Contains (slice_index_or blocks b no_block).values v → b < length blocks
block_in [] b v has = absurd (contains_none v has)
block_in (block ∷ blocks) zero v has = omega arith
block_in (block ∷ blocks) (suc b) v has = let lt : b < length blocks = block_in blocks b v has in omega arith

ran : (p : Procedure) (id : ℕ) (passed : List ℕ) (before : List Value) → HasDefinition before id ⊎ PassedDefinition p passed id
    → (v : Value) × (v.id ≡ id) × HasRun p passed before v
ran p id passed before (inl d) = (d.0, d.2, inl d.1)
ran p id passed before (inr d) = ((d.2).0, (d.2).2, inr (d.0, d.1, (d.2).1))

-- an id is covered where each path to the block passes a block that defines it
pub passed_covered : (p : Procedure) (block : ℕ) (before : List Value) (id : ℕ) → IsPassed p block id → IsCovered p block before id
passed_covered p block before id is passed path = ran p id passed before (inr (is passed path))

abbrev at_place : ℕ → ℕ → Place
at_place block place = record { block = block; place = place }

module _ (p : Procedure) (names : ℕ → Option ℕ) (g : Graph) (reversed : IsReversed p names g) (id name : ℕ) (is : names id ≡ Some name) where
  abbrev back : ℕ → ℕ
  back at = turned g.blocks at

  back_below : (at : ℕ) → at < g.blocks → back at < g.blocks
  back_below at lt = omega arith

  back_back : (at : ℕ) → at < g.blocks → back (back at) ≡ at
  back_back at lt = omega arith

  source_in : (d c : ℕ) → IsSuccessor p d c → d < g.blocks
  source_in d c leads = let lt : d < length p.blocks = block_in p.blocks d leads.0 leads.1 in omega (arith, reversed.blocks)

  -- a path that doesn't define the id makes its name live into the block it leads to
  live_along : (passed : List ℕ) (at : ℕ) → at < g.blocks → IsPath p passed (back at) → (PassedDefinition p (back at ∷ passed) id → ⊥) → LiveIn g name at
  live_along [] at lt path never = live_exposed g name at (g.places at - 1, omega (arith, reversed.some at lt), use_, clear)
    where
      use_ : Uses g name (at_place at (g.places at - 1))
      use_ = (reversed.uses at (g.places at - 1) name lt (reversed.named id name is)).1 (path, omega (arith, reversed.some at lt))

      clear : (earlier : ℕ) → earlier < g.places at - 1 → Defines g name (at_place at earlier) → ⊥
      clear earlier less d = never (back at, contains_head (back at) [], (reversed.defines at id name lt is).0 (earlier, d))
  live_along (d ∷ passed) at lt path never =
      live_through g name at
      (λ (below : IsDefinedBelow g name at (g.places at)). never
      (back at, contains_head (back at) (d ∷ passed), (reversed.defines at id name lt is).0 (below.0, below.2))) (
        back d,
        (reversed.leads at (back d) lt in_d).1 (subst (λ (b : ℕ). IsSuccessor p b (back at)) (sym same) path.0),
        live_along passed (back d) in_d (subst (λ (b : ℕ). IsPath p passed b) (sym same) path.1) clear,
      )
    where
      source : d < g.blocks
      source = source_in d (back at) path.0

      in_d : back d < g.blocks
      in_d = back_below d source

      same : back (back d) ≡ d
      same = back_back d source

      clear : PassedDefinition p (back (back d) ∷ passed) id → ⊥
      clear h =
          let there : PassedDefinition p (d ∷ passed) id = subst (λ (b : ℕ). PassedDefinition p (b ∷ passed) id) same h in
          never (there.0, contains_tail (back at) (d ∷ passed) there.0 there.1, there.2)

  -- a use that is reached backwards is a path that doesn't define the id
  abbrev Missing : Place → Type 0
  Missing at = (passed : List ℕ) × IsPath p passed (back at.block) × (PassedDefinition p passed id → ⊥)
      × ((place : ℕ) → at.place ≤ place → Defines g name (at_place at.block place) → ⊥)

  ends_at_root : (at : Place) → at.block < g.blocks → Uses g name at → Missing at
  ends_at_root at in_flow use_ =
      let here = (reversed.uses at.block at.place name in_flow (reversed.named id name is)).0 use_ in
      let last : at.place + 1 ≡ g.places at.block = here.1 in (
        [],
        here.0,
        (λ d. contains_none d.0 d.1),
        λ place le d.
            let below : place < g.places at.block = d.0 in
            reversed.entry at.block place name in_flow here.0 (omega arith) d,
      )

  down : (at next : Place) → next.block ≡ at.block → next.place ≡ at.place + 1 → (Defines g name at → ⊥) → Missing next → Missing at
  down at next same step clear m = (
    m.0,
    subst (λ (b : ℕ). IsPath p m.0 (back b)) same m.1,
    m.2,
    λ place le d.
        ⊎_elim
        (λ (e : place ≡ at.place). clear (subst (λ (q : ℕ). Defines g name (at_place at.block q)) e d))
        (λ (other : place ≢ at.place). m.3 place (omega arith) (subst (λ (b : ℕ). Defines g name (at_place b place)) (sym same) d))
        (cases_eq place at.place),
  )

  back_to : (at next : Place) → at.block < g.blocks → next.block < g.blocks → at.place + 1 ≡ length_of g at.block
      → IsSuccessor p (back next.block) (back at.block) → next.place ≡ 0 → (Defines g name at → ⊥) → Missing next → Missing at
  back_to at next in_flow next_in last leads first clear m = (
    back next.block ∷ m.0,
    (leads, m.1),
    never,
    λ place le d.
        let below : place < g.places at.block = d.0 in
        let e : place ≡ at.place = omega arith in
        clear (subst (λ (q : ℕ). Defines g name (at_place at.block q)) e d),
  )
    where
      none : HasDefinition (values_of p (back next.block)) id → ⊥
      none d = let there = (reversed.defines next.block id name next_in is).1 d in m.3 there.0 (omega arith) there.1

      never : PassedDefinition p (back next.block ∷ m.0) id → ⊥
      never d =
          ⊎_elim (λ (e : back next.block ≡ d.0). none (subst (λ (b : ℕ). HasDefinition (values_of p b) id) (sym e) d.2)) (λ more. m.2 (d.0, more, d.2))
          (contains_cases (back next.block) m.0 d.0 d.1)

  missing_at : (rest : List Place) (at : Place) → at.block < g.blocks → IsFlowPath g at rest → EndsInUse g name at rest → Missing at
  missing_at [] at in_flow path ends = ends_at_root at in_flow ends
  missing_at (next ∷ rest) at in_flow path ends =
      elim (path.0) [
        | inl h ↦
            let same : next.block ≡ at.block = h.1 in
            down at next same h.2 ends.0 (missing_at rest next (omega arith) path.1 ends.1)
        | inr h ↦
            let next_in : next.block < g.blocks = reversed.inside at.block next.block in_flow h.1 in
            let leads : IsSuccessor p (back next.block) (back at.block) = (reversed.leads at.block next.block in_flow next_in).0 h.1 in
            back_to at next in_flow next_in h.0 leads h.2 ends.0 (missing_at rest next next_in path.1 ends.1)
      ]

  missing_out : (at : ℕ) → at < g.blocks → LiveOut g name at → (passed : List ℕ) × IsPath p passed (back at) × (PassedDefinition p passed id → ⊥)
  missing_out at in_flow live =
      let next_in : live.0 < g.blocks = reversed.inside at live.0 in_flow live.1 in
      let leads : IsSuccessor p (back live.0) (back at) = (reversed.leads at live.0 in_flow next_in).0 live.1 in
      let m = missing_at (live.2).path (at_place live.0 0) next_in (live.2).is_path (live.2).ends in (
        back live.0 ∷ m.0,
        (leads, m.1),
        λ d. ⊎_elim
            (λ (e : back live.0 ≡ d.0). let there = (reversed.defines live.0 id name next_in is).1
            (subst (λ (b : ℕ). HasDefinition (values_of p b) id) (sym e) d.2) in m.3 there.0 (omega arith) there.1)
            (λ more. m.2 (d.0, more, d.2)) (contains_cases (back live.0) m.0 d.0 d.1),
      )

  -- a path misses the id at a place exactly where it isn't defined earlier in the block and the block is
  -- block 0 or the name is live out of it
  not_ran : (passed : List ℕ) (before : List Value) → (HasDefinition before id → ⊥) → (PassedDefinition p passed id → ⊥) → (v : Value) → v.id ≡ id
      → HasRun p passed before v → ⊥
  not_ran passed before here never v e (inl h) = here (v, h, e)
  not_ran passed before here never v e (inr h) = never (h.0, h.1, (v, h.2, e))

  missed_live : (block : ℕ) (passed : List ℕ) → block < g.blocks → IsPath p passed block → (PassedDefinition p passed id → ⊥)
      → (block ≡ 0) ⊎ LiveOut g name (back block)
  missed_live block [] lt path never = inl path
  missed_live block (c ∷ passed) lt path never =
      inr (
        back c,
        (reversed.leads (back block) (back c) (back_below block lt) in_c).1
            (subst (λ (b : ℕ). IsSuccessor p b (back (back block))) (sym same) (subst (λ (b : ℕ). IsSuccessor p c b) (sym (back_back block lt)) path.0)),
        live_along passed (back c) in_c (subst (λ (b : ℕ). IsPath p passed b) (sym same) path.1)
            (λ h. never (subst (λ (b : ℕ). PassedDefinition p (b ∷ passed) id) same h)),
      )
    where
      source : c < g.blocks
      source = source_in c block path.0

      in_c : back c < g.blocks
      in_c = back_below c source

      same : back (back c) ≡ c
      same = back_back c source

  covered_if : (block : ℕ) (before : List Value) → block < g.blocks → HasDefinition before id ⊎ ((block ≢ 0) × (LiveOut g name (back block) → ⊥))
      → IsCovered p block before id
  covered_if block before lt (inl d) passed path = ran p id passed before (inl d)
  covered_if block before lt (inr h) passed path =
      elim (passed_or_not p passed id) [
        | inl d ↦ ran p id passed before (inr d)
        | inr never ↦ absurd (⊎_elim h.0 h.1 (missed_live block passed lt path never))
      ]

  if_covered : (block : ℕ) (before : List Value) → block < g.blocks → IsCovered p block before id
      → HasDefinition before id ⊎ ((block ≢ 0) × (LiveOut g name (back block) → ⊥))
  if_covered block before lt covered =
      elim (defined_or_not before id) [
        | inl d ↦ inl d
        | inr none ↦ inr (
          (λ e. let d = covered [] e in not_ran [] before none (λ h. contains_none h.0 h.1) d.0 d.1 d.2),
          λ live.
              let m = missing_out (back block) (back_below block lt) live in
              let d = covered m.0 (subst (λ (b : ℕ). IsPath p m.0 b) (back_back block lt) m.1) in
              not_ran m.0 before none m.2 d.0 d.1 d.2,
        )
      ]

  pub covered_iff : (block : ℕ) (before : List Value) → block < g.blocks
      → IsCovered p block before id ↔ (HasDefinition before id ⊎ ((block ≢ 0) × (LiveOut g name (back block) → ⊥)))
  covered_iff block before lt = (if_covered block before lt, covered_if block before lt)
