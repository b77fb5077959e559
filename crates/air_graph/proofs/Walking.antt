-- The walk over the instructions of a block and over the blocks.
use Rattle.std.proofs.Common.{◌≡◌, ℕ, ◌+◌, ◌-◌, ◌<◌, ◌≤◌, ◌⊎◌, ◌↔◌, inl, inr, true, false, Some, List, length, get_or, arith, refl, sym, ap, ◌∙◌, subst, []}
use Rattle.std.specs.Prelude.{Contains, slice_get}
use Rattle.std.proofs.lemmas.Bool.{cases_lt}
use Rattle.std.proofs.lemmas.Option.{slice_get-get_or, slice_get_within}
use Rattle.b3_ir.specs.declared.value.Reg.{Reg as Register}
use Rattle.flow_live.specs.Graph.{LiveOut}
use Rattle.air_ir.specs.Blocks.{block_of}
use Rattle.air_ir.specs.WellFormed.{StandsAt}
use Rattle.air_ir.specs.declared.op.AirOp.TheVariants as op
use Rattle.air_ir.specs.declared.operand.Home.{Home}
use Rattle.air_ir.specs.declared.operand.Home.TheVariants.{Tmp, Reg}
use Rattle.air_ir.specs.declared.procedure.AirBlock.{AirBlock}
use Rattle.air_ir.specs.declared.procedure.AirInst.{AirInst}
use Rattle.air_ir.specs.declared.procedure.AirProc.{AirProc}
use Rattle.air_flow.specs.Flow.{flow_of, touches_at}
use Rattle.air_flow.specs.Interfere.{Interfere, Meets}
use Rattle.air_flow.specs.Living.{IsLiveAfter, LiveByTouches, LiveOn, LivesOn}
use Rattle.air_graph.specs.Edges.{EdgeSet, has_edge}
use Rattle.air_graph.specs.Homes.{home_at, number_of, register_at}
use Rattle.air_graph.specs.Walk.{Adds, AreBelow, IsLiveNow, IsMet, IsTouchedOf, LiveNow, MeetAt, name_at}
use Rattle.air_graph.specs.declared.touched.Touched.{Touched}
use Rattle.air_flow.proofs.Names.{block_is}
use Rattle.air_graph.proofs.Adding.{adds_first, adds_step}
use Rattle.air_graph.proofs.Meeting.{defined_below, defined_iff, late_below, late_iff, meets_iff, used_below, used_iff}
use Rattle.air_graph.proofs.Numbers.{has_name, home_high, home_low, number_back, numbered, only_name, some_is}

-- any instruction, for places where there is none
abbrev pub some_inst : AirInst
some_inst = record { op = op.Oops; operands = []; value = 0; traps = false }

-- ---- registers

abbrev pub RegisterBelow : ℕ → ℕ → ℕ → ℕ → ℕ → Type 0
RegisterBelow tmps r s a b =
    ((a ≡ tmps + r) × ((tmps ≤ b) × (b < tmps + s))) ⊎ ((b ≡ tmps + r) × ((tmps ≤ a) × (a < tmps + s)))

abbrev pub BothBelow : ℕ → ℕ → ℕ → ℕ → Type 0
BothBelow tmps r a b = ((tmps ≤ a) × (a < tmps + r)) × ((tmps ≤ b) × (b < tmps + r))

pub registers_step : (n tmps r : ℕ) (old m new : EdgeSet) → Adds n old m (BothBelow tmps r) → Adds n m new (RegisterBelow tmps r r)
    → Adds n old new (BothBelow tmps (r + 1))
registers_step n tmps r old m new adds step =
    adds_step n old m new (BothBelow tmps r) (BothBelow tmps (r + 1)) (RegisterBelow tmps r r) adds step
    (λ a b _ _ q. elim q [
      | inl s ↦ ((omega (arith, s), omega (arith, s)), (omega (arith, s), omega (arith, s)))
      | inr s ↦ ((omega (arith, s), omega (arith, s)), (omega (arith, s), omega (arith, s)))
    ])
    (λ a b _ _ q. ((q.0.0, omega (arith, q.0.1)), (q.1.0, omega (arith, q.1.1))))
    (λ a b _ _ ne q. elim (cases_lt a (tmps + r)) [
      | inl la ↦ elim (cases_lt b (tmps + r)) [
        | inl lb ↦ inl ((q.0.0, la), (q.1.0, lb))
        | inr lb ↦ inr (inr (omega (arith, q.1.1, lb), (q.0.0, la)))
      ]
      | inr la ↦
          let e : a ≡ tmps + r = omega (arith, q.0.1, la) in
          inr (inl (e, (q.1.0, omega (arith, q.1.1, e, ne))))
    ])

-- ---- instructions

module _ (p : AirProc) (block : ℕ) (inside : block < length p.blocks) where
  abbrev of : AirBlock
  of = block_of p block

  of_there : slice_get p.blocks block ≡ Some of
  of_there = slice_get-get_or p.blocks block (record { insts = []; targets = [] }) inside

  -- from a place on, homes meet at an instruction
  abbrev pub MeetFrom : ℕ → ℕ → ℕ → Type 0
  MeetFrom place a b = (at : ℕ) × (place ≤ at) × MeetAt p block at a b

  module _ (place : ℕ) (d : AirInst) (lt : place < length of.insts) where
    abbrev inst : AirInst
    inst = get_or of.insts place d

    pub stands : StandsAt p block place inst
    stands = record { of = of; block_there = of_there; inst_there = slice_get-get_or of.insts place d lt }

    only : (j : AirInst) → StandsAt p block place j → j ≡ inst
    only j s =
        let same : s.of ≡ of = some_is s.of of (sym s.block_there ∙ of_there) in
        some_is j inst (sym s.inst_there ∙ ap (λ (b : AirBlock). slice_get b.insts place) same ∙ slice_get-get_or of.insts place d lt)

    -- what is live behind it
    module _ (lives : LiveOn) (n : ℕ) (below : n < p.tmps + 25) where
      at_law : LivesOn p block place of (home_at p.tmps n)
      at_law = lives p block place of (home_at p.tmps n) of_there

      pub after_is : IsLiveAfter p (record { block = block; place = place }) (home_at p.tmps n) ↔ IsLiveNow p block (place + 1) n
      after_is =
          elim (cases_lt (place + 1) (length of.insts)) [
            | inl less ↦
                let law = at_law.next less in (
                  λ a. inl (less, law.0 a),
                  λ l. elim l [ inl q ↦ law.1 q.1 | inr q ↦ absurd (omega (arith, q.0, less)) ],
                )
            | inr more ↦
                let end : place + 1 ≡ length of.insts = omega (arith, more, lt) in
                let law = at_law.last end in (
                  λ a.
                      let out = law.0 a in
                      inr (end, subst (λ (k : ℕ). LiveOut (flow_of p) k block) (only_name p n below out.0 out.1) out.2),
                  λ l. elim l [
                    | inl q ↦ absurd (omega (arith, q.0, more))
                    | inr q ↦ law.1 (name_at p.tmps n, has_name p n below, q.1)
                  ],
                )
          ]

    module _ (law : LiveByTouches) (lives : LiveOn) (t : Touched) (is : (i : AirInst) → StandsAt p block place i
        → IsTouchedOf p.tmps (touches_at p block place) i t)
        (live : List ℕ) (now : LiveNow p block (place + 1) live) where
      touched : IsTouchedOf p.tmps (touches_at p block place) inst t
      touched = is inst stands

      pub all_below : AreBelow (p.tmps + 25) t.used × (AreBelow (p.tmps + 25) t.late × AreBelow (p.tmps + 25) t.defined)
      all_below = (
        λ a c. used_below p block place inst stands t touched a c,
        (λ a c. late_below p block place inst stands t touched a c, λ a c. defined_below p block place inst stands t touched a c),
      )

      lives_after : (n : ℕ) → n < p.tmps + 25 → Contains live n ↔ IsLiveAfter p (record { block = block; place = place }) (home_at p.tmps n)
      lives_after n below =
          let here = now.is n below in
          let after = after_is lives n below in
          (λ c. after.1 (here.0 c), λ a. here.1 (after.0 a))

      -- one place before
      pub live_step : (before : List ℕ)
          → ((y : ℕ) → Contains before y ↔ ((Contains t.used y ⊎ Contains t.late y) ⊎ (Contains live y × (Contains t.defined y → ⊥))))
          → LiveNow p block place before
      live_step before both = record {
        below = λ y c. elim ((both y).0 c) [
          | inl u ↦ elim u [ inl v ↦ all_below.0 y v | inr v ↦ all_below.1.0 y v ]
          | inr v ↦ now.below y v.0
        ];
        is = λ n below.
            let touches = law p block place inst stands (home_at p.tmps n) in
            let used = used_iff p block place inst stands t touched n below in
            let late = late_iff p block place inst stands t touched n below in
            let defined = defined_iff p block place inst stands t touched n below in
            let after = lives_after n below in (
              λ c. inl (
                lt,
                touches.1 (elim ((both n).0 c) [
                  | inl u ↦ inl (elim u [ inl v ↦ inl (used.0 v) | inr v ↦ inr (late.0 v) ])
                  | inr v ↦ inr (after.0 v.0, λ d. v.1 (defined.1 d))
                ]),
              ),
              λ l. (both n).1 (elim l [
                | inl q ↦ elim (touches.0 q.1) [
                  | inl u ↦ inl (elim u [ inl v ↦ inl (used.1 v) | inr v ↦ inr (late.1 v) ])
                  | inr v ↦ inr (after.1 v.0, λ d. v.1 (defined.0 d))
                ]
                | inr q ↦ absurd (omega (arith, q.0, lt))
              ]),
            );
      }

      abbrev pub MetBy : ℕ → ℕ → Type 0
      MetBy a b = (Contains t.defined a × IsMet p.tmps t live a b) ⊎ (Contains t.defined b × IsMet p.tmps t live b a)

      meet_is : (a b : ℕ) → a < p.tmps + 25 → b < p.tmps + 25 → (MetBy a b ↔ MeetAt p block place a b)
      meet_is a b la lb =
          let one = meets_iff p block place inst stands t touched live a b la lb (lives_after b lb) in
          let other = meets_iff p block place inst stands t touched live b a lb la (lives_after a la) in (
            λ m. (inst, stands, elim m [ inl q ↦ inl (one.0 q) | inr q ↦ inr (other.0 q) ]),
            λ m.
                let q : Meets p (record { block = block; place = place }) inst (home_at p.tmps a) (home_at p.tmps b)
                ⊎ Meets p (record { block = block; place = place }) inst (home_at p.tmps b) (home_at p.tmps a) =
                subst (λ (j : AirInst). Meets p (record { block = block; place = place }) j (home_at p.tmps a) (home_at p.tmps b)
                ⊎ Meets p (record { block = block; place = place }) j (home_at p.tmps b) (home_at p.tmps a)) (only m.0 m.1) m.2 in
                elim q [ inl r ↦ inl (one.1 r) | inr r ↦ inr (other.1 r) ],
          )

      pub edges_step : (old m new : EdgeSet) → Adds (p.tmps + 25) old m (MeetFrom (place + 1)) → Adds (p.tmps + 25) m new MetBy
          → Adds (p.tmps + 25) old new (MeetFrom place)
      edges_step old m new adds step =
          adds_step (p.tmps + 25) old m new (MeetFrom (place + 1)) (MeetFrom place) MetBy adds step
          (λ a b la lb r. (place, omega arith, (meet_is a b la lb).0 r))
          (λ a b _ _ q. (q.0, omega (arith, q.1), q.2))
          (λ a b la lb _ q. elim (cases_lt place q.0) [
            | inl less ↦ inl (q.0, omega (arith, less), q.2)
            | inr le ↦
                let e : q.0 ≡ place = omega (arith, le, q.1) in
                inr ((meet_is a b la lb).1 (subst (λ (k : ℕ). MeetAt p block k a b) e q.2))
          ])

-- at the end of a block
pub live_last : (p : AirProc) (block : ℕ) (live : List ℕ) → AreBelow (p.tmps + 25) live
    → ((n : ℕ) → n < p.tmps + 25 → Contains live n ↔ LiveOut (flow_of p) (name_at p.tmps n) block)
    → LiveNow p block (length (block_of p block).insts) live
live_last p block live below out = record {
  below = below;
  is = λ n lt. (
    λ c. inr (refl, (out n lt).0 c),
    λ l. elim l [ inl q ↦ absurd (omega (arith, q.0)) | inr q ↦ (out n lt).1 q.1 ],
  );
}

pub none_behind : (p : AirProc) (block : ℕ) (old : EdgeSet)
    → Adds (p.tmps + 25) old old (λ a b. (at : ℕ) × (length (block_of p block).insts ≤ at) × MeetAt p block at a b)
none_behind p block old =
    adds_first (p.tmps + 25) old (λ a b. (at : ℕ) × (length (block_of p block).insts ≤ at) × MeetAt p block at a b)
    (λ a b _ _ _ q.
    let s : StandsAt p block q.0 q.2.0 = q.2.1 in
    let there = slice_get_within s.of.insts q.0 q.2.0 s.inst_there in
    let e : block_of p block ≡ s.of = block_is p block s.of s.block_there in
    let long : length (block_of p block).insts ≡ length s.of.insts = ap (λ (b : AirBlock). length b.insts) e in
    omega (arith, there, long, q.1))

-- ---- blocks

abbrev pub MeetIn : AirProc → ℕ → ℕ → ℕ → Type 0
MeetIn p block a b = (place : ℕ) × MeetAt p block place a b

abbrev pub MeetBelow : AirProc → ℕ → ℕ → ℕ → Type 0
MeetBelow p block a b = (at : ℕ) × (at < block) × MeetIn p at a b

pub block_step : (p : AirProc) (block : ℕ) (old m new : EdgeSet) → Adds (p.tmps + 25) old m (MeetBelow p block)
    → Adds (p.tmps + 25) m new (MeetIn p block) → Adds (p.tmps + 25) old new (MeetBelow p (block + 1))
block_step p block old m new adds step =
    adds_step (p.tmps + 25) old m new (MeetBelow p block) (MeetBelow p (block + 1)) (MeetIn p block) adds step
    (λ a b _ _ r. (block, omega arith, r))
    (λ a b _ _ q. (q.0, omega (arith, q.1), q.2))
    (λ a b _ _ _ q. elim (cases_lt q.0 block) [
      | inl less ↦ inl (q.0, less, q.2)
      | inr le ↦ let e : q.0 ≡ block = omega (arith, le, q.1) in inr (subst (λ (k : ℕ). MeetIn p k a b) e q.2)
    ])

-- ---- the whole

abbrev pub AreHigh : ℕ → ℕ → ℕ → Type 0
AreHigh tmps a b = (tmps ≤ a) × (tmps ≤ b)

module _ (p : AirProc) (i j : ℕ) (li : i < p.tmps + 25) (lj : j < p.tmps + 25) where
  same_number : home_at p.tmps i ≡ home_at p.tmps j → i ≡ j
  same_number e = some_is i j (sym (number_back p.tmps i li) ∙ ap (number_of p.tmps) e ∙ number_back p.tmps j lj)

  high_is : (n : ℕ) (r : Register) → home_at p.tmps n ≡ Reg r → p.tmps ≤ n
  high_is n r e =
      elim (cases_lt n p.tmps) [
        | inl lt ↦ absurd (let f : Tmp n ≡ Reg r = sym (home_low p.tmps n lt) ∙ e in cc)
        | inr le ↦ le
      ]

  pub interfere_is : ((i ≡ j → ⊥) × (AreHigh p.tmps i j ⊎ MeetBelow p (length p.blocks) i j)) ↔ Interfere p (home_at p.tmps i) (home_at p.tmps j)
  interfere_is = (
    λ q. (
      λ e. q.0 (same_number e),
      elim q.1 [
        | inl h ↦ inl (record { 0 = register_at (i - p.tmps) }, record { 0 = register_at (j - p.tmps) }, home_high p.tmps i h.0, home_high p.tmps j h.1)
        | inr m ↦ inr (record { block = m.0; place = m.2.0 }, m.2.1.0, m.2.1.1, m.2.1.2)
      ],
    ),
    λ q. (
      λ e. q.0 (ap (home_at p.tmps) e),
      elim q.1 [
        | inl r ↦ inl (high_is i r.0 r.2, high_is j r.1 r.3)
        | inr m ↦
            let s : StandsAt p m.0.block m.0.place m.1 = m.2 in
            inr (m.0.block, slice_get_within p.blocks m.0.block s.of s.block_there, (m.0.place, (m.1, s, m.3)))
      ],
    ),
  )

-- what the edges of the whole walk are
pub whole : (p : AirProc) (none first edges : EdgeSet) → ((x y : ℕ) → has_edge none x y ≡ true → ⊥)
    → Adds (p.tmps + 25) none first (AreHigh p.tmps) → Adds (p.tmps + 25) first edges (MeetBelow p (length p.blocks))
    → (a b : Home) (i j : ℕ) → number_of p.tmps a ≡ Some i → number_of p.tmps b ≡ Some j → (has_edge edges i j ≡ true) ↔ Interfere p a b
whole p none first edges blank registers blocks a b i j ea eb =
    let na = numbered p.tmps a i ea in
    let nb = numbered p.tmps b j eb in
    let is = interfere_is p i j na.0 nb.0 in
    let all = blocks i j na.0 nb.0 in
    let regs = registers i j na.0 nb.0 in
    subst (λ (h : Home). (has_edge edges i j ≡ true) ↔ Interfere p h b) (sym na.1)
    (subst (λ (h : Home). (has_edge edges i j ≡ true) ↔ Interfere p (home_at p.tmps i) h) (sym nb.1) (
      λ t. is.0 (elim (all.0 t) [
        | inl u ↦ elim (regs.0 u) [ inl v ↦ absurd (blank i j v) | inr v ↦ (v.0, inl v.1) ]
        | inr u ↦ (u.0, inr u.1)
      ]),
      λ f. let q = is.1 f in all.1 (elim q.1 [
        | inl h ↦ inl (regs.1 (inr (q.0, h)))
        | inr m ↦ inr (q.0, m)
      ]),
    ))

pub high_edges : (n tmps : ℕ) (none first edges : EdgeSet) (Q : ℕ → ℕ → Type 0) → n ≡ tmps + 25 → Adds n none first (AreHigh tmps)
    → Adds n first edges Q → (r s : ℕ) → r < 25 → s < 25 → (r ≡ s → ⊥) → has_edge edges (tmps + r) (tmps + s) ≡ true
high_edges n tmps none first edges Q e registers blocks r s lr ls ne =
    (blocks (tmps + r) (tmps + s) (omega (arith, e, lr)) (omega (arith, e, ls))).1
    (inl ((registers (tmps + r) (tmps + s) (omega (arith, e, lr)) (omega (arith, e, ls))).1
    (inr (λ f. ne (omega (arith, f)), (omega arith, omega arith)))))
