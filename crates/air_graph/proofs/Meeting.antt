-- What an instruction does to homes, by lists of numbers.
use Rattle.std.proofs.Common.{◌≡◌, ℕ, ◌+◌, ◌<◌, ◌⊎◌, ◌↔◌, inl, inr, Bool, true, false, not, Some, List, [], ◌∷◌, ◌++◌, length, get_or, take, refl, sym, ap, ◌∙◌, subst}
use Rattle.std.specs.Prelude.{Contains, filter, filter_map}
use Rattle.std.proofs.lemmas.Bool.{false≢true}
use Rattle.std.proofs.lemmas.List.Elements.{Contains-append_cases, Contains-append_left, Contains-append_right, Contains-push, Contains-push_cases}
use Rattle.flow_live.specs.declared.touch.Touch.{Touch}
use Rattle.flow_live.specs.declared.touch.Touch.TheVariants as touch
use Rattle.air_ir.specs.WellFormed.{StandsAt}
use Rattle.air_ir.specs.declared.operand.Arg.{Arg}
use Rattle.air_ir.specs.declared.operand.Arg.TheVariants.{At, Imm, Addr, Index, FrameSlot}
use Rattle.air_ir.specs.declared.operand.Home.{Home}
use Rattle.air_ir.specs.declared.operand.Operand.{Operand}
use Rattle.air_ir.specs.declared.operand.Role.{Role}
use Rattle.air_ir.specs.declared.operand.Role.TheVariants.{Use, LateUse, EarlyDef, Def, Clobber}
use Rattle.air_ir.specs.declared.procedure.AirInst.{AirInst}
use Rattle.air_ir.specs.declared.procedure.AirProc.{AirProc}
use Rattle.air_flow.specs.Flow.{inst_touches, touches_at}
use Rattle.air_flow.specs.Interfere.{IsCopied, IsEarly, Meets}
use Rattle.air_flow.specs.Living.{IsDefinedBy, IsLiveAfter, IsTouchedBy, IsUsedBy, IsUsedLateBy}
use Rattle.air_flow.proofs.Names.{touches_are}
use Rattle.air_graph.specs.Edges.{EdgeSet}
use Rattle.air_graph.specs.Homes.{home_at}
use Rattle.air_graph.specs.Walk.{Adds, AreBelow, IsMet, IsTouchedOf, defined_by, early_of, early_role, in_list, is_move, name_at, used_by, used_late_by}
use Rattle.air_graph.specs.declared.moves.Copied.{Copied}
use Rattle.air_graph.specs.declared.touched.Touched.{Touched}
use Rattle.air_graph.proofs.Adding.{FromTo, adds_step, contains_more, filtered, listed, moved}
use Rattle.air_graph.proofs.Numbers.{In, def_is, from_in, has_name, late_is, named_back, number_back, numbered, only_name, picked, picked_below, picked_touch, picks, to_in, used_is}
use Rattle.air_graph.proofs.Pairs.{copied_is}

either : (b : Bool) → (b ≡ true) ⊎ (b ≡ false)
either true = inl refl
either false = inr refl

not_true : (b : Bool) → not b ≡ true → b ≡ false
not_true true t = absurd (false≢true t)
not_true false t = refl

false_not : (b : Bool) → b ≡ false → not b ≡ true
false_not b e = rw e refl

appended : {X : Type 0} (xs ys : List X) (x : X) → Contains (xs ++ ys) x ↔ (Contains xs x ⊎ Contains ys x)
appended xs ys x = (
  λ c. Contains-append_cases xs ys x c,
  λ c. elim c [ inl i ↦ Contains-append_left xs ys x i | inr i ↦ Contains-append_right xs ys x i ],
)

-- a test that each passes leaves a list as it is
pub all_kept : (test : ℕ → Bool) (xs : List ℕ) → ((x : ℕ) → test x ≡ true) → filter test xs ≡ xs
all_kept test [] all = refl
all_kept test (x ∷ xs) all = rw (all x) (ap (λ (l : List ℕ). x ∷ l) (all_kept test xs all))

-- ---- what is live before

pub without : (defined live list : List ℕ) → list ≡ filter (λ y. not (in_list defined y)) live → (y : ℕ)
    → Contains list y ↔ (Contains live y × (Contains defined y → ⊥))
without defined live list e y =
    let kept = filtered (λ y. not (in_list defined y)) live y in (
      λ c. let k = kept.0 (subst (λ (l : List ℕ). Contains l y) e c) in
          (k.0, λ d. false≢true (sym (not_true (in_list defined y) k.1) ∙ (listed defined y).1 d)),
      λ c. subst (λ (l : List ℕ). Contains l y) (sym e) (kept.1 (
        c.0,
        false_not (in_list defined y) (elim (either (in_list defined y)) [
          | inl t ↦ absurd (c.1 ((listed defined y).0 t))
          | inr f ↦ f
        ]),
      )),
    )

-- more of a list is in another
module _ (first list new more : List ℕ) (k : ℕ) (lt : k < length more)
    (is : (y : ℕ) → Contains list y ↔ (Contains first y ⊎ Contains (take k more) y)) where
  one_missing : ((y : ℕ) → Contains new y ↔ (Contains list y ⊎ (y ≡ get_or more k 0)))
      → (y : ℕ) → Contains new y ↔ (Contains first y ⊎ Contains (take (k + 1) more) y)
  one_missing grown y =
      let step = contains_more more k 0 y lt in (
        λ c. elim ((grown y).0 c) [
          | inl i ↦ elim ((is y).0 i) [ inl j ↦ inl j | inr j ↦ inr (step.1 (inl j)) ]
          | inr e ↦ inr (step.1 (inr e))
        ],
        λ c. (grown y).1 (elim c [
          | inl i ↦ inl ((is y).1 (inl i))
          | inr i ↦ elim (step.0 i) [ inl j ↦ inl ((is y).1 (inr j)) | inr e ↦ inr e ]
        ]),
      )

  pub missing_pushed : new ≡ list ++ get_or more k 0 ∷ [] → (y : ℕ) → Contains new y ↔ (Contains first y ⊎ Contains (take (k + 1) more) y)
  missing_pushed e =
      let item : ℕ = get_or more k 0 in
      one_missing (λ y. (
        λ c. elim (Contains-push_cases list item y (subst (λ (l : List ℕ). Contains l y) e c)) [ inl i ↦ inl i | inr s ↦ inr (sym s) ],
        λ c. subst (λ (l : List ℕ). Contains l y) (sym e) (elim c [
          | inl i ↦ Contains-append_left list (item ∷ []) y i
          | inr s ↦ subst (λ (z : ℕ). Contains (list ++ item ∷ []) z) (sym s) (Contains-push list item)
        ]),
      ))

  pub missing_had : new ≡ list → in_list list (get_or more k 0) ≡ true → (y : ℕ) → Contains new y ↔ (Contains first y ⊎ Contains (take (k + 1) more) y)
  missing_had e had =
      one_missing (λ y. (
        λ c. inl (subst (λ (l : List ℕ). Contains l y) e c),
        λ c. subst (λ (l : List ℕ). Contains l y) (sym e) (elim c [
          | inl i ↦ i
          | inr s ↦ subst (λ (z : ℕ). Contains list z) (sym s) ((listed list (get_or more k 0)).0 had)
        ]),
      ))

pub live_from : (used late defined live rest more list : List ℕ)
    → ((y : ℕ) → Contains rest y ↔ (Contains live y × (Contains defined y → ⊥)))
    → ((y : ℕ) → Contains more y ↔ (Contains rest y ⊎ Contains used y))
    → ((y : ℕ) → Contains list y ↔ (Contains more y ⊎ Contains late y)) → (y : ℕ)
    → Contains list y ↔ ((Contains used y ⊎ Contains late y) ⊎ (Contains live y × (Contains defined y → ⊥)))
live_from used late defined live rest more list left first last y = (
  λ c. elim ((last y).0 c) [
    | inl i ↦ elim ((first y).0 i) [ inl j ↦ inr ((left y).0 j) | inr j ↦ inl (inl j) ]
    | inr i ↦ inl (inr i)
  ],
  λ c. (last y).1 (elim c [
    | inl i ↦ elim i [ inl j ↦ inl ((first y).1 (inr j)) | inr j ↦ inr j ]
    | inr i ↦ inl ((first y).1 (inl ((left y).1 i)))
  ]),
)

-- ---- what is met

module _ (tmps : ℕ) (t : Touched) (live : List ℕ) (x : ℕ) where
  abbrev pub is_apart : ℕ → Bool
  is_apart y = not (is_move t.moves (home_at tmps y) (home_at tmps x))

  apart_is : (y : ℕ) → Contains (filter is_apart live) y
      ↔ (Contains live y × (Contains t.moves (record { from = home_at tmps y; to = home_at tmps x }) → ⊥))
  apart_is y =
      let both = moved t.moves (home_at tmps y) (home_at tmps x) in (
        λ c. let k = (filtered is_apart live y).0 c in
            (k.0, λ m. false≢true (sym (not_true (is_move t.moves (home_at tmps y) (home_at tmps x)) k.1) ∙ both.1 m)),
        λ c. (filtered is_apart live y).1 (
          c.0,
          elim (either (is_move t.moves (home_at tmps y) (home_at tmps x))) [
            | inl is ↦ absurd (c.1 (both.0 is))
            | inr none ↦ false_not (is_move t.moves (home_at tmps y) (home_at tmps x)) none
          ],
        ),
      )

  three : (y : ℕ) → Contains ((filter is_apart live ++ t.late) ++ t.defined) y
      ↔ ((Contains live y × (Contains t.moves (record { from = home_at tmps y; to = home_at tmps x }) → ⊥)) ⊎ (Contains t.late y ⊎ Contains t.defined y))
  three y =
      let all = appended (filter is_apart live ++ t.late) t.defined y in
      let first = appended (filter is_apart live) t.late y in (
        λ c. elim (all.0 c) [
          | inl i ↦ elim (first.0 i) [ inl j ↦ inl ((apart_is y).0 j) | inr j ↦ inr (inl j) ]
          | inr i ↦ inr (inr i)
        ],
        λ c. all.1 (elim c [
          | inl i ↦ inl (first.1 (inl ((apart_is y).1 i)))
          | inr i ↦ elim i [ inl j ↦ inl (first.1 (inr j)) | inr j ↦ inr j ]
        ]),
      )

  pub met_late : (met : List ℕ) → in_list t.early x ≡ false → met ≡ (filter is_apart live ++ t.late) ++ t.defined → (y : ℕ)
      → Contains met y ↔ IsMet tmps t live x y
  met_late met none e y = (
    λ c. elim ((three y).0 (subst (λ (l : List ℕ). Contains l y) e c)) [
      | inl i ↦ inl i
      | inr i ↦ elim i [ inl j ↦ inr (inl j) | inr j ↦ inr (inr (inr j)) ]
    ],
    λ c. subst (λ (l : List ℕ). Contains l y) (sym e) ((three y).1 (elim c [
      | inl i ↦ inl i
      | inr i ↦ elim i [
        | inl j ↦ inr (inl j)
        | inr j ↦ elim j [ inl k ↦ absurd (false≢true (sym none ∙ (listed t.early x).1 k.0)) | inr k ↦ inr (inr k) ]
      ]
    ])),
  )

  pub met_early : (met : List ℕ) → in_list t.early x ≡ true → met ≡ ((filter is_apart live ++ t.late) ++ t.defined) ++ t.used → (y : ℕ)
      → Contains met y ↔ IsMet tmps t live x y
  met_early met early e y =
      let all = appended ((filter is_apart live ++ t.late) ++ t.defined) t.used y in (
        λ c. elim (all.0 (subst (λ (l : List ℕ). Contains l y) e c)) [
          | inl c' ↦ elim ((three y).0 c') [
            | inl i ↦ inl i
            | inr i ↦ elim i [ inl j ↦ inr (inl j) | inr j ↦ inr (inr (inr j)) ]
          ]
          | inr u ↦ inr (inr (inl ((listed t.early x).0 early, u)))
        ],
        λ c. subst (λ (l : List ℕ). Contains l y) (sym e) (all.1 (elim c [
          | inl i ↦ inl ((three y).1 (inl i))
          | inr i ↦ elim i [
            | inl j ↦ inl ((three y).1 (inr (inl j)))
            | inr j ↦ elim j [ inl k ↦ inr k.1 | inr k ↦ inl ((three y).1 (inr (inr k))) ]
          ]
        ])),
      )

pub met_below : (tmps : ℕ) (t : Touched) (live : List ℕ) (x : ℕ) → AreBelow (tmps + 25) live → AreBelow (tmps + 25) t.used → AreBelow (tmps + 25) t.late
    → AreBelow (tmps + 25) t.defined → (y : ℕ) → IsMet tmps t live x y → y < tmps + 25
met_below tmps t live x lives used late defined y met =
    elim met [
      | inl i ↦ lives y i.0
      | inr i ↦ elim i [ inl j ↦ late y j | inr j ↦ elim j [ inl k ↦ used y k.1 | inr k ↦ defined y k ] ]
    ]

-- ---- the edges of what is defined

module _ (tmps : ℕ) (t : Touched) (live defined : List ℕ) where
  abbrev pub DefinedBelow : ℕ → ℕ → ℕ → Type 0
  DefinedBelow k a b = (Contains (take k defined) a × IsMet tmps t live a b) ⊎ (Contains (take k defined) b × IsMet tmps t live b a)

  pub defined_step : (n : ℕ) (old m new : EdgeSet) (k : ℕ) (met : List ℕ) → k < length defined
      → ((y : ℕ) → Contains met y ↔ IsMet tmps t live (get_or defined k 0) y)
      → Adds n old m (DefinedBelow k) → Adds n m new (FromTo (get_or defined k 0) met) → Adds n old new (DefinedBelow (k + 1))
  defined_step n old m new k met lt is adds step =
      let x : ℕ = get_or defined k 0 in
      let more : (a : ℕ) → Contains (take (k + 1) defined) a ↔ (Contains (take k defined) a ⊎ (a ≡ x)) = λ a. contains_more defined k 0 a lt in
      adds_step n old m new (DefinedBelow k) (DefinedBelow (k + 1)) (FromTo x met) adds step
      (λ a b _ _ r. elim r [
        | inl q ↦ inl ((more a).1 (inr q.0), subst (λ (z : ℕ). IsMet tmps t live z b) (sym q.0) ((is b).0 q.1))
        | inr q ↦ inr ((more b).1 (inr q.0), subst (λ (z : ℕ). IsMet tmps t live z a) (sym q.0) ((is a).0 q.1))
      ])
      (λ a b _ _ r. elim r [
        | inl q ↦ inl ((more a).1 (inl q.0), q.1)
        | inr q ↦ inr ((more b).1 (inl q.0), q.1)
      ])
      (λ a b _ _ ne r. elim r [
        | inl q ↦ elim ((more a).0 q.0) [
          | inl i ↦ inl (inl (i, q.1))
          | inr e ↦ inr (inl (e, (is b).1 (subst (λ (z : ℕ). IsMet tmps t live z b) e q.1)))
        ]
        | inr q ↦ elim ((more b).0 q.0) [
          | inl i ↦ inl (inr (i, q.1))
          | inr e ↦ inr (inr (e, (is a).1 (subst (λ (z : ℕ). IsMet tmps t live z a) e q.1)))
        ]
      ])

-- ---- an instruction that stands

early_role_is : (tmps a : ℕ) (role : Role) (arg : Arg) → early_role tmps role arg ≡ Some a
    → (a < tmps + 25) × (role ≡ EarlyDef) × (arg ≡ At (home_at tmps a))
early_role_is tmps a EarlyDef (At home) e = let n = numbered tmps home a e in (n.0, refl, ap At n.1)
early_role_is tmps a EarlyDef (Imm w) e = absurd (cc)
early_role_is tmps a EarlyDef (Addr b o) e = absurd (cc)
early_role_is tmps a EarlyDef (Index b i s) e = absurd (cc)
early_role_is tmps a EarlyDef (FrameSlot n) e = absurd (cc)
early_role_is tmps a Use arg e = absurd (cc)
early_role_is tmps a LateUse arg e = absurd (cc)
early_role_is tmps a Def arg e = absurd (cc)
early_role_is tmps a Clobber arg e = absurd (cc)

operand_is : (o : Operand) (h : Home) → o.role ≡ EarlyDef → o.arg ≡ At h → o ≡ record { role = EarlyDef; width = o.width; arg = At h }
operand_is o h e f =
    ap (λ (r : Role). let q : Operand = record { role = r; width = o.width; arg = o.arg } in q) e
    ∙ ap (λ (a : Arg). let q : Operand = record { role = EarlyDef; width = o.width; arg = a } in q) f

module _ (p : AirProc) (block place : ℕ) (i : AirInst) (stands : StandsAt p block place i) (t : Touched)
    (is : IsTouchedOf p.tmps (touches_at p block place) i t) where
  touched_iff : (way : ℕ → Touch) (list : List ℕ) (a : ℕ) (lt : a < p.tmps + 25)
      → (Contains list a ↔ Contains (touches_at p block place) (way (name_at p.tmps a)))
      → Contains list a ↔ IsTouchedBy p way i (home_at p.tmps a)
  touched_iff way list a lt both =
      let same : touches_at p block place ≡ inst_touches p.tmps i = touches_are p block place i stands in (
        λ c. (name_at p.tmps a, has_name p a lt, subst (λ (ts : List Touch). Contains ts (way (name_at p.tmps a))) same (both.0 c)),
        λ c. both.1 (subst (λ (ts : List Touch). Contains ts (way (name_at p.tmps a))) (sym same)
            (subst (λ (n : ℕ). Contains (inst_touches p.tmps i) (way n)) (only_name p a lt c.0 c.1) c.2)),
      )

  pub defined_below : (a : ℕ) → Contains t.defined a → a < p.tmps + 25
  defined_below a c =
      picked_below p.tmps (touches_at p block place) (defined_by p.tmps) touch.Def (def_is p.tmps) (named_back p.tmps) a
      (subst (λ (l : List ℕ). Contains l a) is.defined c)

  pub used_below : (a : ℕ) → Contains t.used a → a < p.tmps + 25
  used_below a c =
      picked_below p.tmps (touches_at p block place) (used_by p.tmps) touch.Use (used_is p.tmps) (named_back p.tmps) a
      (subst (λ (l : List ℕ). Contains l a) is.used c)

  pub late_below : (a : ℕ) → Contains t.late a → a < p.tmps + 25
  late_below a c =
      picked_below p.tmps (touches_at p block place) (used_late_by p.tmps) touch.LateUse (late_is p.tmps) (named_back p.tmps) a
      (subst (λ (l : List ℕ). Contains l a) is.late c)

  module _ (a : ℕ) (lt : a < p.tmps + 25) where
    pub defined_iff : Contains t.defined a ↔ IsDefinedBy p i (home_at p.tmps a)
    defined_iff =
        touched_iff touch.Def t.defined a lt
        (subst (λ (l : List ℕ). Contains l a ↔ Contains (touches_at p block place) (touch.Def (name_at p.tmps a))) (sym is.defined)
        (picked_touch p.tmps (touches_at p block place) (defined_by p.tmps) touch.Def (def_is p.tmps) (named_back p.tmps) a lt))

    pub used_iff : Contains t.used a ↔ IsUsedBy p i (home_at p.tmps a)
    used_iff =
        touched_iff touch.Use t.used a lt
        (subst (λ (l : List ℕ). Contains l a ↔ Contains (touches_at p block place) (touch.Use (name_at p.tmps a))) (sym is.used)
        (picked_touch p.tmps (touches_at p block place) (used_by p.tmps) touch.Use (used_is p.tmps) (named_back p.tmps) a lt))

    pub late_iff : Contains t.late a ↔ IsUsedLateBy p i (home_at p.tmps a)
    late_iff =
        touched_iff touch.LateUse t.late a lt
        (subst (λ (l : List ℕ). Contains l a ↔ Contains (touches_at p block place) (touch.LateUse (name_at p.tmps a))) (sym is.late)
        (picked_touch p.tmps (touches_at p block place) (used_late_by p.tmps) touch.LateUse (late_is p.tmps) (named_back p.tmps) a lt))

    early_iff : Contains t.early a ↔ IsEarly i (home_at p.tmps a)
    early_iff = (
      λ c.
          let r = picked (early_of p.tmps) i.operands a (to_in (filter_map (early_of p.tmps) i.operands) a (subst (λ (l : List ℕ). Contains l a) is.early c)) in
          let e = early_role_is p.tmps a r.0.role r.0.arg r.2 in (
            r.0.width,
            from_in i.operands (record { role = EarlyDef; width = r.0.width; arg = At (home_at p.tmps a) })
                (subst (λ (o : Operand). In o i.operands) (operand_is r.0 (home_at p.tmps a) e.1 e.2) r.1),
          ),
      λ c. subst (λ (l : List ℕ). Contains l a) (sym is.early)
          (from_in (filter_map (early_of p.tmps) i.operands) a
          (picks (early_of p.tmps) i.operands a (record { role = EarlyDef; width = c.0; arg = At (home_at p.tmps a) })
          (to_in i.operands (record { role = EarlyDef; width = c.0; arg = At (home_at p.tmps a) }) c.1) (number_back p.tmps a lt))),
    )

  -- they meet
  pub meets_iff : (live : List ℕ) (a b : ℕ) → a < p.tmps + 25 → b < p.tmps + 25
      → (Contains live b ↔ IsLiveAfter p (record { block = block; place = place }) (home_at p.tmps b))
      → (Contains t.defined a × IsMet p.tmps t live a b)
      ↔ Meets p (record { block = block; place = place }) i (home_at p.tmps a) (home_at p.tmps b)
  meets_iff live a b la lb lives =
      let moves : Contains t.moves (record { from = home_at p.tmps b; to = home_at p.tmps a }) ↔ IsCopied i (home_at p.tmps b) (home_at p.tmps a) =
      subst (λ (l : List Copied). Contains l (record { from = home_at p.tmps b; to = home_at p.tmps a }) ↔ IsCopied i (home_at p.tmps b) (home_at p.tmps a))
      (sym is.moves) (copied_is i (home_at p.tmps b) (home_at p.tmps a)) in (
        λ c. (
          (defined_iff a la).0 c.0,
          elim c.1 [
            | inl q ↦ inl (lives.0 q.0, λ m. q.1 (moves.1 m))
            | inr q ↦ inr (elim q [
              | inl r ↦ inl ((late_iff b lb).0 r)
              | inr r ↦ inr (elim r [
                | inl s ↦ inl ((early_iff a la).0 s.0, (used_iff b lb).0 s.1)
                | inr s ↦ inr ((defined_iff b lb).0 s)
              ])
            ])
          ],
        ),
        λ c. (
          (defined_iff a la).1 c.0,
          elim c.1 [
            | inl q ↦ inl (lives.1 q.0, λ m. q.1 (moves.0 m))
            | inr q ↦ inr (elim q [
              | inl r ↦ inl ((late_iff b lb).1 r)
              | inr r ↦ inr (elim r [
                | inl s ↦ inl ((early_iff a la).1 s.0, (used_iff b lb).1 s.1)
                | inr s ↦ inr ((defined_iff b lb).1 s)
              ])
            ])
          ],
        ),
      )
