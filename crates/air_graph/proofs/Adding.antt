-- Edges added one after the other, and lists of numbers.
use Rattle.std.proofs.Common.{◌≡◌, ℕ, ◌+◌, ◌<◌, ◌⊎◌, ◌↔◌, inl, inr, Bool, true, false, cond, ◌&&◌, eqb, List, [], ◌∷◌, ◌++◌, length, get_or, take, refl, sym, ap, ◌∙◌, subst}
use Rattle.std.specs.Prelude.{Contains, filter}
use Rattle.std.specs.List.{list_any}
use Rattle.std.proofs.lemmas.Bool.{and_from, eq-eqb, eqb-true, false≢true, or_cases, or_left, or_right}
use Rattle.std.proofs.lemmas.List.{take_more}
use Rattle.std.proofs.lemmas.List.Elements.{Contains-append_left, Contains-push, Contains-push_cases}
use Rattle.air_ir.specs.Operands.{same_home}
use Rattle.air_ir.specs.declared.operand.Home.{Home}
use Rattle.air_ir.specs.declared.operand.Home.TheVariants.{Tmp, Reg, Spill}
use Rattle.air_graph.specs.Edges.{ArePair, EdgeSet, has_edge}
use Rattle.air_graph.specs.Walk.{Adds, in_list, is_move}
use Rattle.air_graph.specs.declared.moves.Copied.{Copied}
use Rattle.air_graph.proofs.Numbers.{In, from_in, to_in}

-- a front that is one element longer
pub contains_more : {X : Type 0} (xs : List X) (k : ℕ) (d b : X) → k < length xs → Contains (take (k + 1) xs) b ↔ (Contains (take k xs) b ⊎ (b ≡ get_or xs k d))
contains_more {X} xs k d b lt =
    let e : take (k + 1) xs ≡ take k xs ++ get_or xs k d ∷ [] = take_more xs k d lt in (
      λ c. elim (Contains-push_cases (take k xs) (get_or xs k d) b (subst (λ (l : List X). Contains l b) e c)) [
        | inl i ↦ inl i
        | inr s ↦ inr (sym s)
      ],
      λ c. subst (λ (l : List X). Contains l b) (sym e) (elim c [
        | inl i ↦ Contains-append_left (take k xs) (get_or xs k d ∷ []) b i
        | inr s ↦ subst (λ (z : X). Contains (take k xs ++ get_or xs k d ∷ []) z) (sym s) (Contains-push (take k xs) (get_or xs k d))
      ]),
    )

-- ---- edges

pub adds_some : (n : ℕ) (old m new : EdgeSet) (P Q R : ℕ → ℕ → Type 0) → Adds n old m P
    → ((a b : ℕ) → a < n → b < n → (has_edge new a b ≡ true) ↔ ((has_edge m a b ≡ true) ⊎ R a b))
    → ((a b : ℕ) → a < n → b < n → R a b → (a ≡ b → ⊥) × Q a b)
    → ((a b : ℕ) → a < n → b < n → P a b → Q a b)
    → ((a b : ℕ) → a < n → b < n → (a ≡ b → ⊥) → Q a b → P a b ⊎ R a b)
    → Adds n old new Q
adds_some n old m new P Q R adds step new_in old_in from a b la lb = (
  λ t. elim ((step a b la lb).0 t) [
    | inl u ↦ elim ((adds a b la lb).0 u) [ inl v ↦ inl v | inr v ↦ inr (v.0, old_in a b la lb v.1) ]
    | inr r ↦ inr (new_in a b la lb r)
  ],
  λ t. (step a b la lb).1 (elim t [
    | inl u ↦ inl ((adds a b la lb).1 (inl u))
    | inr v ↦ elim (from a b la lb v.0 v.1) [ inl p ↦ inl ((adds a b la lb).1 (inr (v.0, p))) | inr r ↦ inr r ]
  ]),
)

-- edges of a step, added to those that were there
pub adds_step : (n : ℕ) (old m new : EdgeSet) (P Q R : ℕ → ℕ → Type 0) → Adds n old m P → Adds n m new R
    → ((a b : ℕ) → a < n → b < n → R a b → Q a b)
    → ((a b : ℕ) → a < n → b < n → P a b → Q a b)
    → ((a b : ℕ) → a < n → b < n → (a ≡ b → ⊥) → Q a b → P a b ⊎ R a b)
    → Adds n old new Q
adds_step n old m new P Q R adds step new_in old_in from =
    adds_some n old m new P Q (λ a b. (a ≡ b → ⊥) × R a b) adds step (λ a b la lb r. (r.0, new_in a b la lb r.1)) old_in
    (λ a b la lb ne q. elim (from a b la lb ne q) [ inl p ↦ inl p | inr r ↦ inr (ne, r) ])

-- no edge is added
pub adds_none : (n : ℕ) (old m : EdgeSet) (P Q : ℕ → ℕ → Type 0) → Adds n old m P
    → ((a b : ℕ) → a < n → b < n → P a b → Q a b)
    → ((a b : ℕ) → a < n → b < n → (a ≡ b → ⊥) → Q a b → P a b)
    → Adds n old m Q
adds_none n old m P Q adds old_in from =
    adds_some n old m m P Q (λ a b. ⊥) adds (λ a b _ _. (λ t. inl t, λ t. elim t [ inl u ↦ u | inr u ↦ absurd u ]))
    (λ a b _ _ r. absurd r) old_in (λ a b la lb ne q. inl (from a b la lb ne q))

pub adds_first : (n : ℕ) (old : EdgeSet) (P : ℕ → ℕ → Type 0) → ((a b : ℕ) → a < n → b < n → (a ≡ b → ⊥) → P a b → ⊥) → Adds n old old P
adds_first n old P none a b la lb = (λ t. inl t, λ t. elim t [ inl u ↦ u | inr u ↦ absurd (none a b la lb u.0 u.1) ])

-- from x to each of a list
abbrev pub FromTo : ℕ → List ℕ → ℕ → ℕ → Type 0
FromTo x met a b = ((a ≡ x) × Contains met b) ⊎ ((b ≡ x) × Contains met a)

module _ (n : ℕ) (old m : EdgeSet) (x : ℕ) (met : List ℕ) (k : ℕ) (lt : k < length met) (adds : Adds n old m (FromTo x (take k met))) where
  longer : (a b : ℕ) → a < n → b < n → FromTo x (take k met) a b → FromTo x (take (k + 1) met) a b
  longer a b _ _ p =
      elim p [
        | inl q ↦ inl (q.0, (contains_more met k 0 b lt).1 (inl q.1))
        | inr q ↦ inr (q.0, (contains_more met k 0 a lt).1 (inl q.1))
      ]

  shorter : (a b : ℕ) → FromTo x (take (k + 1) met) a b → FromTo x (take k met) a b ⊎ ArePair x (get_or met k 0) a b
  shorter a b p =
      elim p [
        | inl q ↦ elim ((contains_more met k 0 b lt).0 q.1) [ inl i ↦ inl (inl (q.0, i)) | inr e ↦ inr (inl (q.0, e)) ]
        | inr q ↦ elim ((contains_more met k 0 a lt).0 q.1) [ inl i ↦ inl (inr (q.0, i)) | inr e ↦ inr (inr (e, q.0)) ]
      ]

  pub add_one : (new : EdgeSet) → (get_or met k 0 ≡ x → ⊥)
      → ((a b : ℕ) → (has_edge new a b ≡ true) ↔ ((has_edge m a b ≡ true) ⊎ ArePair x (get_or met k 0) a b))
      → Adds n old new (FromTo x (take (k + 1) met))
  add_one new differ edges =
      adds_some n old m new (FromTo x (take k met)) (FromTo x (take (k + 1) met)) (ArePair x (get_or met k 0)) adds
      (λ a b _ _. edges a b)
      (λ a b _ _ r. elim r [
        | inl q ↦ (λ e. differ (sym q.1 ∙ sym e ∙ q.0), inl (q.0, (contains_more met k 0 b lt).1 (inr q.1)))
        | inr q ↦ (λ e. differ (sym q.0 ∙ e ∙ q.1), inr (q.1, (contains_more met k 0 a lt).1 (inr q.0)))
      ])
      longer (λ a b _ _ _ p. shorter a b p)

  pub add_itself : get_or met k 0 ≡ x → Adds n old m (FromTo x (take (k + 1) met))
  add_itself same =
      adds_none n old m (FromTo x (take k met)) (FromTo x (take (k + 1) met)) adds longer
      (λ a b _ _ ne p. elim (shorter a b p) [
        | inl q ↦ q
        | inr q ↦ absurd (elim q [ inl r ↦ ne (r.0 ∙ sym same ∙ sym r.1) | inr r ↦ ne (r.0 ∙ same ∙ sym r.1) ])
      ])

-- ---- tests of lists

in_any : {X : Type 0} (p : X → Bool) (xs : List X) → list_any p xs ≡ true → (x : X) × In x xs × (p x ≡ true)
unfolding In
in_any p [] t = absurd (false≢true t)
in_any p (x ∷ xs) t =
    elim (or_cases (p x) (list_any p xs) t) [
      | inl here ↦ (x, inl refl, here)
      | inr later ↦ let r = in_any p xs later in (r.0, inr r.1, r.2)
    ]

any_in : {X : Type 0} (p : X → Bool) (xs : List X) (x : X) → In x xs → p x ≡ true → list_any p xs ≡ true
unfolding In
any_in p [] x i t = absurd i
any_in p (y ∷ ys) x (inl e) t = or_left (p y) (list_any p ys) (ap p e ∙ t)
any_in p (y ∷ ys) x (inr i) t = or_right (p y) (list_any p ys) (any_in p ys x i t)

pub listed : (list : List ℕ) (n : ℕ) → (in_list list n ≡ true) ↔ Contains list n
listed list n = (
  λ t. let r = in_any (λ x. eqb x n) list t in from_in list n (subst (λ (z : ℕ). In z list) (eqb-true r.0 n r.2) r.1),
  λ c. any_in (λ x. eqb x n) list n (to_in list n c) (eq-eqb n n refl),
)

pub home_same : (a b : Home) → same_home a b ≡ true → a ≡ b
home_same (Tmp a) (Tmp b) t = ap Tmp (eqb-true a b t)
home_same (Reg a) (Reg b) t = ap (λ (r : ℕ). Reg (record { 0 = r })) (eqb-true a.0 b.0 t)
home_same (Spill a) (Spill b) t = ap Spill (eqb-true a b t)
home_same (Tmp a) (Reg b) t = absurd (false≢true t)
home_same (Tmp a) (Spill b) t = absurd (false≢true t)
home_same (Reg a) (Tmp b) t = absurd (false≢true t)
home_same (Reg a) (Spill b) t = absurd (false≢true t)
home_same (Spill a) (Tmp b) t = absurd (false≢true t)
home_same (Spill a) (Reg b) t = absurd (false≢true t)

same_itself : (a : Home) → same_home a a ≡ true
same_itself (Tmp a) = eq-eqb a a refl
same_itself (Reg a) = eq-eqb a.0 a.0 refl
same_itself (Spill a) = eq-eqb a a refl

and_both : (a b : Bool) → (a && b) ≡ true → (a ≡ true) × (b ≡ true)
and_both true b t = (refl, t)
and_both false b t = absurd (false≢true t)

pub moved : (moves : List Copied) (from to : Home) → (is_move moves from to ≡ true) ↔ Contains moves (record { from = from; to = to })
moved moves from to =
    let test : Copied → Bool = λ m. same_home m.from from && same_home m.to to in
    let goal : Copied = record { from = from; to = to } in (
      λ t.
          let r = in_any test moves t in
          let both = and_both (same_home r.0.from from) (same_home r.0.to to) r.2 in
          let e : r.0 ≡ goal =
          ap (λ (h : Home). let c : Copied = record { from = h; to = r.0.to } in c) (home_same r.0.from from both.0)
          ∙ ap (λ (h : Home). let c : Copied = record { from = from; to = h } in c) (home_same r.0.to to both.1) in
          from_in moves goal (subst (λ (c : Copied). In c moves) e r.1),
      λ c. any_in test moves goal (to_in moves goal c) (and_from (same_home from from) (same_home to to) (same_itself from) (same_itself to)),
    )

in_filter : {X : Type 0} (p : X → Bool) (xs : List X) (y : X) → (In y (filter p xs)) ↔ (In y xs × (p y ≡ true))
unfolding In
in_filter p [] y = (λ i. absurd i, λ i. absurd i.0)
in_filter {X} p (x ∷ xs) y =
    let more = in_filter p xs y in
    let by : (b : Bool) → p x ≡ b → (In y (cond b (x ∷ filter p xs) (filter p xs))) ↔ (((x ≡ y) ⊎ In y xs) × (p y ≡ true)) =
    λ b. elim b as (λ (b : Bool). p x ≡ b → (In y (cond b (x ∷ filter p xs) (filter p xs))) ↔ (((x ≡ y) ⊎ In y xs) × (p y ≡ true))) [
      | true ↦ λ e. (
        λ i. elim i [ inl s ↦ (inl s, sym (ap p s) ∙ e) | inr j ↦ let m = more.0 j in (inr m.0, m.1) ],
        λ q. elim q.0 [ inl s ↦ inl s | inr j ↦ inr (more.1 (j, q.1)) ],
      )
      | false ↦ λ e. (
        λ i. let m = more.0 i in (inr m.0, m.1),
        λ q. elim q.0 [ inl s ↦ absurd (false≢true (sym e ∙ ap p s ∙ q.1)) | inr j ↦ more.1 (j, q.1) ],
      )
    ] in
    by (p x) refl

pub filtered : {X : Type 0} (p : X → Bool) (xs : List X) (y : X) → Contains (filter p xs) y ↔ (Contains xs y × (p y ≡ true))
filtered p xs y = (
  λ c. let i = (in_filter p xs y).0 (to_in (filter p xs) y c) in (from_in xs y i.0, i.1),
  λ c. from_in (filter p xs) y ((in_filter p xs y).1 (to_in xs y c.0, c.1)),
)
