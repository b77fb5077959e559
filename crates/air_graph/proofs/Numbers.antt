-- The numbers of homes and of their names.
use Rattle.std.proofs.Common.{◌≡◌, ℕ, zero, suc, ◌+◌, ◌-◌, ◌<◌, ◌≤◌, ◌⊎◌, ◌↔◌, inl, inr, cond, ltb, Option, Some, None, List, [], ◌∷◌, ◌++◌, length, get_or, take, arith, refl, sym, ap, ◌∙◌, subst}
use Rattle.std.specs.Prelude.{Contains, filter_map}
use Rattle.std.specs.List.{cons_option}
use Rattle.std.specs.Option.{option_to_list}
use Rattle.std.proofs.lemmas.List.{take_more}
use Rattle.std.proofs.lemmas.List.Elements.{filter_map-append}
use Rattle.std.proofs.lemmas.Bool.{cases_lt, le-ltb, lt-ltb}
use Rattle.flow_live.specs.declared.touch.Touch.{Touch}
use Rattle.flow_live.specs.declared.touch.Touch.TheVariants as touch
use Rattle.air_ir.specs.declared.operand.Home.{Home}
use Rattle.air_ir.specs.declared.operand.Home.TheVariants.{Tmp, Reg, Spill}
use Rattle.air_ir.specs.declared.procedure.AirProc.{AirProc}
use Rattle.air_flow.specs.Living.{HasName}
use Rattle.air_graph.specs.Homes.{above, home_at, number_of, register_at}
use Rattle.air_graph.specs.Walk.{defined_by, name_at, number_named, used_by, used_late_by}

pub some_is : {X : Type 0} (x y : X) → Some x ≡ Some y → x ≡ y
some_is x y e = cc

-- ---- tests of numbers

if_less : {X : Type 0} (a b : ℕ) (x y : X) → a < b → cond (ltb a b) x y ≡ x
if_less a b x y lt = rw (lt-ltb a b lt) refl

if_more : {X : Type 0} (a b : ℕ) (x y : X) → b ≤ a → cond (ltb a b) x y ≡ y
if_more a b x y le = rw (le-ltb a b le) refl

-- ---- names in the flow

pub name_at_low : (tmps n : ℕ) → n < tmps + 15 → name_at tmps n ≡ n
name_at_low tmps n lt = if_less n (tmps + 15) n (n + 4) lt

pub name_at_high : (tmps n : ℕ) → tmps + 15 ≤ n → name_at tmps n ≡ n + 4
name_at_high tmps n le = if_more n (tmps + 15) n (n + 4) le

abbrev middle : ℕ → ℕ → Option ℕ
middle tmps name = cond (ltb name (tmps + 19)) None (cond (ltb name (tmps + 29)) (Some (name - 4)) None)

pub named : (tmps name a : ℕ) → number_named tmps name ≡ Some a → (a < tmps + 25) × (name ≡ name_at tmps a)
named tmps name a e =
    elim (cases_lt name (tmps + 15)) [
      | inl lt ↦
          let same : name ≡ a = some_is name a (sym (if_less name (tmps + 15) (Some name) (middle tmps name) lt) ∙ e) in
          (omega (arith, lt, same), same ∙ sym (name_at_low tmps a (omega (arith, lt, same))))
      | inr le ↦
          let e' : middle tmps name ≡ Some a = sym (if_more name (tmps + 15) (Some name) (middle tmps name) le) ∙ e in
          elim (cases_lt name (tmps + 19)) [
            | inl lt ↦
                let none = if_less name (tmps + 19) None (cond (ltb name (tmps + 29)) (Some (name - 4)) None) lt in
                absurd (none_some a (sym none ∙ e'))
            | inr le2 ↦
                let e2 = sym (if_more name (tmps + 19) None (cond (ltb name (tmps + 29)) (Some (name - 4)) None) le2) ∙ e' in
                elim (cases_lt name (tmps + 29)) [
                  | inl lt ↦
                      let same : name - 4 ≡ a = some_is (name - 4) a (sym (if_less name (tmps + 29) (Some (name - 4)) None lt) ∙ e2) in
                      let high : name_at tmps a ≡ a + 4 = name_at_high tmps a (omega (arith, le2, same)) in
                      (omega (arith, lt, same, le2), omega (arith, same, high, le2))
                  | inr le3 ↦ absurd (none_some a (sym (if_more name (tmps + 29) (Some (name - 4)) None le3) ∙ e2))
                ]
          ]
    ]
  where
    none_some : (a : ℕ) → (let n : Option ℕ = None in n) ≡ Some a → ⊥
    none_some a e = cc

pub named_back : (tmps a : ℕ) → a < tmps + 25 → number_named tmps (name_at tmps a) ≡ Some a
named_back tmps a lt =
    elim (cases_lt a (tmps + 15)) [
      | inl low ↦ rw (name_at_low tmps a low) (if_less a (tmps + 15) (Some a) (middle tmps a) low)
      | inr high ↦
          rw (name_at_high tmps a high)
          (if_more (a + 4) (tmps + 15) (Some (a + 4)) (middle tmps (a + 4)) (omega (arith, high))
          ∙ if_more (a + 4) (tmps + 19) None (cond (ltb (a + 4) (tmps + 29)) (Some (a + 4 - 4)) None) (omega (arith, high))
          ∙ if_less (a + 4) (tmps + 29) (Some (a + 4 - 4)) None (omega (arith, lt))
          ∙ ap (λ (k : ℕ). Some k) (omega arith))
    ]

-- ---- homes

pub home_low : (tmps n : ℕ) → n < tmps → home_at tmps n ≡ Tmp n
home_low tmps n lt = if_less n tmps (Tmp n) (Reg (record { 0 = register_at (n - tmps) })) lt

pub home_high : (tmps n : ℕ) → tmps ≤ n → home_at tmps n ≡ Reg (record { 0 = register_at (n - tmps) })
home_high tmps n le = if_more n tmps (Tmp n) (Reg (record { 0 = register_at (n - tmps) })) le

pub register_low : (k : ℕ) → k < 15 → register_at k ≡ k
register_low k lt = if_less k 15 k (k + 4) lt

pub register_high : (k : ℕ) → 15 ≤ k → register_at k ≡ k + 4
register_high k le = if_more k 15 k (k + 4) le

-- the register of a number has its name
register_name : (tmps n : ℕ) → tmps ≤ n → n < tmps + 25 → (tmps + register_at (n - tmps) ≡ name_at tmps n) × (register_at (n - tmps) ≤ 30)
register_name tmps n le lt =
    elim (cases_lt n (tmps + 15)) [
      | inl low ↦
          let r = register_low (n - tmps) (omega (arith, low, le)) in
          let m = name_at_low tmps n low in
          (omega (arith, r, m, le), omega (arith, r, low))
      | inr high ↦
          let r = register_high (n - tmps) (omega (arith, high)) in
          let m = name_at_high tmps n high in
          (omega (arith, r, m, le), omega (arith, r, lt))
    ]

module _ (p : AirProc) (n : ℕ) (lt : n < p.tmps + 25) where
  pub has_name : HasName p (home_at p.tmps n) (name_at p.tmps n)
  has_name =
      elim (cases_lt n p.tmps) [
        | inl low ↦ rw (home_low p.tmps n low) (low, ap (λ (k : ℕ). Some k) (sym (name_at_low p.tmps n (omega (arith, low)))))
        | inr high ↦
            let r = register_name p.tmps n high lt in
            rw (home_high p.tmps n high) (r.1, ap (λ (k : ℕ). Some k) r.0)
      ]

  pub only_name : (name : ℕ) → HasName p (home_at p.tmps n) name → name ≡ name_at p.tmps n
  only_name name has = some_is name (name_at p.tmps n) (sym has.1 ∙ has_name.1)

-- a number stands for one home
pub numbered : (tmps : ℕ) (h : Home) (n : ℕ) → number_of tmps h ≡ Some n → (n < tmps + 25) × (h ≡ home_at tmps n)
numbered tmps (Tmp m) n e =
    elim (cases_lt m tmps) [
      | inl lt ↦
          let same : m ≡ n = some_is m n (sym (if_less m tmps (Some m) None lt) ∙ e) in
          (omega (arith, lt, same), ap Tmp same ∙ sym (home_low tmps n (omega (arith, lt, same))))
      | inr le ↦ absurd (let none : None ≡ Some n = sym (if_more m tmps (Some m) None le) ∙ e in cc)
    ]
numbered tmps (Reg r) n e =
    elim (cases_lt r.0 15) [
      | inl lt ↦
          let same : tmps + r.0 ≡ n = some_is (tmps + r.0) n (sym (ap (above tmps) (if_less r.0 15 (Some r.0) (high_place r.0) lt)) ∙ e) in
          (omega (arith, lt, same), at r.0 n (omega (arith, same)) (omega (arith, lt, same, register_low (n - tmps) (omega (arith, lt, same)))))
      | inr le ↦
          let e1 : above tmps (high_place r.0) ≡ Some n = sym (ap (above tmps) (if_more r.0 15 (Some r.0) (high_place r.0) le)) ∙ e in
          elim (cases_lt r.0 19) [
            | inl lt ↦
                absurd (let none : None ≡ Some n = sym (ap (above tmps) (if_less r.0 19 None (last_place r.0) lt)) ∙ e1 in cc)
            | inr le2 ↦
                let e2 : above tmps (last_place r.0) ≡ Some n = sym (ap (above tmps) (if_more r.0 19 None (last_place r.0) le2)) ∙ e1 in
                elim (cases_lt r.0 29) [
                  | inl lt ↦
                      let same : tmps + (r.0 - 4) ≡ n =
                      some_is (tmps + (r.0 - 4)) n (sym (ap (above tmps) (if_less r.0 29 (Some (r.0 - 4)) None lt)) ∙ e2) in
                      let high : register_at (n - tmps) ≡ n - tmps + 4 = register_high (n - tmps) (omega (arith, same, le2)) in
                      (omega (arith, lt, same, le2), at r.0 n (omega (arith, same)) (omega (arith, same, high, le2)))
                  | inr le3 ↦
                      absurd (let none : None ≡ Some n = sym (ap (above tmps) (if_more r.0 29 (Some (r.0 - 4)) None le3)) ∙ e2 in cc)
                ]
          ]
    ]
  where
    last_place : ℕ → Option ℕ
    last_place reg = cond (ltb reg 29) (Some (reg - 4)) None

    high_place : ℕ → Option ℕ
    high_place reg = cond (ltb reg 19) None (last_place reg)

    at : (reg n : ℕ) → tmps ≤ n → register_at (n - tmps) ≡ reg → Reg (record { 0 = reg }) ≡ home_at tmps n
    at reg n le e = sym (home_high tmps n le ∙ ap (λ (k : ℕ). Reg (record { 0 = k })) e)
numbered tmps (Spill m) n e = absurd (cc)

pub number_back : (tmps n : ℕ) → n < tmps + 25 → number_of tmps (home_at tmps n) ≡ Some n
number_back tmps n lt =
    elim (cases_lt n tmps) [
      | inl low ↦ rw (home_low tmps n low) (if_less n tmps (Some n) None low)
      | inr high ↦ elim (cases_lt (n - tmps) 15) [
        | inl low ↦
            rw (home_high tmps n high, register_low (n - tmps) low)
            (ap (above tmps) (if_less (n - tmps) 15 (Some (n - tmps)) (cond (ltb (n - tmps) 19) None (cond (ltb (n - tmps) 29) (Some (n - tmps - 4)) None)) low)
            ∙ ap (λ (k : ℕ). Some k) (omega (arith, high)))
        | inr more ↦
            let k : ℕ = n - tmps in
            rw (home_high tmps n high, register_high (n - tmps) more)
            (ap (above tmps)
            (if_more (k + 4) 15 (Some (k + 4)) (cond (ltb (k + 4) 19) None (cond (ltb (k + 4) 29) (Some (k + 4 - 4)) None)) (omega (arith, more))
            ∙ if_more (k + 4) 19 None (cond (ltb (k + 4) 29) (Some (k + 4 - 4)) None) (omega (arith, more))
            ∙ if_less (k + 4) 29 (Some (k + 4 - 4)) None (omega (arith, lt, high)))
            ∙ ap (λ (k : ℕ). Some k) (omega (arith, high)))
      ]
    ]

-- ---- elements of lists

unfoldable pub In : {X : Type 0} → X → List X → Type 0
In x [] = ⊥
In x (y ∷ ys) = (y ≡ x) ⊎ In x ys

pub to_in : {X : Type 0} (xs : List X) (x : X) → Contains xs x → In x xs
unfolding In
to_in [] x (k, lt, e) = absurd (omega (arith, lt))
to_in (y ∷ ys) x (zero, lt, e) = inl e
to_in (y ∷ ys) x (suc k, lt, e) = inr (to_in ys x (k, omega (arith, lt), e))

pub from_in : {X : Type 0} (xs : List X) (x : X) → In x xs → Contains xs x
unfolding In
from_in [] x i = absurd i
from_in (y ∷ ys) x (inl e) = (0, omega arith, e)
from_in (y ∷ ys) x (inr i) = let r = from_in ys x i in (suc r.0, omega (arith, r.1), r.2)

-- an element of what a map picks
in_cons : (o : Option ℕ) (ys : List ℕ) (a : ℕ) → In a (cons_option o ys) → (o ≡ Some a) ⊎ In a ys
unfolding In
in_cons (Some x) ys a (inl e) = inl (ap (λ (k : ℕ). Some k) e)
in_cons (Some x) ys a (inr i) = inr i
in_cons None ys a i = inr i

cons_in : (o : Option ℕ) (ys : List ℕ) (a : ℕ) → (o ≡ Some a) ⊎ In a ys → In a (cons_option o ys)
unfolding In
cons_in (Some x) ys a (inl e) = inl (some_is x a e)
cons_in (Some x) ys a (inr i) = inr i
cons_in None ys a (inl e) = absurd (cc)
cons_in None ys a (inr i) = i

pub picked : {X : Type 0} (f : X → Option ℕ) (xs : List X) (a : ℕ) → In a (filter_map f xs) → (x : X) × In x xs × (f x ≡ Some a)
unfolding In
picked f [] a i = absurd i
picked f (x ∷ xs) a i =
    elim (in_cons (f x) (filter_map f xs) a i) [
      | inl e ↦ (x, inl refl, e)
      | inr j ↦ let r = picked f xs a j in (r.0, inr r.1, r.2)
    ]

pub picks : {X : Type 0} (f : X → Option ℕ) (xs : List X) (a : ℕ) (x : X) → In x xs → f x ≡ Some a → In a (filter_map f xs)
unfolding In
picks f [] a x i e = absurd i
picks f (y ∷ ys) a x (inl same) e = cons_in (f y) (filter_map f ys) a (inl (ap f same ∙ e))
picks f (y ∷ ys) a x (inr i) e = cons_in (f y) (filter_map f ys) a (inr (picks f ys a x i e))

-- ---- touches by numbers

pub used_is : (tmps a : ℕ) (t : Touch) → used_by tmps t ≡ Some a → (a < tmps + 25) × (t ≡ touch.Use (name_at tmps a))
used_is tmps a (touch.Use name) e = let n = named tmps name a e in (n.0, ap touch.Use n.1)
used_is tmps a (touch.LateUse name) e = absurd (cc)
used_is tmps a (touch.Def name) e = absurd (cc)

pub late_is : (tmps a : ℕ) (t : Touch) → used_late_by tmps t ≡ Some a → (a < tmps + 25) × (t ≡ touch.LateUse (name_at tmps a))
late_is tmps a (touch.LateUse name) e = let n = named tmps name a e in (n.0, ap touch.LateUse n.1)
late_is tmps a (touch.Use name) e = absurd (cc)
late_is tmps a (touch.Def name) e = absurd (cc)

pub def_is : (tmps a : ℕ) (t : Touch) → defined_by tmps t ≡ Some a → (a < tmps + 25) × (t ≡ touch.Def (name_at tmps a))
def_is tmps a (touch.Def name) e = let n = named tmps name a e in (n.0, ap touch.Def n.1)
def_is tmps a (touch.Use name) e = absurd (cc)
def_is tmps a (touch.LateUse name) e = absurd (cc)

-- the numbers that a test of touches picks
module _ (tmps : ℕ) (ts : List Touch) (f : Touch → Option ℕ) (way : ℕ → Touch)
    (is : (a : ℕ) (t : Touch) → f t ≡ Some a → (a < tmps + 25) × (t ≡ way (name_at tmps a)))
    (back : (a : ℕ) → a < tmps + 25 → f (way (name_at tmps a)) ≡ Some a) where
  pub picked_below : (a : ℕ) → Contains (filter_map f ts) a → a < tmps + 25
  picked_below a c = let r = picked f ts a (to_in (filter_map f ts) a c) in (is a r.0 r.2).0

  pub picked_touch : (a : ℕ) → a < tmps + 25 → Contains (filter_map f ts) a ↔ Contains ts (way (name_at tmps a))
  picked_touch a lt = (
    λ c. let r = picked f ts a (to_in (filter_map f ts) a c) in
        from_in ts (way (name_at tmps a)) (subst (λ (t : Touch). In t ts) (is a r.0 r.2).1 r.1),
    λ c. from_in (filter_map f ts) a (picks f ts a (way (name_at tmps a)) (to_in ts (way (name_at tmps a)) c) (back a lt)),
  )

pub name_below : (tmps n : ℕ) → n < tmps + 25 → name_at tmps n < tmps + 31
name_below tmps n lt =
    elim (cases_lt n (tmps + 15)) [
      | inl low ↦ let e = name_at_low tmps n low in omega (arith, e, lt)
      | inr high ↦ let e = name_at_high tmps n high in omega (arith, e, lt)
    ]

-- one more touch
alone : (o : Option ℕ) → cons_option o [] ≡ option_to_list o
alone (Some x) = refl
alone None = refl

pub one_more : (f : Touch → Option ℕ) (ts : List Touch) (k : ℕ) (list new : List ℕ) → k < length ts → (o : Option ℕ)
    → list ≡ filter_map f (take k ts) → o ≡ f (get_or ts k (touch.Use 0)) → new ≡ list ++ option_to_list o
    → new ≡ filter_map f (take (k + 1) ts)
one_more f ts k list new lt o is at grown =
    grown ∙ ap (λ (l : List ℕ). l ++ option_to_list o) is
    ∙ ap (λ (p : Option ℕ). filter_map f (take k ts) ++ option_to_list p) at
    ∙ ap (λ (l : List ℕ). filter_map f (take k ts) ++ l) (sym (alone (f (get_or ts k (touch.Use 0)))))
    ∙ sym (filter_map-append f (take k ts) (get_or ts k (touch.Use 0) ∷ []))
    ∙ sym (ap (filter_map f) (take_more ts k (touch.Use 0) lt))

-- ---- the numbers of names

pub numbered_below : (tmps : ℕ) (names : List ℕ) (n : ℕ) → Contains (filter_map (number_named tmps) names) n → n < tmps + 25
numbered_below tmps names n c =
    let r = picked (number_named tmps) names n (to_in (filter_map (number_named tmps) names) n c) in (named tmps r.0 n r.2).0

pub numbered_in : (tmps : ℕ) (names : List ℕ) (n : ℕ) → n < tmps + 25
    → Contains (filter_map (number_named tmps) names) n ↔ Contains names (name_at tmps n)
numbered_in tmps names n lt = (
  λ c. let r = picked (number_named tmps) names n (to_in (filter_map (number_named tmps) names) n c) in
      from_in names (name_at tmps n) (subst (λ (k : ℕ). In k names) (named tmps r.0 n r.2).1 r.1),
  λ c. from_in (filter_map (number_named tmps) names) n
      (picks (number_named tmps) names n (name_at tmps n) (to_in names (name_at tmps n) c) (named_back tmps n lt)),
)
