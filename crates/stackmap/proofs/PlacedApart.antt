-- The registers that the placing rule gives keep apart.
use Rattle.std.proofs.Common.{◌≡◌, ◌∙◌, ◌⊎◌, ◌&&◌, ◌||◌, ℕ, ◌+◌, ◌<◌, Bool, true, false, not, nat_lt, nat_le, List, [], ◌∷◌, Option, Some, None, zero, suc, length, take, slice_get, get_or, inl, inr, refl, sym, ap, subst, arith, cond, All}
use Rattle.std.specs.List.{filter, list_any, list_all}
use Rattle.std.specs.List.Sorted.{IsStrictlyIncreasing}
use Rattle.std.proofs.lemmas.Bool.{cases_eq, cases_lt, eq-eqb, leb-true, or_cases, and_parts, ltb-true, not-true}
use Rattle.std.proofs.lemmas.List.Elements.{filter_passes}
use Rattle.std.proofs.lemmas.List.Folds.{list_any_at}
use Rattle.std.proofs.lemmas.List.Kept.{AllPairs-from_increasing, IsStrictlyIncreasing-filter}
use Rattle.std.proofs.lemmas.Option.{get_or_from_slice_get, slice_get_within}
use Rattle.b3_ir.specs.declared.value.Constraint.{Constraint}
use Rattle.b3_ir.specs.declared.value.Constraint.TheVariants.{SomeEarlyRegister}
use Rattle.b3_ir.specs.declared.value.Reg.{Reg}
use Rattle.b3_ir.specs.declared.value.Stackmap.{Stackmap}
use Rattle.b3_ir.specs.declared.value.Value.{Value}
use Rattle.stackmap.specs.PlacesObey.{IsPlacedIn, PlacesObey}
use Rattle.stackmap.specs.Placing.{allowed, child_register, is_allowed, nth_allowed, placed_count, register_in, register_numbered, result_in, result_register}
use Rattle.stackmap.specs.Registers.{allocatable, fixed_by, fixes, has, has_result, is_late, is_placed, is_placed_result, stackmap_in}
use Rattle.stackmap.specs.Rules.{FixApart, FixesAllocatable, FixesApart, IsAllocatable, IsPlaceable, NamesRegisters}
use Rattle.stackmap.proofs.Placed.{placed_less}

-- ---- the allocatable registers

rises : List ℕ → Bool
rises [] = true
rises (x ∷ []) = true
rises (x ∷ y ∷ ys) = nat_lt x y && rises (y ∷ ys)

rising : (xs : List ℕ) → rises xs ≡ true → IsStrictlyIncreasing xs
unfolding rises
rising [] e k within = absurd (omega arith)
rising (x ∷ []) e k within = absurd (omega arith)
rising (x ∷ y ∷ ys) e zero within = ltb-true x y (and_parts _ _ e).0
rising (x ∷ y ∷ ys) e (suc k) within =
    let next : suc (k + 1) ≡ suc k + 1 = omega arith in
    subst (λ (j : ℕ). get_or (y ∷ ys) k 0 < get_or (x ∷ y ∷ ys) j 0) next (rising (y ∷ ys) (and_parts _ _ e).1 k (omega arith))

allocatable_rises : IsStrictlyIncreasing allocatable
unfolding allocatable rises
allocatable_rises = rising allocatable refl

is_one : ℕ → Bool
is_one r = nat_le r 14 || (nat_le 19 r && nat_le r 28)

one_is : (reg : Reg) → is_one reg.0 ≡ true → IsAllocatable reg
unfolding is_one
one_is reg e = elim (or_cases _ _ e) [
  | inl low ↦ inl (leb-true reg.0 14 low)
  | inr high ↦ (let both = and_parts _ _ high in inr (leb-true 19 reg.0 both.0, leb-true reg.0 28 both.1))
]

all_at : (p : ℕ → Bool) (xs : List ℕ) (k r : ℕ) → list_all p xs ≡ true → slice_get xs k ≡ Some r → p r ≡ true
all_at p [] k r e at = absurd (cc)
all_at p (x ∷ xs) zero r e at = let same : x ≡ r = cc in subst (λ (q : ℕ). p q ≡ true) same (and_parts _ _ e).0
all_at p (x ∷ xs) (suc k) r e at = all_at p xs k r (and_parts _ _ e).1 at

all_filtered : (p q : ℕ → Bool) (xs : List ℕ) → list_all p xs ≡ true → list_all p (filter q xs) ≡ true
all_filtered p q [] e = refl
all_filtered p q (x ∷ xs) e = kept (q x) (and_parts _ _ e).0 (all_filtered p q xs (and_parts _ _ e).1)
  where
    kept : (b : Bool) → p x ≡ true → list_all p (filter q xs) ≡ true → list_all p (cond b (x ∷ filter q xs) (filter q xs)) ≡ true
    kept true one rest = rw (one, rest)
    kept false one rest = rest

all_are : list_all is_one allocatable ≡ true
unfolding allocatable is_one
all_are = refl

-- ---- an allowed register

allowed_number : (map : Stackmap) (typed : Bool) (n : ℕ) (reg : Reg) → nth_allowed map typed n ≡ Some reg → slice_get (allowed map typed) n ≡ Some reg.0
allowed_number map typed n reg e = from (slice_get (allowed map typed) n) e
  where
    from : (o : Option ℕ) → register_numbered o ≡ Some reg → o ≡ Some reg.0
    from None e = absurd (cc)
    from (Some r) e = let make : ℕ → Reg = λ q. record { 0 = q } in let same : make r ≡ reg = cc in ap Some (ap (λ (q : Reg). q.0) same)

allowed_once : (map : Stackmap) (typed : Bool) (m n r : ℕ) → slice_get (allowed map typed) m ≡ Some r → slice_get (allowed map typed) n ≡ Some r → m ≡ n
allowed_once map typed m n r at_m at_n = elim (cases_eq m n) [
  | inl e ↦ e
  | inr ne ↦ elim (cases_lt m n) [
    | inl less ↦ absurd (before m n less at_m at_n)
    | inr more ↦ absurd (before n m (omega arith) at_n at_m)
  ]
]
  where
    before : (m n : ℕ) → m < n → slice_get (allowed map typed) m ≡ Some r → slice_get (allowed map typed) n ≡ Some r → ⊥
    before m n less at_m at_n =
        let pairs = AllPairs-from_increasing (allowed map typed) (IsStrictlyIncreasing-filter (is_allowed map typed) allocatable allocatable_rises) in
        let h = pairs m n 0 less (slice_get_within (allowed map typed) n r at_n) in
        let em = get_or_from_slice_get (allowed map typed) m r 0 at_m in
        let en = get_or_from_slice_get (allowed map typed) n r 0 at_n in
        omega (arith, h, em, en)

pub record IsAllowed (map : Stackmap) (typed : Bool) (reg : Reg) : Type 0 where
  pub within : IsAllocatable reg
  pub early : has map.early reg.0 ≡ false
  pub late : has map.late reg.0 ≡ false
  pub fixed : list_any (fixes reg.0) map.constraints ≡ false
  pub result : typed ≡ true → fixes reg.0 map.result ≡ false

allowed_is : (map : Stackmap) (typed : Bool) (n : ℕ) (reg : Reg) → nth_allowed map typed n ≡ Some reg → IsAllowed map typed reg
allowed_is map typed n reg e =
    let at = allowed_number map typed n reg e in
    let passes : is_allowed map typed reg.0 ≡ true =
    subst (λ (q : ℕ). is_allowed map typed q ≡ true) (get_or_from_slice_get (allowed map typed) n reg.0 0 at)
    (filter_passes (is_allowed map typed) allocatable n 0 (slice_get_within (allowed map typed) n reg.0 at)) in
    let a = and_parts _ _ passes in
    let b = and_parts _ _ a.0 in
    let d = and_parts _ _ b.0 in
    record {
      within = one_is reg (all_at is_one (allowed map typed) n reg.0 (all_filtered is_one (is_allowed map typed) allocatable all_are) at);
      early = not-true _ d.0;
      late = not-true _ d.1;
      fixed = not-true _ b.1;
      result = λ is_typed. typed_part typed (fixes reg.0 map.result) is_typed (not-true _ a.1);
    }
  where
    typed_part : (a b : Bool) → a ≡ true → (a && b) ≡ false → b ≡ false
    typed_part true b ea e = e
    typed_part false b ea e = absurd (cc)

-- ---- a child's register is an allowed one of its own, or the one that it fixes

pub record Placed (map : Stackmap) (typed : Bool) (k : ℕ) (reg : Reg) : Type 0 where
  pub constraint : Constraint
  pub asks : slice_get map.constraints k ≡ Some constraint
  pub how : ((is_placed constraint ≡ true) × (nth_allowed map typed (placed_count (take k map.constraints)) ≡ Some reg)) ⊎ (fixed_by constraint ≡ Some reg)

pub placed_or_fixed : (map : Stackmap) (typed : Bool) (k : ℕ) (reg : Reg) → child_register map typed k (slice_get map.constraints k) ≡ Some reg
    → Placed map typed k reg
placed_or_fixed map typed k reg e = from (slice_get map.constraints k) refl e
  where
    by_kind : (b : Bool) (c : Constraint) → is_placed c ≡ b
        → cond b (nth_allowed map typed (placed_count (take k map.constraints))) (fixed_by c) ≡ Some reg
        → ((is_placed c ≡ true) × (nth_allowed map typed (placed_count (take k map.constraints)) ≡ Some reg)) ⊎ (fixed_by c ≡ Some reg)
    by_kind true c is e = inl (is, e)
    by_kind false c is e = inr e

    from : (o : Option Constraint) → slice_get map.constraints k ≡ o → child_register map typed k o ≡ Some reg → Placed map typed k reg
    from None at e = absurd (cc)
    from (Some c) at e = record { constraint = c; asks = at; how = by_kind (is_placed c) c refl e }

pub record ResultPlaced (map : Stackmap) (reg : Reg) : Type 0 where
  pub how : ((is_placed_result map.result ≡ true) × (nth_allowed map true (placed_count map.constraints) ≡ Some reg)) ⊎ (fixed_by map.result ≡ Some reg)

pub result_placed_or_fixed : (map : Stackmap) (reg : Reg) → result_in (Some map) ≡ Some reg → ResultPlaced map reg
result_placed_or_fixed map reg e = record { how = from (is_placed_result map.result) refl e }
  where
    from : (b : Bool) → is_placed_result map.result ≡ b → cond b (nth_allowed map true (placed_count map.constraints)) (fixed_by map.result) ≡ Some reg
        → ((is_placed_result map.result ≡ true) × (nth_allowed map true (placed_count map.constraints) ≡ Some reg)) ⊎ (fixed_by map.result ≡ Some reg)
    from true is e = inl (is, e)
    from false is e = inr e

pub fixes_own : (c : Constraint) (reg : Reg) → fixed_by c ≡ Some reg → fixes reg.0 c ≡ true
fixes_own c reg e = rw e (eq-eqb reg.0 reg.0 refl)

-- an allowed register is fixed for no child
not_fixed : (map : Stackmap) (typed : Bool) (k : ℕ) (c : Constraint) (reg : Reg) → IsAllowed map typed reg → slice_get map.constraints k ≡ Some c
    → fixed_by c ≡ Some reg → ⊥
not_fixed map typed k c reg allowed at fixed =
    let hit : fixes reg.0 (get_or map.constraints k c) ≡ true = rw (get_or_from_slice_get map.constraints k c c at) (fixes_own c reg fixed) in
    let any = list_any_at (fixes reg.0) map.constraints k c (slice_get_within map.constraints k c at) hit in
    let none = allowed.fixed in cc

-- a fact of each constraint, at a child
at_child : (P : Constraint → Type 0) (cs : List Constraint) (k : ℕ) (c : Constraint) → All P cs → slice_get cs k ≡ Some c → P c
at_child P cs k c all at = subst P (get_or_from_slice_get cs k c c at) (all k c (slice_get_within cs k c at))

-- more placed children stand before a later place than before a placed child
count_less : (cs : List Constraint) (j k : ℕ) (c : Constraint) → slice_get cs j ≡ Some c → is_placed c ≡ true → j < k
    → placed_count (take j cs) < placed_count (take k cs)
count_less [] j k c at placed less = absurd (cc)
count_less (x ∷ cs) zero zero c at placed less = absurd (omega arith)
count_less (x ∷ cs) zero (suc k) c at placed less = let e : is_placed x ≡ true = cc in rw e (omega arith)
count_less (x ∷ cs) (suc j) zero c at placed less = absurd (omega arith)
count_less (x ∷ cs) (suc j) (suc k) c at placed less = more (is_placed x) _ _ (count_less cs j k c at placed (omega arith))
  where
    more : (b : Bool) (us vs : List Constraint) → length us < length vs → length (cond b (x ∷ us) us) < length (cond b (x ∷ vs) vs)
    more true us vs h = omega arith
    more false us vs h = h

pub children_apart : (map : Stackmap) (typed : Bool) (j k : ℕ) (reg : Reg) → FixesApart typed map → Placed map typed j reg → Placed map typed k reg → j ≡ k
children_apart map typed j k reg apart one other = elim (cases_eq j k) [
  | inl e ↦ e
  | inr ne ↦ elim (cases_lt j k) [
    | inl less ↦ absurd (before j k less one other)
    | inr more ↦ absurd (before k j (omega arith) other one)
  ]
]
  where
    before : (j k : ℕ) → j < k → Placed map typed j reg → Placed map typed k reg → ⊥
    before j k less one other = elim one.how [
      | inl placed ↦ elim other.how [
        | inl placed_too ↦
            let same = allowed_once map typed _ _ reg.0 (allowed_number map typed _ reg placed.1) (allowed_number map typed _ reg placed_too.1) in
            let counts = count_less map.constraints j k one.constraint one.asks placed.0 less in
            omega (arith, same, counts)
        | inr fixed ↦ not_fixed map typed k other.constraint reg (allowed_is map typed _ reg placed.1) other.asks fixed
      ]
      | inr fixed ↦ elim other.how [
        | inl placed ↦ not_fixed map typed j one.constraint reg (allowed_is map typed _ reg placed.1) one.asks fixed
        | inr fixed_too ↦
            apart.children j k one.constraint less (slice_get_within map.constraints k other.constraint other.asks) reg
            (rw (get_or_from_slice_get map.constraints j one.constraint one.constraint one.asks) fixed)
            (rw (get_or_from_slice_get map.constraints k other.constraint one.constraint other.asks) fixed_too)
      ]
    ]

pub child_within : (map : Stackmap) (typed : Bool) (k : ℕ) (reg : Reg) → NamesRegisters typed map → Placed map typed k reg → IsAllocatable reg
child_within map typed k reg names child = elim child.how [
  | inl placed ↦ (allowed_is map typed _ reg placed.1).within
  | inr fixed ↦ at_child FixesAllocatable map.constraints k child.constraint names.children child.asks reg fixed
]

pub child_early : (map : Stackmap) (typed : Bool) (k : ℕ) (reg : Reg) → FixesApart typed map → Placed map typed k reg → has map.early reg.0 ≡ false
child_early map typed k reg apart child = elim child.how [
  | inl placed ↦ (allowed_is map typed _ reg placed.1).early
  | inr fixed ↦ at_child (λ c. (r : Reg) → fixed_by c ≡ Some r → has map.early r.0 ≡ false) map.constraints k child.constraint apart.early child.asks reg fixed
]

-- the constraint of a child is the one that is asked
same_constraint : (map : Stackmap) (typed : Bool) (k : ℕ) (c : Constraint) (reg : Reg) (child : Placed map typed k reg) → slice_get map.constraints k ≡ Some c
    → is_late c ≡ true → is_late child.constraint ≡ true
same_constraint map typed k c reg child at late =
    let e = child.asks in
    let same : c ≡ child.constraint = cc in
    subst (λ (x : Constraint). is_late x ≡ true) same late

pub child_late : (map : Stackmap) (typed : Bool) (k : ℕ) (c : Constraint) (reg : Reg) → FixesApart typed map → Placed map typed k reg
    → slice_get map.constraints k ≡ Some c → is_late c ≡ true → has map.late reg.0 ≡ false
child_late map typed k c reg apart child at late = elim child.how [
  | inl placed ↦ (allowed_is map typed _ reg placed.1).late
  | inr fixed ↦ at_child (λ x. is_late x ≡ true → (r : Reg) → fixed_by x ≡ Some r → has map.late r.0 ≡ false) map.constraints k child.constraint
      apart.late child.asks (same_constraint map typed k c reg child at late) reg fixed
]

-- a placed result is in no child's register
placed_result_alone : (map : Stackmap) (k : ℕ) (reg : Reg) → nth_allowed map true (placed_count map.constraints) ≡ Some reg → Placed map true k reg → ⊥
placed_result_alone map k reg result child = elim child.how [
  | inl placed ↦
      let same = allowed_once map true _ _ reg.0 (allowed_number map true _ reg placed.1) (allowed_number map true _ reg result) in
      let less = placed_less map.constraints k child.constraint child.asks placed.0 in
      omega (arith, same, less)
  | inr fixed ↦ not_fixed map true k child.constraint reg (allowed_is map true _ reg result) child.asks fixed
]

pub late_result_apart : (map : Stackmap) (k : ℕ) (c : Constraint) (reg : Reg) → FixesApart true map → Placed map true k reg → ResultPlaced map reg
    → slice_get map.constraints k ≡ Some c → is_late c ≡ true → ⊥
late_result_apart map k c reg apart child result at late = elim result.how [
  | inl placed ↦ placed_result_alone map k reg placed.1 child
  | inr fixed ↦ elim child.how [
    | inl placed ↦ (let no = (allowed_is map true _ reg placed.1).result refl in let yes = fixes_own map.result reg fixed in cc)
    | inr fixed_too ↦ at_child (λ x. is_late x ≡ true → true ≡ true → FixApart x map.result) map.constraints k child.constraint
        apart.late_result child.asks (same_constraint map true k c reg child at late) refl reg fixed_too fixed
  ]
]

pub result_within : (map : Stackmap) (reg : Reg) → NamesRegisters true map → FixesApart true map → ResultPlaced map reg
    → IsAllocatable reg × (has map.late reg.0 ≡ false)
result_within map reg names apart result = elim result.how [
  | inl placed ↦ (let is = allowed_is map true _ reg placed.1 in (is.within, is.late))
  | inr fixed ↦ (names.result refl reg fixed, apart.result refl reg fixed)
]

pub early_result_alone : (map : Stackmap) (reg : Reg) → map.result ≡ SomeEarlyRegister → ResultPlaced map reg
    → (has map.early reg.0 ≡ false) × ((k : ℕ) → ¬ (Placed map true k reg))
early_result_alone map reg is_early result = elim result.how [
  | inl placed ↦ ((allowed_is map true _ reg placed.1).early, λ k child. placed_result_alone map k reg placed.1 child)
  | inr fixed ↦ absurd (let none : fixed_by map.result ≡ None = ap fixed_by is_early in cc)
]

-- ---- of a value

child_of : (v : Value) (map : Stackmap) (k : ℕ) (reg : Reg) → stackmap_in v.body ≡ Some map → IsPlacedIn v k reg → Placed map (has_result v) k reg
child_of v map k reg carries placed =
    placed_or_fixed map (has_result v) k reg (sym (ap (λ (o : Option Stackmap). register_in o (has_result v) k) carries) ∙ placed)

result_of : (v : Value) (map : Stackmap) (reg : Reg) → stackmap_in v.body ≡ Some map → result_register v ≡ Some reg
    → (has_result v ≡ true) × ResultPlaced map reg
result_of v map reg carries is =
    let both = of_test (has_result v) (result_in (stackmap_in v.body)) is in
    (both.0, result_placed_or_fixed map reg (sym (ap result_in carries) ∙ both.1))
  where
    of_test : (b : Bool) (o : Option Reg) → cond b o None ≡ Some reg → (b ≡ true) × (o ≡ Some reg)
    of_test true o e = (refl, e)
    of_test false o e = absurd (cc)

pub places_obey : (v : Value) (map : Stackmap) → stackmap_in v.body ≡ Some map → IsPlaceable v → PlacesObey v map
places_obey v map carries keeps =
    let same : keeps.stackmap ≡ map = (let e = keeps.carries in cc) in
    let names = subst (λ (m : Stackmap). NamesRegisters (has_result v) m) same keeps.registers in
    let apart = subst (λ (m : Stackmap). FixesApart (has_result v) m) same keeps.apart in
    record {
      allocatable = λ k reg at. child_within map (has_result v) k reg names (child_of v map k reg carries at);
      apart = λ j k reg at_j at_k. children_apart map (has_result v) j k reg apart (child_of v map j reg carries at_j) (child_of v map k reg carries at_k);
      early = λ k reg at. child_early map (has_result v) k reg apart (child_of v map k reg carries at);
      late = λ k c reg asks is_late at. child_late map (has_result v) k c reg apart (child_of v map k reg carries at) asks is_late;
      late_result = λ k c reg asks is_late at is.
          let result = result_of v map reg carries is in
          late_result_apart map k c reg (subst (λ (b : Bool). FixesApart b map) result.0 apart)
          (subst (λ (b : Bool). Placed map b k reg) result.0 (child_of v map k reg carries at)) result.1 asks is_late;
      result = λ reg is.
          let result = result_of v map reg carries is in
          result_within map reg (subst (λ (b : Bool). NamesRegisters b map) result.0 names) (subst (λ (b : Bool). FixesApart b map) result.0 apart) result.1;
      early_result = λ is_early reg is.
          let result = result_of v map reg carries is in
          let alone = early_result_alone map reg is_early result.1 in
          (alone.0, λ k at. alone.1 k (subst (λ (b : Bool). Placed map b k reg) result.0 (child_of v map k reg carries at)));
    }
