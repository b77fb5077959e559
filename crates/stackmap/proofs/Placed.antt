-- The placing rule gives each child and result that asks for some register one.
use Rattle.std.proofs.Common.{◌≡◌, ◌≢◌, ◌↔◌, ◌∙◌, ℕ, ◌+◌, ◌<◌, ◌≤◌, Bool, true, false, IsTrue, List, [], ◌∷◌, Option, Some, None, zero, suc, length, take, slice_get, refl, sym, ap, subst, arith, cond, IfSome, All}
use Rattle.std.specs.List.{filter}
use Rattle.std.proofs.lemmas.Option.{get_or_from_slice_get, slice_get-get_or, slice_get_within}
use Rattle.b3_ir.specs.declared.value.Body.{Body}
use Rattle.b3_ir.specs.declared.value.Body.TheVariants.{Map}
use Rattle.b3_ir.specs.declared.value.Constraint.{Constraint}
use Rattle.b3_ir.specs.declared.value.Constraint.TheVariants.{WarmAny, ColdAny, LateColdAny, SomeRegister, SomeRegisterWithClobber, SomeEarlyRegister, SomeLateRegister, Fixed, LateFixed}
use Rattle.b3_ir.specs.declared.value.Reg.{Reg}
use Rattle.b3_ir.specs.declared.value.Stackmap.{Stackmap}
use Rattle.b3_ir.specs.declared.value.Value.{Value}
use Rattle.stackmap.specs.Placing.{allowed, child_register, is_allowed, nth_allowed, placed_count, register_numbered, result_in}
use Rattle.stackmap.specs.Registers.{allocatable, constraints_in, constraints_of, fixed_by, is_placed, is_placed_result, stackmap_in, stands_anywhere}
use Rattle.stackmap.specs.Rules.{HasRegisters, MayResult, result_demand}

-- a body has one stackmap
pub same_map : (body : Body) (map other : Stackmap) → body ≡ Map map → stackmap_in body ≡ Some other → other ≡ map
same_map body map other e carries = let here : stackmap_in body ≡ Some map = ap stackmap_in e in cc

-- tests that answer alike leave the same
pub filter_alike : (p q : ℕ → Bool) (xs : List ℕ) → ((r : ℕ) → p r ≡ q r) → filter p xs ≡ filter q xs
filter_alike p q [] same = refl
filter_alike p q (x ∷ xs) same = rw (same x, filter_alike p q xs same) refl

pub nth_alike : (p q : ℕ → Bool) (xs : List ℕ) (k : ℕ) → ((r : ℕ) → p r ≡ q r)
    → register_numbered (slice_get (filter p xs) k) ≡ register_numbered (slice_get (filter q xs) k)
nth_alike p q xs k same = ap (λ (ys : List ℕ). register_numbered (slice_get ys k)) (filter_alike p q xs same)

pub nth_from_literal : (p : ℕ → Bool) (map : Stackmap) (typed : Bool) (k : ℕ) → ((r : ℕ) → p r ≡ is_allowed map typed r)
    → register_numbered (slice_get (filter p
    (0 ∷ 1 ∷ 2 ∷ 3 ∷ 4 ∷ 5 ∷ 6 ∷ 7 ∷ 8 ∷ 9 ∷ 10 ∷ 11 ∷ 12 ∷ 13 ∷ 14 ∷ 19 ∷ 20 ∷ 21 ∷ 22 ∷ 23 ∷ 24 ∷ 25 ∷ 26 ∷ 27 ∷ 28 ∷ [])) k)
    ≡ nth_allowed map typed k
unfolding allocatable
nth_from_literal p map typed k same = nth_alike p (is_allowed map typed) allocatable k same

pub allowed_from_literal : (p : ℕ → Bool) (map : Stackmap) (typed : Bool) → ((r : ℕ) → p r ≡ is_allowed map typed r)
    → filter p (0 ∷ 1 ∷ 2 ∷ 3 ∷ 4 ∷ 5 ∷ 6 ∷ 7 ∷ 8 ∷ 9 ∷ 10 ∷ 11 ∷ 12 ∷ 13 ∷ 14 ∷ 19 ∷ 20 ∷ 21 ∷ 22 ∷ 23 ∷ 24 ∷ 25 ∷ 26 ∷ 27 ∷ 28 ∷ [])
    ≡ allowed map typed
unfolding allocatable
allowed_from_literal p map typed same = filter_alike p (is_allowed map typed) allocatable same

pub count_from_literal : (p : ℕ → Bool) (map : Stackmap) (typed : Bool) → ((r : ℕ) → p r ≡ is_allowed map typed r)
    → length (filter p (0 ∷ 1 ∷ 2 ∷ 3 ∷ 4 ∷ 5 ∷ 6 ∷ 7 ∷ 8 ∷ 9 ∷ 10 ∷ 11 ∷ 12 ∷ 13 ∷ 14 ∷ 19 ∷ 20 ∷ 21 ∷ 22 ∷ 23 ∷ 24 ∷ 25 ∷ 26 ∷ 27 ∷ 28 ∷ []))
    ≡ length (allowed map typed)
unfolding allocatable
count_from_literal p map typed same = ap length (filter_alike p (is_allowed map typed) allocatable same)

-- a placed child has fewer placed ones before it than there are
pub placed_less : (cs : List Constraint) (k : ℕ) (c : Constraint) → slice_get cs k ≡ Some c → is_placed c ≡ true → placed_count (take k cs) < placed_count cs
placed_less [] k c at placed = absurd (cc)
placed_less (x ∷ cs) zero c at placed = let e : is_placed x ≡ true = cc in rw e (omega arith)
placed_less (x ∷ cs) (suc k) c at placed = more (is_placed x) _ _ (placed_less cs k c at placed)
  where
    more : (b : Bool) (us vs : List Constraint) → length us < length vs → length (cond b (x ∷ us) us) < length (cond b (x ∷ vs) vs)
    more true us vs h = omega arith
    more false us vs h = h

numbered : (xs : List ℕ) (k : ℕ) → k < length xs → register_numbered (slice_get xs k) ≢ None
numbered xs k within none = let e = ap register_numbered (slice_get-get_or xs k 0 within) in cc

-- the allowed registers suffice
pub placed_is_some : (typed : Bool) (map : Stackmap) (k : ℕ) (c : Constraint) → HasRegisters typed map
    → slice_get map.constraints k ≡ Some c → is_placed c ≡ true → nth_allowed map typed (placed_count (take k map.constraints)) ≢ None
placed_is_some typed map k c enough at placed =
    numbered (allowed map typed) _ (let less = placed_less map.constraints k c at placed in omega (arith, less, enough))

pub child_none : (typed : Bool) (map : Stackmap) (k : ℕ) (c : Constraint) → HasRegisters typed map → slice_get map.constraints k ≡ Some c
    → c ≢ SomeEarlyRegister → (child_register map typed k (Some c) ≡ None) ↔ IsTrue (stands_anywhere c)
child_none typed map k WarmAny enough at early = (λ _. refl, λ _. refl)
child_none typed map k ColdAny enough at early = (λ _. refl, λ _. refl)
child_none typed map k LateColdAny enough at early = (λ _. refl, λ _. refl)
child_none typed map k SomeRegister enough at early = (λ none. absurd (placed_is_some typed map k SomeRegister enough at refl none), λ no. absurd (cc))
child_none typed map k SomeRegisterWithClobber enough at early =
    (λ none. absurd (placed_is_some typed map k SomeRegisterWithClobber enough at refl none), λ no. absurd (cc))
child_none typed map k SomeEarlyRegister enough at early = absurd (early refl)
child_none typed map k SomeLateRegister enough at early =
    (λ none. absurd (placed_is_some typed map k SomeLateRegister enough at refl none), λ no. absurd (cc))
child_none typed map k (Fixed reg) enough at early = (λ none. absurd (cc), λ no. absurd (cc))
child_none typed map k (LateFixed reg) enough at early = (λ none. absurd (cc), λ no. absurd (cc))

at_option : (typed : Bool) (map : Stackmap) (k : ℕ) (o : Option Constraint) (r : Option Reg) → slice_get map.constraints k ≡ o
    → r ≡ child_register map typed k o → HasRegisters typed map → All (λ c. c ≢ SomeEarlyRegister) map.constraints
    → IfSome o (λ c. (r ≡ None) ↔ IsTrue (stands_anywhere c))
at_option typed map k None r at is enough early = tt
at_option typed map k (Some c) r at is enough early =
    let not_early : c ≢ SomeEarlyRegister = subst (λ (x : Constraint). x ≢ SomeEarlyRegister)
    (get_or_from_slice_get map.constraints k c c at) (early k c (slice_get_within map.constraints k c at)) in
    let known = child_none typed map k c enough at not_early in
    (λ none. known.0 (sym is ∙ none), λ anywhere. is ∙ known.1 anywhere)

-- none exactly for a child that may stand anywhere
pub none_anywhere : (v : Value) (map : Stackmap) (typed : Bool) (k : ℕ) (r : Option Reg) → v.body ≡ Map map
    → r ≡ child_register map typed k (slice_get map.constraints k) → HasRegisters typed map
    → All (λ c. c ≢ SomeEarlyRegister) map.constraints
    → IfSome (slice_get (constraints_of v) k) (λ c. (r ≡ None) ↔ IsTrue (stands_anywhere c))
none_anywhere v map typed k r body is enough early =
    subst (λ (b : Body). IfSome (slice_get (constraints_in (stackmap_in b)) k) (λ c. (r ≡ None) ↔ IsTrue (stands_anywhere c)))
    (sym body) (at_option typed map k _ r refl is enough early)

one_more : (map : Stackmap) → placed_count map.constraints + 1 ≤ length (allowed map true) → nth_allowed map true (placed_count map.constraints) ≢ None
one_more map enough = numbered (allowed map true) _ (omega (arith, enough))

by_result : (map : Stackmap) (c : Constraint) → MayResult c → placed_count map.constraints + result_demand true c ≤ length (allowed map true)
    → cond (is_placed_result c) (nth_allowed map true (placed_count map.constraints)) (fixed_by c) ≢ None
by_result map SomeRegister may enough = one_more map enough
by_result map SomeEarlyRegister may enough = one_more map enough
by_result map (Fixed reg) may enough = λ none. cc
by_result map (LateFixed reg) may enough = λ none. cc
by_result map WarmAny may enough = absurd may
by_result map ColdAny may enough = absurd may
by_result map LateColdAny may enough = absurd may
by_result map SomeRegisterWithClobber may enough = absurd may
by_result map SomeLateRegister may enough = absurd may

pub result_is_some : (map : Stackmap) → HasRegisters true map → MayResult map.result → result_in (Some map) ≢ None
result_is_some map enough may = by_result map map.result may enough
