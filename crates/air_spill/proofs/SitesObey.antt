-- A site keeps the constraints of its value where the registers of the children that the placing rule gives none keep
-- apart.
use Rattle.std.proofs.Common.{◌≡◌, ◌≢◌, ◌↔◌, ◌∙◌, ◌⊎◌, ℕ, ◌≤◌, Bool, true, false, cond, Option, Some, None, IfSome, length, inl, inr, refl, sym, ap, subst, arith}
use Rattle.std.specs.Prelude.{slice_get}
use Rattle.std.proofs.lemmas.Option.{slice_get-get_or, slice_get_within}
use Rattle.b3_base.specs.declared.word.Width.{Width}
use Rattle.b3_base.specs.declared.word.Width.TheVariants.{W32}
use Rattle.b3_ir.specs.declared.value.Constraint.{Constraint}
use Rattle.b3_ir.specs.declared.value.Constraint.TheVariants.{WarmAny, ColdAny, LateColdAny, SomeRegister, SomeRegisterWithClobber, SomeEarlyRegister, SomeLateRegister, Fixed, LateFixed}
use Rattle.b3_ir.specs.declared.value.Reg.{Reg}
use Rattle.b3_ir.specs.declared.value.Stackmap.{Stackmap}
use Rattle.b3_ir.specs.declared.value.Value.{Value}
use Rattle.stackmap.specs.Obeys.{HasClobbered, HasKind, IsChild, IsNamed, Keeps}
use Rattle.stackmap.specs.PlacesObey.{PlacesObey}
use Rattle.stackmap.specs.Placing.{child_register, nth_allowed, placed_count, register_for, register_in, result_in, result_register}
use Rattle.stackmap.specs.Registers.{fixed_by, has, has_result, is_late, is_patchpoint, is_placed_result, stackmap_in}
use Rattle.stackmap.specs.Rules.{HasRegisters, IsAllocatable, IsPlaceable}
use Rattle.stackmap.specs.declared.site.Place.{Place}
use Rattle.stackmap.specs.declared.site.Rep.{Rep}
use Rattle.stackmap.specs.declared.site.Rep.TheVariants as rep
use Rattle.stackmap.specs.declared.site.Site.{Site}
use Rattle.stackmap.proofs.Placed.{placed_is_some}
use Rattle.stackmap.proofs.PlacedApart.{places_obey}
use Rattle.air_ir.specs.Expressed.{ClobbersIt}

if_some : {A : Type 0} (P Q : A → Type 0) (o : Option A) → IfSome o P → ((x : A) → P x → Q x) → IfSome o Q
if_some P Q None h f = tt
if_some P Q (Some x) h f = f x h

-- ---- what is asked of a register in which a child stands that the placing rule gives none

pub record FreeKeeps (v : Value) (map : Stackmap) (c : Constraint) (reg : Reg) : Type 0 where
  pub within : IsAllocatable reg
  pub early : has map.early reg.0 ≡ false
  pub alone : ClobbersIt map v reg.0 → ⊥
  pub late : is_late c ≡ true → has map.late reg.0 ≡ false
  pub late_result : is_late c ≡ true → result_register v ≡ Some reg → ⊥
  pub early_result : map.result ≡ SomeEarlyRegister → result_register v ≡ Some reg → ⊥

-- a child stands in the register that the placing rule gives it, or is given none
abbrev pub IsPlacedAt : Value → ℕ → Rep → Type 0
IsPlacedAt v k where_ = (reg : Reg) × (register_for v k ≡ Some reg) × (where_ ≡ rep.Register reg)

abbrev pub IsFree : Value → Stackmap → ℕ → Constraint → Rep → Type 0
IsFree v map k c where_ =
    (register_for v k ≡ None) × ((reg : Reg) → where_ ≡ rep.Register reg → FreeKeeps v map c reg)

abbrev pub HowStands : Value → Stackmap → ℕ → Constraint → Rep → Type 0
HowStands v map k c where_ = IsPlacedAt v k where_ ⊎ IsFree v map k c where_

-- ---- kinds

placed_kind : (map : Stackmap) (typed : Bool) (k : ℕ) (c : Constraint) (reg : Reg)
    → child_register map typed k (Some c) ≡ Some reg
    → HasKind c (rep.Register reg)
placed_kind map typed k WarmAny reg e = tt
placed_kind map typed k ColdAny reg e = tt
placed_kind map typed k LateColdAny reg e = tt
placed_kind map typed k SomeRegister reg e = tt
placed_kind map typed k SomeRegisterWithClobber reg e = tt
placed_kind map typed k SomeEarlyRegister reg e = tt
placed_kind map typed k SomeLateRegister reg e = tt
placed_kind map typed k (Fixed r) reg e = let same : r ≡ reg = cc in ap rep.Register (sym same)
placed_kind map typed k (LateFixed r) reg e = let same : r ≡ reg = cc in ap rep.Register (sym same)

free_kind : (map : Stackmap) (typed : Bool) (k : ℕ) (c : Constraint) (where_ : Rep) → HasRegisters typed map
    → slice_get map.constraints k ≡ Some c → child_register map typed k (Some c) ≡ None → HasKind c where_
free_kind map typed k WarmAny where_ enough at e = tt
free_kind map typed k ColdAny where_ enough at e = tt
free_kind map typed k LateColdAny where_ enough at e = tt
free_kind map typed k SomeRegister where_ enough at e =
    absurd (placed_is_some typed map k SomeRegister enough at refl e)
free_kind map typed k SomeRegisterWithClobber where_ enough at e =
    absurd (placed_is_some typed map k SomeRegisterWithClobber enough at refl e)
free_kind map typed k SomeEarlyRegister where_ enough at e = tt
free_kind map typed k SomeLateRegister where_ enough at e =
    absurd (placed_is_some typed map k SomeLateRegister enough at refl e)
free_kind map typed k (Fixed r) where_ enough at e = absurd (cc)
free_kind map typed k (LateFixed r) where_ enough at e = absurd (cc)

-- ---- results

unplaced : (c : Constraint) (reg : Reg) → fixed_by c ≡ Some reg → is_placed_result c ≡ false
unplaced WarmAny reg e = refl
unplaced ColdAny reg e = refl
unplaced LateColdAny reg e = refl
unplaced SomeRegister reg e = absurd (cc)
unplaced SomeRegisterWithClobber reg e = refl
unplaced SomeEarlyRegister reg e = absurd (cc)
unplaced SomeLateRegister reg e = refl
unplaced (Fixed r) reg e = refl
unplaced (LateFixed r) reg e = refl

if_fixed : (test : Bool) (given fixed : Option Reg) (r reg : Reg) → cond test given fixed ≡ Some r → test ≡ false
    → fixed ≡ Some reg → r ≡ reg
if_fixed true given fixed r reg e none is = absurd (cc)
if_fixed false given fixed r reg e none is = cc

fixed_result_is : (typed : Bool) (map : Stackmap) (r reg : Reg) → cond typed (result_in (Some map)) None ≡ Some r
    → fixed_by map.result ≡ Some reg
    → r ≡ reg
fixed_result_is true map r reg e fixed =
    if_fixed (is_placed_result map.result) (nth_allowed map true (placed_count map.constraints)) (fixed_by map.result)
    r reg e
    (unplaced map.result reg fixed) fixed
fixed_result_is false map r reg e fixed = absurd (cc)

pub allocatable_low : (reg : Reg) → IsAllocatable reg → reg.0 ≤ 30
allocatable_low reg (inl low) = omega (arith, low)
allocatable_low reg (inr high) = omega (arith, high.1)

module _ (v : Value) (map : Stackmap) (carries : stackmap_in v.body ≡ Some map) (placeable : IsPlaceable v)
    (site : Site)
    (count : length site.reps ≡ length map.constraints)
    (stands : (k : ℕ) (c : Constraint) (where_ : Rep) → IsChild map site k c where_ → HowStands v map k c where_) where
  obey : PlacesObey v map
  obey = places_obey v map carries placeable

  enough : HasRegisters (has_result v) map
  enough =
      let same : placeable.stackmap ≡ map = (let e = placeable.carries in cc) in
      subst (λ (m : Stackmap). HasRegisters (has_result v) m) same placeable.enough

  asked : (k : ℕ) (c : Constraint) → slice_get map.constraints k ≡ Some c
      → register_for v k ≡ child_register map (has_result v) k (Some c)
  asked k c at =
      ap (λ (o : Option Stackmap). register_in o (has_result v) k) carries ∙ ap (child_register map (has_result v) k) at

  same_register : (r q : Reg) → rep.Register r ≡ rep.Register q → r ≡ q
  same_register r q e = cc

  kind : (k : ℕ) (c : Constraint) (where_ : Rep) → IsChild map site k c where_ → HasKind c where_
  kind k c where_ child = elim (stands k c where_ child) [
    | inl at ↦ subst (HasKind c) (sym at.2) (placed_kind map (has_result v) k c at.0
        (sym (asked k c child.asks) ∙ at.1))
    | inr free ↦ free_kind map (has_result v) k c where_ enough child.asks (sym (asked k c child.asks) ∙ free.0)
  ]

  free_named : (c : Constraint) (where_ : Rep) → ((reg : Reg) → where_ ≡ rep.Register reg → FreeKeeps v map c reg)
      → IsNamed where_
  free_named c (rep.Register reg) keeps = allocatable_low reg (keeps reg refl).within
  free_named c (rep.Slot offset) keeps = tt
  free_named c (rep.Constant word) keeps = tt

  named : (k : ℕ) (c : Constraint) (where_ : Rep) → IsChild map site k c where_ → IsNamed where_
  named k c where_ child = elim (stands k c where_ child) [
    | inl at ↦ subst IsNamed (sym at.2) (allocatable_low at.0 (obey.allocatable k at.0 at.1))
    | inr free ↦ free_named c where_ free.1
  ]

  -- a child in a register is placed there, or is given none and keeps apart
  by_register : (k : ℕ) (c : Constraint) (reg : Reg) → IsChild map site k c (rep.Register reg)
      → (register_for v k ≡ Some reg) ⊎ FreeKeeps v map c reg
  by_register k c reg child = elim (stands k c (rep.Register reg) child) [
    | inl at ↦ inl (at.1 ∙ ap Some (sym (same_register reg at.0 at.2)))
    | inr free ↦ inr (free.1 reg refl)
  ]

  -- one that clobbers its register is placed there
  clobberer : (k : ℕ) (where_ : Rep) → IsChild map site k SomeRegisterWithClobber where_ → IsPlacedAt v k where_
  clobberer k where_ child = elim (stands k SomeRegisterWithClobber where_ child) [
    | inl at ↦ at
    | inr free ↦ absurd (placed_is_some (has_result v) map k SomeRegisterWithClobber enough child.asks refl
        (sym (asked k SomeRegisterWithClobber child.asks) ∙ free.0))
  ]

  clobbers_it : (k : ℕ) (reg : Reg) → IsChild map site k SomeRegisterWithClobber (rep.Register reg)
      → register_for v k ≡ Some reg
  clobbers_it k reg child =
      let at = clobberer k (rep.Register reg) child in at.1 ∙ ap Some (sym (same_register reg at.0 at.2))

  is_it : (k : ℕ) (reg : Reg) → IsChild map site k SomeRegisterWithClobber (rep.Register reg) → ClobbersIt map v reg.0
  is_it k reg child = (k, child.asks, clobbers_it k reg child)

  has_clobbered : (reg : Reg) → ClobbersIt map v reg.0 → HasClobbered map site reg
  has_clobbered reg (k, asks, at) =
      let there = slice_get-get_or site.reps k first
      (let lt = slice_get_within map.constraints k SomeRegisterWithClobber asks in rw count lt) in
      let child : IsChild map site k SomeRegisterWithClobber _ = record
      { place = _; asks = asks; reported = there; stands = refl } in
      let is = clobberer k _ child in
      let same : is.0 ≡ reg = (let e = is.1 in cc) in
      record {
        child = k;
        is = subst (λ (w : Rep). IsChild map site k SomeRegisterWithClobber w)
            (is.2 ∙ ap rep.Register same) child;
      }
    where
      first : Place
      first = record { width = W32; rep = rep.Slot 0 }

  not_late : (k : ℕ) (c : Constraint) → slice_get map.constraints k ≡ Some SomeRegisterWithClobber
      → slice_get map.constraints k ≡ Some c
      → is_late c ≡ true → ⊥
  not_late k c e at late =
      let same : c ≡ SomeRegisterWithClobber = cc in
      let no = subst (λ (x : Constraint). is_late x ≡ true) same late in
      cc

  late_clobbered : (k : ℕ) (c : Constraint) (reg : Reg) → IsChild map site k c (rep.Register reg) → is_late c ≡ true
      → HasClobbered map site reg → ⊥
  late_clobbered k c reg child late clobbers = elim (by_register k c reg child) [
    | inl at ↦
        let same = obey.apart clobbers.child k reg (clobbers_it clobbers.child reg clobbers.is) at in
        not_late k c (subst (λ (n : ℕ). slice_get map.constraints n ≡ Some SomeRegisterWithClobber) same
        clobbers.is.asks) child.asks late
    | inr free ↦ free.alone (is_it clobbers.child reg clobbers.is)
  ]

  pub keeps_places : IfSome site.result (λ result. result_register v ≡ Some result.1)
      → (is_patchpoint v.kind.opcode ≡ true → (reg : Reg) → (has site.clobbers reg.0 ≡ true)
      ↔ ((has map.early reg.0 ≡ true) ⊎ (has map.late reg.0 ≡ true) ⊎ ClobbersIt map v reg.0))
      → (is_patchpoint v.kind.opcode ≡ false → site.clobbers ≡ 0)
      → Keeps (is_patchpoint v.kind.opcode) map site
  keeps_places placed changed none = record {
    kinds = kind;
    named = named;
    alone = λ k reg child j c differ other. elim (by_register j c reg other) [
      | inl at ↦ differ (obey.apart j k reg at (clobbers_it k reg child))
      | inr free ↦ free.alone (is_it k reg child)
    ];
    early = λ k c reg child. elim (by_register k c reg child) [ inl at ↦ obey.early k reg at | inr free ↦ free.early ];
    late = λ k c reg child late. (
      elim (by_register k c reg child) [ inl at ↦ obey.late k c reg child.asks late at | inr free ↦ free.late late ],
      late_clobbered k c reg child late,
      if_some (λ (r : Width × Reg). result_register v ≡ Some r.1) (λ (r : Width × Reg). r.1 ≢ reg) site.result placed
          (λ r is same.
          let here : result_register v ≡ Some reg = is ∙ ap Some same in
          elim (by_register k c reg child) [
            | inl at ↦ obey.late_result k c reg child.asks late at here
            | inr free ↦ free.late_result late here
          ]),
    );
    result = if_some (λ (r : Width × Reg). result_register v ≡ Some r.1)
        (λ (r : Width × Reg). (r.1.0 ≤ 30) × (has map.late r.1.0 ≡ false))
        site.result placed (λ r is. let keeps = obey.result r.1 is in (allocatable_low r.1 keeps.0, keeps.1));
    early_result = λ is_early. if_some (λ (r : Width × Reg). result_register v ≡ Some r.1)
        (λ (r : Width × Reg). (has map.early r.1.0 ≡ false) ×
        ((k : ℕ) (c : Constraint) → ¬ (IsChild map site k c (rep.Register r.1))))
        site.result placed (λ r is.
        let keeps = obey.early_result is_early r.1 is in (
          keeps.0,
          λ k c child. elim (by_register k c r.1 child)
              [ inl at ↦ keeps.1 k at | inr free ↦ free.early_result is_early is ],
        ));
    fixed_result = λ reg fixed. if_some (λ (r : Width × Reg). result_register v ≡ Some r.1)
        (λ (r : Width × Reg). r.1 ≡ reg) site.result placed
        (λ r is. fixed_result_is (has_result v) map r.1 reg
        (sym (ap (λ (o : Option Stackmap). cond (has_result v) (result_in o) None) carries) ∙ is) fixed);
    clobbers = λ patchpoint reg. (
      (λ listed. elim ((changed patchpoint reg).0 listed) [
        | inl is_early ↦ inl is_early
        | inr rest ↦ elim rest [ inl is_late ↦ inr (inl is_late) | inr it ↦ inr (inr (has_clobbered reg it)) ]
      ]),
      (λ any. (changed patchpoint reg).1 (elim any [
        | inl is_early ↦ inl is_early
        | inr rest ↦ elim rest [ inl is_late ↦ inr (inl is_late) | inr it ↦ inr (inr (is_it it.child reg it.is)) ]
      ])),
    );
    no_clobbers = none;
  }
