-- A site keeps its constraints exactly where the sets of its children's registers do.
use Rattle.std.proofs.Common.{◌≡◌, ◌≢◌, ◌↔◌, ◌∙◌, ◌||◌, ℕ, ◌≤◌, Bool, true, false, Option, Some, None, IfSome, inl, inr, refl, sym, ap, subst, arith}
use Rattle.std.proofs.lemmas.Bool.{cases_eq, cases_lt, or_cases, or_left, or_right, false_from_ne_true, or_parts, or_from}
use Rattle.std.proofs.lemmas.Option.{IfSome_then}
use Rattle.b3_base.proofs.Booleans.{same_tests}
use Rattle.b3_base.specs.declared.word.Width.{Width}
use Rattle.b3_ir.specs.declared.value.Constraint.{Constraint}
use Rattle.b3_ir.specs.declared.value.Constraint.TheVariants.{WarmAny, ColdAny, LateColdAny, SomeRegister, SomeRegisterWithClobber, SomeEarlyRegister, SomeLateRegister, Fixed, LateFixed}
use Rattle.b3_ir.specs.declared.value.Reg.{Reg}
use Rattle.b3_ir.specs.declared.value.Stackmap.{Stackmap}
use Rattle.stackmap.specs.Obeys.{HasClobbered, IsChild, Keeps}
use Rattle.stackmap.specs.Registers.{has, is_late}
use Rattle.stackmap.specs.Standing.{child_count, is_clobbered, FitBelow, ResultKeeps, SetsKeep, StandsBelow, TwiceBelow}
use Rattle.stackmap.specs.declared.obeying.Group.{Group}
use Rattle.stackmap.specs.declared.obeying.Group.TheVariants.{Every, Late, Clobbered}
use Rattle.stackmap.specs.declared.site.Rep.TheVariants.{Register}
use Rattle.stackmap.specs.declared.site.Site.{Site}
use Rattle.stackmap.proofs.Children.{child_below}

clobbered_is : (c : Constraint) → is_clobbered c ≡ true → c ≡ SomeRegisterWithClobber
clobbered_is WarmAny e = absurd (cc)
clobbered_is ColdAny e = absurd (cc)
clobbered_is LateColdAny e = absurd (cc)
clobbered_is SomeRegister e = absurd (cc)
clobbered_is SomeRegisterWithClobber e = refl
clobbered_is SomeEarlyRegister e = absurd (cc)
clobbered_is SomeLateRegister e = absurd (cc)
clobbered_is (Fixed reg) e = absurd (cc)
clobbered_is (LateFixed reg) e = absurd (cc)

-- a set has the registers in which some one of a group of the children stands
abbrev pub IsSetOf : Group → Stackmap → Site → ℕ → Type 0
IsSetOf group map site set = (reg : Reg) → (has set reg.0 ≡ true) ↔ StandsBelow group map site (child_count map site) reg

abbrev pub IsSetOfShared : Stackmap → Site → ℕ → Type 0
IsSetOfShared map site set = (reg : Reg) → (has set reg.0 ≡ true) ↔ TwiceBelow map site (child_count map site) reg

pub record Sets (map : Stackmap) (site : Site) (every late clobbered twice : ℕ) : Type 0 where
  pub fit : FitBelow map site (child_count map site)
  pub all : IsSetOf Every map site every
  pub read_late : IsSetOf Late map site late
  pub changed : IsSetOf Clobbered map site clobbered
  pub shared : IsSetOfShared map site twice

every_has : (map : Stackmap) (site : Site) (set k : ℕ) (c : Constraint) (reg : Reg) → IsSetOf Every map site set → IsChild map site k c (Register reg)
    → has set reg.0 ≡ true
every_has map site set k c reg known child =
    (known reg).1 (record { child = k; constraint = c; is = child; below = child_below map site k c _ child; counted = refl })

late_has : (map : Stackmap) (site : Site) (set k : ℕ) (c : Constraint) (reg : Reg) → IsSetOf Late map site set → IsChild map site k c (Register reg)
    → is_late c ≡ true → has set reg.0 ≡ true
late_has map site set k c reg known child late =
    (known reg).1 (record { child = k; constraint = c; is = child; below = child_below map site k c _ child; counted = late })

clobbered_has : (map : Stackmap) (site : Site) (set k : ℕ) (reg : Reg) → IsSetOf Clobbered map site set
    → IsChild map site k SomeRegisterWithClobber (Register reg) → has set reg.0 ≡ true
clobbered_has map site set k reg known child =
    (known reg).1 (record { child = k; constraint = SomeRegisterWithClobber; is = child; below = child_below map site k _ _ child; counted = refl })

has_clobbered : (map : Stackmap) (site : Site) (set : ℕ) (reg : Reg) → IsSetOf Clobbered map site set → has set reg.0 ≡ true → HasClobbered map site reg
has_clobbered map site set reg known e =
    let s = (known reg).0 e in
    record { child = s.child; is = subst (λ (c : Constraint). IsChild map site s.child c (Register reg)) (clobbered_is s.constraint s.counted) s.is }

shared_has : (map : Stackmap) (site : Site) (set j k : ℕ) (c d : Constraint) (reg : Reg) → IsSetOfShared map site set → (j ≡ k → ⊥)
    → IsChild map site j c (Register reg) → IsChild map site k d (Register reg) → has set reg.0 ≡ true
shared_has map site set j k c d reg known differ at_j at_k =
    elim (cases_lt j k) [
      | inl less ↦ (known reg).1 (record {
        first = j;
        second = k;
        first_constraint = c;
        second_constraint = d;
        first_is = at_j;
        second_is = at_k;
        ordered = less;
        below = child_below map site k d _ at_k;
      })
      | inr more ↦ (known reg).1 (record {
        first = k;
        second = j;
        first_constraint = d;
        second_constraint = c;
        first_is = at_k;
        second_is = at_j;
        ordered = omega arith;
        below = child_below map site j c _ at_j;
      })
    ]

pub keeps_from_sets : (patchpoint : Bool) (map : Stackmap) (site : Site) (every late clobbered twice : ℕ) → Sets map site every late clobbered twice
    → SetsKeep patchpoint map site every late clobbered twice → Keeps patchpoint map site
keeps_from_sets patchpoint map site every late clobbered twice sets keep = record {
  kinds = λ k c where_ child. (sets.fit k c where_ (child_below map site k c where_ child) child).0;
  named = λ k c where_ child. (sets.fit k c where_ (child_below map site k c where_ child) child).1;
  alone = λ k reg child j c differ other.
      let here = clobbered_has map site clobbered k reg sets.changed child in
      let two = shared_has map site twice j k c SomeRegisterWithClobber reg sets.shared differ other child in
      let none = keep.alone reg.0 here in cc;
  early = λ k c reg child. keep.outside_early reg.0 (every_has map site every k c reg sets.all child);
  late = λ k c reg child is_late.
      let here = late_has map site late k c reg sets.read_late child is_late in
      let outside = or_parts _ _ (keep.outside_late reg.0 here) in (
        outside.0,
        λ clobbers. (let there = clobbered_has map site clobbered clobbers.child reg sets.changed clobbers.is in let no = outside.1 in cc),
        IfSome_then site.result {P = (λ (r : Width × Reg). ResultKeeps map every late r.1)} {Q = (λ (r : Width × Reg). r.1 ≢ reg)} keep.result
            (λ r result e.
            (let no : has late r.1.0 ≡ false = result.apart in
            let same : has late r.1.0 ≡ has late reg.0 = ap (λ (q : Reg). has late q.0) e in cc)),
      );
  result = IfSome_then site.result {P = (λ (r : Width × Reg). ResultKeeps map every late r.1)} {Q = (λ (r : Width × Reg). (r.1.0 ≤ 30) × (has map.late r.1.0 ≡ false))} keep.result
      (λ r result. (result.named, result.outside));
  early_result = λ is_early. IfSome_then site.result {P = (λ (r : Width × Reg). ResultKeeps map every late r.1)} {Q = (λ (r : Width × Reg). (has map.early r.1.0 ≡ false) × ((k : ℕ) (c : Constraint) → ¬ (IsChild map site k c (Register r.1))))} keep.result
      (λ r result. (
        (result.kind.apart is_early).0,
        λ k c child. (let no = (result.kind.apart is_early).1 in let there = every_has map site every k c r.1 sets.all child in cc),
      ));
  fixed_result = λ reg e. IfSome_then site.result {P = (λ (r : Width × Reg). ResultKeeps map every late r.1)} {Q = (λ (r : Width × Reg). r.1 ≡ reg)} keep.result
      (λ r result. result.kind.fixed reg e);
  clobbers = λ p reg. (
    (λ listed. elim (or_cases _ _ (sym (keep.clobbers.some p reg.0) ∙ listed)) [
      | inl early_or_late ↦ elim (or_cases _ _ early_or_late) [ inl is_early ↦ inl is_early | inr is_late ↦ inr (inl is_late) ]
      | inr changed ↦ inr (inr (has_clobbered map site clobbered reg sets.changed changed))
    ]),
    (λ any. keep.clobbers.some p reg.0 ∙ elim any [
      | inl is_early ↦ or_left _ _ (or_left _ _ is_early)
      | inr rest ↦ elim rest [
        | inl is_late ↦ or_left _ _ (or_right _ _ is_late)
        | inr changed ↦ or_right (has map.early reg.0 || has map.late reg.0) _ (clobbered_has map site clobbered changed.child reg sets.changed changed.is)
      ]
    ]),
  );
  no_clobbers = keep.clobbers.none;
}

alone_from : (patchpoint : Bool) (map : Stackmap) (site : Site) (every late clobbered twice : ℕ) → Sets map site every late clobbered twice
    → Keeps patchpoint map site → (reg : Reg) → has clobbered reg.0 ≡ true → has twice reg.0 ≡ true → ⊥
alone_from patchpoint map site every late clobbered twice sets keeps reg one two =
    let here = has_clobbered map site clobbered reg sets.changed one in
    let both = (sets.shared reg).0 two in
    elim (cases_eq both.first here.child) [
      | inl e ↦ keeps.alone here.child reg here.is both.second both.second_constraint (let h = both.ordered in omega (arith, h, e)) both.second_is
      | inr differ ↦ keeps.alone here.child reg here.is both.first both.first_constraint differ both.first_is
    ]

result_from : (patchpoint : Bool) (map : Stackmap) (site : Site) (every late clobbered twice : ℕ) → Sets map site every late clobbered twice
    → Keeps patchpoint map site → (o : Option (Width × Reg)) → site.result ≡ o → IfSome o (λ result. ResultKeeps map every late result.1)
result_from patchpoint map site every late clobbered twice sets keeps None e = tt
result_from patchpoint map site every late clobbered twice sets keeps (Some r) e =
    let at = λ (P : Width × Reg → Type 0) (h : IfSome site.result P). subst (λ (o : Option (Width × Reg)). IfSome o P) e h in
    let bounds = at (λ r. (r.1.0 ≤ 30) × (has map.late r.1.0 ≡ false)) keeps.result in
    record {
      named = bounds.0;
      outside = bounds.1;
      apart = false_from_ne_true _ (λ hit.
          let s = (sets.read_late r.1).0 hit in
          let differ = (keeps.late s.child s.constraint r.1 s.is s.counted).2 in
          at (λ q. q.1 ≢ r.1) differ refl);
      kind = record {
        apart = λ is_early.
            let both = at (λ q. (has map.early q.1.0 ≡ false) × ((k : ℕ) (c : Constraint) → ¬ (IsChild map site k c (Register q.1))))
            (keeps.early_result is_early) in
            (both.0, false_from_ne_true _ (λ hit. let s = (sets.all r.1).0 hit in both.1 s.child s.constraint s.is));
        fixed = λ reg fixed. at (λ q. q.1 ≡ reg) (keeps.fixed_result reg fixed);
      };
    }

pub sets_from_keeps : (patchpoint : Bool) (map : Stackmap) (site : Site) (every late clobbered twice : ℕ) → Sets map site every late clobbered twice
    → Keeps patchpoint map site → SetsKeep patchpoint map site every late clobbered twice
sets_from_keeps patchpoint map site every late clobbered twice sets keeps = record {
  alone = λ r one. false_from_ne_true _ (alone_from patchpoint map site every late clobbered twice sets keeps (make r) one);
  outside_early = λ r hit. (let s = (sets.all (make r)).0 hit in keeps.early s.child s.constraint (make r) s.is);
  outside_late = λ r hit.
      let s = (sets.read_late (make r)).0 hit in
      let apart = keeps.late s.child s.constraint (make r) s.is s.counted in
      or_from _ _ apart.0 (false_from_ne_true _ (λ changed. apart.1 (has_clobbered map site clobbered (make r) sets.changed changed)));
  result = result_from patchpoint map site every late clobbered twice sets keeps site.result refl;
  clobbers = record {
    some = λ p r. same_tests _ _
        (λ listed. elim ((keeps.clobbers p (make r)).0 listed) [
          | inl is_early ↦ or_left _ _ (or_left _ _ is_early)
          | inr rest ↦ elim rest [
            | inl is_late ↦ or_left _ _ (or_right (has map.early r) _ is_late)
            | inr changed ↦ or_right (has map.early r || has map.late r) _ (clobbered_has map site clobbered changed.child (make r) sets.changed changed.is)
          ]
        ])
        (λ any. (keeps.clobbers p (make r)).1 (elim (or_cases _ _ any) [
          | inl early_or_late ↦ elim (or_cases _ _ early_or_late) [ inl is_early ↦ inl is_early | inr is_late ↦ inr (inl is_late) ]
          | inr changed ↦ inr (inr (has_clobbered map site clobbered (make r) sets.changed changed))
        ]));
    none = keeps.no_clobbers;
  };
}
  where
    make : ℕ → Reg
    make r = record { 0 = r }
