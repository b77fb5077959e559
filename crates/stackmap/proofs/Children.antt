-- The first children of a site, one more at a time.
use Rattle.std.proofs.Common.{◌≡◌, ◌↔◌, ◌∙◌, ◌⊎◌, ◌||◌, ◌&&◌, ℕ, ◌+◌, ◌<◌, Bool, true, false, slice_get, Some, inl, inr, refl, sym, ap, subst, arith, eq-eqb, eqb-true}
use Rattle.std.proofs.lemmas.Bool.{cases_eq, or_cases, or_left, or_right, and_parts, and_from}
use Rattle.std.proofs.lemmas.Option.{slice_get_within}
use Rattle.b3_ir.specs.declared.value.Constraint.{Constraint}
use Rattle.b3_ir.specs.declared.value.Reg.{Reg}
use Rattle.b3_ir.specs.declared.value.Stackmap.{Stackmap}
use Rattle.stackmap.specs.Obeys.{HasKind, IsChild, IsNamed}
use Rattle.stackmap.specs.Registers.{has}
use Rattle.stackmap.specs.Standing.{child_count, counts, stands_at, FitBelow, StandsBelow, TwiceBelow}
use Rattle.stackmap.specs.declared.obeying.Group.{Group}
use Rattle.stackmap.specs.declared.obeying.Group.TheVariants.{Every}
use Rattle.stackmap.specs.declared.site.Place.{Place}
use Rattle.stackmap.specs.declared.site.Rep.{Rep}
use Rattle.stackmap.specs.declared.site.Rep.TheVariants.{Register, Slot, Constant}
use Rattle.stackmap.specs.declared.site.Site.{Site}

pub same_register : (a b : Reg) → a.0 ≡ b.0 → a ≡ b
same_register a b e = let make : ℕ → Reg = λ n. record { 0 = n } in ap make e

-- the child at a place is the one that stands there
pub child_at : (map : Stackmap) (site : Site) (k : ℕ) (c : Constraint) (place : Place) → slice_get map.constraints k ≡ Some c
    → slice_get site.reps k ≡ Some place → IsChild map site k c place.rep
child_at map site k c place asks reported = record { place = place; asks = asks; reported = reported; stands = refl }

pub child_asks : (map : Stackmap) (site : Site) (k : ℕ) (c d : Constraint) (where_ : Rep) → slice_get map.constraints k ≡ Some c
    → IsChild map site k d where_ → d ≡ c
child_asks map site k c d where_ asks child = let e = child.asks in cc

pub child_stands : (map : Stackmap) (site : Site) (k : ℕ) (d : Constraint) (place : Place) (where_ : Rep) → slice_get site.reps k ≡ Some place
    → IsChild map site k d where_ → where_ ≡ place.rep
child_stands map site k d place where_ reported child =
    let same : child.place ≡ place = (let e = child.reported in cc) in sym child.stands ∙ ap (λ (p : Place). p.rep) same

pub child_below : (map : Stackmap) (site : Site) (k : ℕ) (c : Constraint) (where_ : Rep) → IsChild map site k c where_ → k < child_count map site
child_below map site k c where_ child =
    let h1 = slice_get_within map.constraints k c child.asks in
    let h2 = slice_get_within site.reps k child.place child.reported in
    omega (arith, h1, h2)

-- ---- where the children fit

pub fit_more : (map : Stackmap) (site : Site) (i : ℕ) (c : Constraint) (place : Place) → slice_get map.constraints i ≡ Some c
    → slice_get site.reps i ≡ Some place → HasKind c place.rep × IsNamed place.rep → FitBelow map site i → FitBelow map site (i + 1)
fit_more map site i c place asks reported fits below k d where_ less child =
    elim (cases_eq k i) [
      | inl e ↦
          let here : IsChild map site i d where_ = subst (λ (j : ℕ). IsChild map site j d where_) e child in
          let same_d : c ≡ d = sym (child_asks map site i c d where_ asks here) in
          let same_where : place.rep ≡ where_ = sym (child_stands map site i d place where_ reported here) in
          subst (λ (x : Constraint). HasKind x where_ × IsNamed where_) same_d
          (subst (λ (w : Rep). HasKind c w × IsNamed w) same_where fits)
      | inr ne ↦ below k d where_ (omega arith) child
    ]

-- ---- the registers in which they stand

pub stands_there : (reg : Reg) (where_ : Rep) → stands_at reg.0 where_ ≡ true → where_ ≡ Register reg
stands_there reg (Register other) e = ap Register (same_register other reg (sym (eqb-true _ _ e)))
stands_there reg (Slot offset) e = absurd (cc)
stands_there reg (Constant word) e = absurd (cc)

pub there_stands : (reg : Reg) (where_ : Rep) → where_ ≡ Register reg → stands_at reg.0 where_ ≡ true
there_stands reg where_ e = rw e (eq-eqb reg.0 reg.0 refl)

pub stands_more : (group : Group) (map : Stackmap) (site : Site) (i : ℕ) (c : Constraint) (place : Place) (set next : ℕ)
    → slice_get map.constraints i ≡ Some c → slice_get site.reps i ≡ Some place
    → ((r : ℕ) → has next r ≡ (has set r || (counts group c && stands_at r place.rep)))
    → ((reg : Reg) → (has set reg.0 ≡ true) ↔ StandsBelow group map site i reg)
    → (reg : Reg) → (has next reg.0 ≡ true) ↔ StandsBelow group map site (i + 1) reg
stands_more group map site i c place set next asks reported adds known reg = (to, from)
  where
    to : has next reg.0 ≡ true → StandsBelow group map site (i + 1) reg
    to e = elim (or_cases _ _ (sym (adds reg.0) ∙ e)) [
      | inl old ↦ let s = (known reg).0 old in record {
        child = s.child;
        constraint = s.constraint;
        is = s.is;
        below = omega (arith, s.below);
        counted = s.counted;
      }
      | inr new ↦ let both = and_parts _ _ new in record {
        child = i;
        constraint = c;
        is = record { place = place; asks = asks; reported = reported; stands = stands_there reg place.rep both.1 };
        below = omega arith;
        counted = both.0;
      }
    ]

    from : StandsBelow group map site (i + 1) reg → has next reg.0 ≡ true
    from s = adds reg.0 ∙ elim (cases_eq s.child i) [
      | inl e ↦
          let here : IsChild map site i s.constraint (Register reg) = subst (λ (j : ℕ). IsChild map site j s.constraint (Register reg)) e s.is in
          let same : s.constraint ≡ c = child_asks map site i c s.constraint (Register reg) asks here in
          let counted : counts group c ≡ true = subst (λ (x : Constraint). counts group x ≡ true) same s.counted in
          or_right (has set reg.0) _ (and_from _ _ counted (there_stands reg place.rep (sym (child_stands map site i s.constraint place _ reported here))))
      | inr ne ↦ or_left _ _ ((known reg).1 (record {
        child = s.child;
        constraint = s.constraint;
        is = s.is;
        below = (let h = s.below in omega (arith, h));
        counted = s.counted;
      }))
    ]

pub twice_more : (map : Stackmap) (site : Site) (i : ℕ) (c : Constraint) (place : Place) (once twice next : ℕ) (stood : Bool)
    → slice_get map.constraints i ≡ Some c → slice_get site.reps i ≡ Some place
    → ((r : ℕ) → stands_at r place.rep ≡ true → stood ≡ has once r)
    → ((r : ℕ) → has next r ≡ (has twice r || (stood && stands_at r place.rep)))
    → ((reg : Reg) → (has once reg.0 ≡ true) ↔ StandsBelow Every map site i reg)
    → ((reg : Reg) → (has twice reg.0 ≡ true) ↔ TwiceBelow map site i reg)
    → (reg : Reg) → (has next reg.0 ≡ true) ↔ TwiceBelow map site (i + 1) reg
twice_more map site i c place once twice next stood asks reported stands adds known_once known reg = (to, from)
  where
    to : has next reg.0 ≡ true → TwiceBelow map site (i + 1) reg
    to e = elim (or_cases _ _ (sym (adds reg.0) ∙ e)) [
      | inl old ↦ let t = (known reg).0 old in record {
        first = t.first;
        second = t.second;
        first_constraint = t.first_constraint;
        second_constraint = t.second_constraint;
        first_is = t.first_is;
        second_is = t.second_is;
        ordered = t.ordered;
        below = (let h = t.below in omega (arith, h));
      }
      | inr new ↦
          let both = and_parts _ _ new in
          let s = (known_once reg).0 (sym (stands reg.0 both.1) ∙ both.0) in
          record {
            first = s.child;
            second = i;
            first_constraint = s.constraint;
            second_constraint = c;
            first_is = s.is;
            second_is = record { place = place; asks = asks; reported = reported; stands = stands_there reg place.rep both.1 };
            ordered = s.below;
            below = omega arith;
          }
    ]

    from : TwiceBelow map site (i + 1) reg → has next reg.0 ≡ true
    from t = adds reg.0 ∙ elim (cases_eq t.second i) [
      | inl e ↦
          let here : IsChild map site i t.second_constraint (Register reg) =
          subst (λ (j : ℕ). IsChild map site j t.second_constraint (Register reg)) e t.second_is in
          let at : stands_at reg.0 place.rep ≡ true =
          there_stands reg place.rep (sym (child_stands map site i t.second_constraint place _ reported here)) in
          let first_stands : has once reg.0 ≡ true = (known_once reg).1 (record {
            child = t.first;
            constraint = t.first_constraint;
            is = t.first_is;
            below = (let h = t.ordered in omega (arith, h));
            counted = refl;
          }) in
          or_right (has twice reg.0) _ (and_from _ _ (stands reg.0 at ∙ first_stands) at)
      | inr ne ↦ or_left _ _ ((known reg).1 (record {
        first = t.first;
        second = t.second;
        first_constraint = t.first_constraint;
        second_constraint = t.second_constraint;
        first_is = t.first_is;
        second_is = t.second_is;
        ordered = t.ordered;
        below = (let h = t.below in omega (arith, h));
      }))
    ]
