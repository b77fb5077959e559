-- The registers that are fixed by the first of some constraints, one constraint more at a time.
use Rattle.std.proofs.Common.{◌≡◌, ◌∙◌, ◌||◌, ℕ, ◌+◌, ◌<◌, Bool, true, false, List, [], ◌∷◌, ◌++◌, Option, Some, None, length, take, get_or, AllPairs, refl, sym, ap, subst, arith, eq-eqb, eqb-true}
use Rattle.std.specs.List.{list_any}
use Rattle.std.proofs.lemmas.List.{get_or-take, get_or_default, length-take-le, take_more}
use Rattle.std.proofs.lemmas.List.Folds.{Any-from_list_any, list_any_at, list_any-append}
use Rattle.std.proofs.lemmas.List.Quantifiers.{all_pairs_push}
use Rattle.std.proofs.lemmas.Nat.Bits.{bit_at-zero}
use Rattle.std.proofs.lemmas.Bool.{false_from_ne_true}
use mathlib.Core.Bool.{or-false}
use Rattle.b3_ir.specs.declared.value.Constraint.{Constraint}
use Rattle.b3_ir.specs.declared.value.Reg.{Reg}
use Rattle.stackmap.specs.Registers.{fixed_by, fixes, has, is_register}
use Rattle.stackmap.specs.Rules.{FixApart}
use Rattle.stackmap.proofs.Children.{same_register}
use Rattle.stackmap.proofs.PlacedApart.{fixes_own}
use Rattle.b3_rules.specs.Sites.{FixesOutside}

-- a set has the registers that some constraints fix, and no two of them fix one
pub record AreFixedIn (set : ℕ) (cs : List Constraint) : Type 0 where
  pub apart : AllPairs FixApart cs
  pub known : (r : ℕ) → has set r ≡ list_any (fixes r) cs

pub no_pairs : {X : Type 0} (R : X → X → Type 0) → AllPairs R []
no_pairs R i j d less within = absurd (let h : j < 0 = within in omega (arith, h))

fixed_is : (c : Constraint) (reg : Reg) → fixes reg.0 c ≡ true → fixed_by c ≡ Some reg
fixed_is c reg e = from (fixed_by c) refl e
  where
    from : (o : Option Reg) → fixed_by c ≡ o → is_register reg.0 o ≡ true → fixed_by c ≡ Some reg
    from None is e = absurd (cc)
    from (Some other) is e = is ∙ ap Some (same_register other reg (eqb-true other.0 reg.0 e))

pub fixed_more : (set next : ℕ) (cs : List Constraint) (c : Constraint) → AreFixedIn set cs → FixesOutside set c
    → ((r : ℕ) → has next r ≡ (has set r || fixes r c)) → AreFixedIn next (cs ++ c ∷ [])
fixed_more set next cs c fixed outside adds = record {
  apart = all_pairs_push FixApart cs c fixed.apart (λ k d within reg first second.
      let hit : list_any (fixes reg.0) cs ≡ true = list_any_at (fixes reg.0) cs k d within (fixes_own _ reg first) in
      let no : has set reg.0 ≡ false = outside reg second in
      let same = fixed.known reg.0 in cc);
  known = λ r. adds r ∙ rw (fixed.known r) (sym (list_any-append (fixes r) cs (c ∷ []) ∙ ap (λ (b : Bool). list_any (fixes r) cs || b) (or-false (fixes r c))));
}

pub fixed_step : (set next : ℕ) (cs : List Constraint) (i : ℕ) (d : Constraint) → i < length cs → AreFixedIn set (take i cs) → FixesOutside set (get_or cs i d)
    → ((r : ℕ) → has next r ≡ (has set r || fixes r (get_or cs i d))) → AreFixedIn next (take (i + 1) cs)
fixed_step set next cs i d within fixed outside adds =
    subst (AreFixedIn next) (sym (take_more cs i d within)) (fixed_more set next (take i cs) (get_or cs i d) fixed outside adds)

-- where no two of all constraints fix one register, none that is fixed before is fixed again
pub outside_from_pairs : (set : ℕ) (cs : List Constraint) (i : ℕ) (d : Constraint) → i < length cs → AreFixedIn set (take i cs) → AllPairs FixApart cs
    → FixesOutside set (get_or cs i d)
outside_from_pairs set cs i d within fixed pairs reg e = false_from_ne_true (has set reg.0) (λ hit.
    let some = Any-from_list_any (fixes reg.0) (take i cs) (sym (fixed.known reg.0) ∙ hit) in
    let x = some.1 in
    let less : some.0 < i = (let h = some.2 in let len = length-take-le i cs (omega arith) in omega (arith, h, len)) in
    let there : get_or cs some.0 x ≡ x = sym (get_or-take i cs some.0 x less) ∙ some.3 in
    let apart : FixApart x (get_or cs i x) = subst (λ (y : Constraint). FixApart y (get_or cs i x)) there (pairs some.0 i x less within) in
    apart reg (fixed_is x reg some.4) (ap fixed_by (get_or_default cs i x d within) ∙ e))
