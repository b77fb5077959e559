use Rattle.std.proofs.Common.{◌≡◌, ℕ, ◌<◌, inl, inr, true, Bool, List, [], ◌∷◌, ◌++◌, length, length-set, get_or, arith, ap, ◌∙◌, subst}
use Rattle.std.specs.Prelude.{Contains}
use Rattle.std.proofs.lemmas.List.Elements.{Contains-push_cases}
use Rattle.air_colour.proofs.waiting.list_all.Goals as goal
use Rattle.air_colour.proofs.waiting.list_all.Goals.{then-at-listed+then-not-listed-at+in_ok-push, else-at-listed}

pub returns-in_err-push-clause-below : goal.returns-in_err-push-clause-below
returns-in_err-push-clause-below c j i = c.loop-j.invariant.below j (subst (λ (l : List ℕ). Contains l j) c.in_err-push.ensures.items i)

pub loop-j-preserved : goal.loop-j-preserved
loop-j-preserved c =
    let x : ℕ = get_or c.args.moves.now c.loop-j.j-index 0 in
    let old : List ℕ = c.loop-j.list.items in
    elim c.if-at-listed.branch [
      | then-at-listed+then-not-listed-at+in_ok-push w ↦
          let e : c.if-at-listed.list.items ≡ old ++ x ∷ [] = ap (λ v. v.items) w.list-is ∙ w.in_ok-push.ensures.items in
          let lt : x < length c.args.listed.now = omega (arith, w.if-at-listed.true, c.loop-j.invariant.long) in
          record {
            long = ap (λ (l : List Bool). length l) w.listed-is ∙ length-set c.loop-j.listed x true ∙ c.loop-j.invariant.long;
            below = λ y i. elim (Contains-push_cases old x y (subst (λ (l : List ℕ). Contains l y) e i)) [
              | inl j ↦ c.loop-j.invariant.below y j
              | inr s ↦ subst (λ (z : ℕ). z < length c.args.listed.now) s lt
            ];
          }
      | else-at-listed w ↦ record {
        long = ap (λ (l : List Bool). length l) w.listed-is ∙ c.loop-j.invariant.long;
        below = λ y i. c.loop-j.invariant.below y (subst (λ (l : List ℕ). Contains l y) (ap (λ v. v.items) w.list-is) i);
      }
    ]
