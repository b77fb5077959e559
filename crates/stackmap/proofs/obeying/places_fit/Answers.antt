use Rattle.std.proofs.Common.{◌≡◌, ◌∙◌, ℕ, ◌<◌, arith, refl, subst}
use Rattle.stackmap.specs.Standing.{FitBelow}
use Rattle.stackmap.proofs.Children.{child_at, fit_more}
use Rattle.stackmap.proofs.obeying.places_fit.Goals as goal

pub returns-then-not-fits : goal.returns-then-not-fits
returns-then-not-fits c = (
  λ no. absurd (cc),
  λ all. c.if-not-fits.ensures.1 (all c.loop-k.k c.get.result.now c.get-in-loop-k.result.now.rep
      (subst (λ (n : ℕ). c.loop-k.k < n) c.child_count-k-end.ensures c.loop-k-test.true)
      (child_at _ _ c.loop-k.k c.get.result.now c.get-in-loop-k.result.now c.get.ensures c.get-in-loop-k.ensures)),
)

pub loop-k-preserved : goal.loop-k-preserved
loop-k-preserved c =
    fit_more _ _ c.loop-k.k c.get.result.now c.get-in-loop-k.result.now c.get.ensures c.get-in-loop-k.ensures
    (c.if-not-fits.ensures.0 refl) c.loop-k.invariant

pub returns : goal.returns
returns c =
    let ends : c.loop-k.k ≡ c.child_count-k-end.result = omega arith in
    (λ _. subst (λ (n : ℕ). FitBelow c.args.map.now c.args.site.now n) (ends ∙ c.child_count-k-end.ensures) c.loop-k.invariant, λ _. refl)
