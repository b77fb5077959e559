use Rattle.std.proofs.Common.{ℕ, List, subst, ap}
use Rattle.std.specs.Prelude.{Contains}
use Rattle.air_colour.proofs.waiting.Waiting.take.Goals as goal

pub returns-clause-below : goal.returns-clause-below
returns-clause-below c j i =
    c.args.self.now.below j (subst (λ (l : List ℕ). Contains l j) (ap (λ v. v.items) c.replace.ensures.value) i)
