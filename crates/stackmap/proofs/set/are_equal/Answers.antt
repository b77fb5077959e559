use Rattle.std.proofs.Common.{ℕ, ap, eq-eqb, eqb-true}
use Rattle.stackmap.specs.Registers.{has}
use Rattle.stackmap.proofs.Sets.{same_from_has}
use Rattle.stackmap.proofs.set.are_equal.Goals as goal

pub returns : goal.returns
returns c = (
  λ same r. ap (λ (n : ℕ). has n r) (eqb-true c.args.a c.args.b same),
  λ same. eq-eqb _ _ (same_from_has c.args.a c.args.b same),
)
