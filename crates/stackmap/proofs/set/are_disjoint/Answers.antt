use Rattle.std.proofs.Common.{eq-eqb, eqb-true}
use Rattle.stackmap.proofs.Sets.{and_from_disjoint, disjoint_from_and}
use Rattle.stackmap.proofs.set.are_disjoint.Goals as goal

pub returns : goal.returns
returns c = (
  λ none. disjoint_from_and c.args.a c.args.b (eqb-true _ _ none),
  λ apart. eq-eqb _ _ (and_from_disjoint c.args.a c.args.b apart),
)
