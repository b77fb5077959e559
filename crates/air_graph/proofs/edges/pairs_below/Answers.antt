use Rattle.std.proofs.Common.{arith, ap, ◌∙◌, ◌*◌, ◌/◌}
use Rattle.air_graph.proofs.Triangle.{few_pairs, half}
use Rattle.air_graph.proofs.edges.pairs_below.Goals as goal

pub returns-clause-is : goal.returns-clause-is
returns-clause-is c = ap (λ k. c.args.n * k / 2) c.saturating_sub.ensures ∙ half c.args.n

pub returns-clause-few : goal.returns-clause-few
returns-clause-few c =
    let few = few_pairs c.args.n c.requires in
    let is = ap (λ k. c.args.n * k / 2) c.saturating_sub.ensures ∙ half c.args.n in
    omega (arith, few, is)
