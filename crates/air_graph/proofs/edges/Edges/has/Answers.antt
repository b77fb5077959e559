use Rattle.std.proofs.Common.{arith, ap}
use Rattle.air_graph.proofs.Triangle.{within}
use Rattle.air_graph.proofs.edges.Edges.has.Goals as goal

pub has-requires : goal.has-requires
has-requires c =
    let same = ap (λ e. e.names) c.self.view_is in
    let lt = within c.args.i c.args.j c.self.inside.names (omega arith) (omega arith) in omega (arith, lt, c.self.invariant.bits)

pub has-requires-then-j-i : goal.has-requires-then-j-i
has-requires-then-j-i c =
    let same = ap (λ e. e.names) c.self.view_is in
    let lt = within c.args.j c.args.i c.self.inside.names (omega arith) (omega arith) in omega (arith, lt, c.self.invariant.bits)
