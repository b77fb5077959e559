use Rattle.std.proofs.Common.{◌≡◌, ℕ, ◌<◌, List, [], get_or, arith, sym, ap, subst}
use Rattle.std.specs.Prelude.{Contains}
use Rattle.std.proofs.lemmas.Grind.{common_steps}
use Rattle.air_graph.specs.Edges.{EdgeSet, IsListOf, has_edge}
use Rattle.air_graph.proofs.edges.Edges.near.Goals as goal

pub returns-clause-is : goal.returns-clause-is
returns-clause-is c =
    let e : c.as_slice.result.now ≡ get_or c.self.inside.near.items c.args.i [] = grind (arith, common_steps) in
    let lt : c.args.i < c.self.inside.names = let n = ap (λ (s : EdgeSet). s.names) c.self.view_is in omega (arith, n) in
    subst (λ (s : EdgeSet). IsListOf (has_edge s c.args.i) c.as_slice.result.now) c.self.view_is
    (subst (λ (l : List ℕ). IsListOf (has_edge (record { names = c.self.inside.names; pairs = c.self.inside.pairs.members }) c.args.i) l) (sym e)
    (c.self.invariant.beside.lists c.args.i lt))

pub returns-clause-below : goal.returns-clause-below
returns-clause-below c x i =
    let e : c.as_slice.result.now ≡ get_or c.self.inside.near.items c.args.i [] = grind (arith, common_steps) in
    let n = ap (λ (s : EdgeSet). s.names) c.self.view_is in
    let lt : c.args.i < c.self.inside.names = omega (arith, n) in
    let below = c.self.invariant.beside.below c.args.i x lt (subst (λ (l : List ℕ). Contains l x) e i) in
    omega (arith, below, n)
