use Rattle.std.proofs.Common.{◌≡◌, ◌+◌, inl, inr, arith, ap}
use Rattle.air_graph.specs.Edges.{EdgeSet}
use Rattle.air_graph.proofs.Beside.{blank}
use Rattle.air_graph.proofs.interference.Interference.new.Goals as goal

pub returns-clause-edges : goal.returns-clause-edges
returns-clause-edges c i j li lj =
    let n : c.in_ok-edges.edges.names ≡ c.args.tmps + 25 = ap (λ (s : EdgeSet). s.names) c.in_ok-edges.ensures in
    let both = c.in_ok-add_registers.ensures.edges i j (omega (arith, n, li)) (omega (arith, n, lj)) in (
      λ t. elim (both.0 t) [
        | inl u ↦ absurd (blank c.in_ok-edges.edges (c.args.tmps + 25) c.in_ok-edges.ensures i j u)
        | inr q ↦ q
      ],
      λ q. both.1 (inr q),
    )
