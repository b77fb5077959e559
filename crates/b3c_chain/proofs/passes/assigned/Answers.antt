use Rattle.std.proofs.Common.{List, length, ◌^◌, ◌≤◌, arith, subst, sym}
use Rattle.air_graph.specs.declared.moves.Copied.{Copied}
use Rattle.a64_object.proofs.Colouring.{moves_few}
use Rattle.b3c_chain.proofs.passes.assigned.Goals as goal

pub colour-requires : goal.colour-requires
colour-requires c =
    subst (λ (moves : List Copied). length moves ≤ 2 ^ 32) (sym c.in_ok-graph.ensures.moves) (omega (arith, moves_few c.args.p.now, c.requires.light))
