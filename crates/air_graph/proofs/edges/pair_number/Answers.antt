use Rattle.std.proofs.Common.{arith}
use Rattle.air_graph.proofs.edges.pair_number.Goals as goal

pub overflow_add-result : goal.overflow_add-result
overflow_add-result c = record { fits = omega (arith, c.pairs_below.ensures.few) }
