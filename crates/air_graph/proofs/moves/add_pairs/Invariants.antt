use Rattle.std.proofs.Common.{◌≡◌, ◌++◌, ◌*◌, drop}
use Rattle.air_graph.specs.Moves.{pairs_of}
use Rattle.air_graph.proofs.moves.add_pairs.Given as goal

abbrev pub invariant-loop-k : goal.invariant-loop-k
invariant-loop-k l = l.moves ++ pairs_of (drop (2 * l.k) l.operands) ≡ l.initial.moves ++ pairs_of l.operands
