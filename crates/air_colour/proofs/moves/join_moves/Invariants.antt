use Rattle.std.proofs.Common.{◌≡◌, ◌+◌, [], false, length}
use Rattle.air_colour.specs.Interference.{Graph, IsInterference, one}
use Rattle.air_colour.specs.Classes.{JoinsFrom}
use Rattle.air_colour.specs.Progress.{class_in, IsState, IsKept, moves_of, IsJoinedSoFar, left_count}
use Rattle.air_colour.proofs.moves.join_moves.Given as goal

abbrev pub invariant-loop-going : goal.invariant-loop-going
invariant-loop-going l = record {
  waiting : length l.waiting.listed.items ≡ length l.moves;
  state : IsState l.edges l.left l.fixed l.class;
  joined : (g : Graph) → IsInterference g → IsKept g l.initial.edges l.initial.left l.fixed l.initial.class
      → IsKept g l.edges l.left l.fixed l.class × IsJoinedSoFar l.k g (moves_of l.moves) (class_in l.initial.class) l.joins.items (class_in l.class)
      × (l.going ≡ false → JoinsFrom l.k g (moves_of l.moves) (class_in l.class) []);
}

abbrev pub decreases-loop-going : goal.decreases-loop-going
decreases-loop-going l = left_count l.left + one l.going
