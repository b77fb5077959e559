use Rattle.std.proofs.Common.{◌≡◌, ℕ, ◌+◌, ◌≤◌, length}
use Rattle.air_colour.specs.Interference.{Graph, IsInterference, one}
use Rattle.air_colour.specs.Progress.{class_in, IsState, IsKept, moves_of, IsJoinedSoFar, left_count}
use Rattle.air_colour.proofs.moves.join_waiting.Given as goal

abbrev pub invariant-loop-going : goal.invariant-loop-going
invariant-loop-going l = record {
  waiting : length l.waiting.listed.items ≡ length l.moves;
  state : IsState l.edges l.left l.fixed l.class;
  no_more : left_count l.left ≤ left_count l.initial.left;
  joined : (g : Graph) → (first : ℕ → ℕ) → IsInterference g → IsKept g l.initial.edges l.initial.left l.fixed l.initial.class
      → IsJoinedSoFar l.k g (moves_of l.moves) first l.initial.joins.items (class_in l.initial.class)
      → IsKept g l.edges l.left l.fixed l.class × IsJoinedSoFar l.k g (moves_of l.moves) first l.joins.items (class_in l.class);
}

abbrev pub decreases-loop-going : goal.decreases-loop-going
decreases-loop-going l = left_count l.left + one l.going
