use Rattle.std.proofs.Common.{◌≡◌, ℕ, ◌<◌, ◌≤◌, true, false, length, take}
use Rattle.std.specs.Prelude.{Contains}
use Rattle.air_colour.specs.Interference.{Graph, IsInterference}
use Rattle.air_colour.specs.Classes.{MayJoinMove}
use Rattle.air_colour.specs.Progress.{class_in, IsState, IsKept, moves_of, IsJoinedSoFar, left_count}
use Rattle.air_colour.proofs.moves.join_pass.Given as goal

abbrev pub invariant-loop-j : goal.invariant-loop-j
invariant-loop-j l = record {
  waiting : length l.waiting.listed.items ≡ length l.moves;
  state : IsState l.edges l.left l.fixed l.class;
  fewer : l.any ≡ true → left_count l.left < left_count l.initial.left;
  no_more : left_count l.left ≤ left_count l.initial.left;
  joined : (g : Graph) → (first : ℕ → ℕ) → IsInterference g → IsKept g l.initial.edges l.initial.left l.fixed l.initial.class
      → IsJoinedSoFar l.k g (moves_of l.moves) first l.initial.joins.items (class_in l.initial.class)
      → IsKept g l.edges l.left l.fixed l.class × IsJoinedSoFar l.k g (moves_of l.moves) first l.joins.items (class_in l.class)
      × (l.any ≡ false → (i : ℕ) → Contains (take l.j-index l.tried) i → MayJoinMove l.k g (class_in l.class) ((moves_of l.moves).at i) → ⊥);
}
