use Rattle.std.proofs.Common.{◌≡◌, length}
use Rattle.std.specs.FinMap as map
use Rattle.b3_trial.specs.Trials.{with_pieces}
use Rattle.b3_trial.proofs.so_far.put_pieces.Given as goal

abbrev pub invariant-loop-piece : goal.invariant-loop-piece
invariant-loop-piece l = with_pieces (map.get l.memory) l.left ≡ with_pieces (map.get l.fn.memory) l.pieces

abbrev pub decreases-loop-piece : goal.decreases-loop-piece
decreases-loop-piece l = length l.left
