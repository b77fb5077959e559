use Rattle.std.proofs.Common.{◌≡◌, length}
use Rattle.b3_lines.specs.Tokens.{tokens}
use Rattle.b3_trial.specs.Lines.{onto, pieces_of}
use Rattle.b3_trial.proofs.line.read_pieces.Given as goal

abbrev pub invariant-loop-token : goal.invariant-loop-token
invariant-loop-token l = onto l.pieces (pieces_of (tokens l.left)) ≡ pieces_of (tokens l.text)

abbrev pub decreases-loop-token : goal.decreases-loop-token
decreases-loop-token l = length (tokens l.left)
