use Rattle.std.proofs.Common.{◌≡◌, length}
use Rattle.b3_lines.specs.Tokens.{tokens}
use Rattle.b3_items.specs.Items.{onto_front}
use Rattle.b3_rows.specs.Rows.{many_of}
use Rattle.b3_rows.proofs.rows.many_targets.Given as goal

abbrev pub invariant-loop-token : goal.invariant-loop-token
invariant-loop-token l = onto_front l.targets (many_of (tokens l.left)) ≡ many_of (tokens l.text)

abbrev pub decreases-loop-token : goal.decreases-loop-token
decreases-loop-token l = length (tokens l.left)
