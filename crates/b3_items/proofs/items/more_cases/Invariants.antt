use Rattle.std.proofs.Common.{◌≡◌, length}
use Rattle.b3_lines.specs.Tokens.{tokens}
use Rattle.b3_items.specs.Items.{more_cases, onto_front}
use Rattle.b3_items.proofs.items.more_cases.Given as goal

abbrev pub invariant-loop-mark : goal.invariant-loop-mark
invariant-loop-mark l = onto_front l.words (more_cases (tokens l.left)) ≡ onto_front l.fn.words (more_cases (tokens l.text))

abbrev pub decreases-loop-mark : goal.decreases-loop-mark
decreases-loop-mark l = length (tokens l.left)
