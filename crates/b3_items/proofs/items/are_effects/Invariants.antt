use Rattle.std.proofs.Common.{◌≡◌, length}
use Rattle.b3_lines.specs.Tokens.{tokens}
use Rattle.b3_items.specs.Items.{are_effects}
use Rattle.b3_items.proofs.items.are_effects.Given as goal

abbrev pub invariant-loop-word : goal.invariant-loop-word
invariant-loop-word l = are_effects (tokens l.text) ≡ are_effects (tokens l.item)

abbrev pub decreases-loop-word : goal.decreases-loop-word
decreases-loop-word l = length (tokens l.text)
