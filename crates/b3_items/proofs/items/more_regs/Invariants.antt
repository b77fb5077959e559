use Rattle.std.proofs.Common.{◌≡◌, ◌<◌, ◌^◌, length}
use Rattle.b3_lines.specs.Tokens.{tokens}
use Rattle.b3_items.specs.Items.{more_regs}
use Rattle.b3_items.proofs.items.more_regs.Given as goal

abbrev pub invariant-loop-mark : goal.invariant-loop-mark
invariant-loop-mark l = (more_regs l.set (tokens l.left) ≡ more_regs l.fn.first (tokens l.text)) × (l.set < 2 ^ 31)

abbrev pub decreases-loop-mark : goal.decreases-loop-mark
decreases-loop-mark l = length (tokens l.left)
