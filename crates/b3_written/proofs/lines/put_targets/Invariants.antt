use Rattle.std.proofs.Common.{◌≡◌, ◌++◌, length}
use Rattle.b3_rows.specs.Written.{joined, target_texts}
use Rattle.b3_written.specs.Listed.{listed}
use Rattle.b3_written.proofs.lines.put_targets.Given as goal

abbrev pub invariant-loop-number : goal.invariant-loop-number
invariant-loop-number l = l.out ++ listed l.some (target_texts l.left) ≡ l.fn.out ++ joined (target_texts l.targets)

abbrev pub decreases-loop-number : goal.decreases-loop-number
decreases-loop-number l = length l.left
