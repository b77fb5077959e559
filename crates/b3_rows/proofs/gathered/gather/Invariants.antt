use Rattle.std.proofs.Common.{◌≡◌, length}
use Rattle.b3_items.specs.Items.{items_of}
use Rattle.b3_rows.specs.Gathering.{gather, nothing, items_left}
use Rattle.b3_rows.proofs.gathered.gather.Given as goal

abbrev pub invariant-loop-left : goal.invariant-loop-left
invariant-loop-left l = gather l.carries l.gathered (items_left l.left) ≡ gather l.carries nothing (items_of l.text)

abbrev pub decreases-loop-left : goal.decreases-loop-left
decreases-loop-left l = length (items_left l.left)
