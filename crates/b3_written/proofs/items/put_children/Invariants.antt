use Rattle.std.proofs.Common.{◌≡◌, ◌++◌, length}
use Rattle.b3_rows.specs.Written.{child_texts}
use Rattle.b3_written.specs.Listed.{listed, some_with}
use Rattle.b3_written.proofs.items.put_children.Given as goal

abbrev pub invariant-loop-id : goal.invariant-loop-id
invariant-loop-id l = (l.out ++ listed l.some (child_texts l.left l.ids l.places)
    ≡ l.fn.out ++ listed l.before (child_texts l.skip l.children l.constraints)) × (some_with l.some (child_texts l.left l.ids l.places)
    ≡ some_with l.before (child_texts l.skip l.children l.constraints))

abbrev pub decreases-loop-id : goal.decreases-loop-id
decreases-loop-id l = length l.ids
