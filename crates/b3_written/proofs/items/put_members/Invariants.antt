use Rattle.std.proofs.Common.{◌≡◌, ◌≤◌, ◌-◌, ◌++◌, map}
use Rattle.b3_rows.specs.Written.{joined, members_from, reg_text}
use Rattle.b3_written.specs.Listed.{listed}
use Rattle.b3_written.proofs.items.put_members.Given as goal

abbrev pub invariant-loop-r : goal.invariant-loop-r
invariant-loop-r l = (l.out ++ listed l.some (map reg_text (members_from l.set l.r (31 - l.r)))
    ≡ l.fn.out ++ joined (map reg_text (members_from l.set 0 31))) × (l.r ≤ 31)

abbrev pub decreases-loop-r : goal.decreases-loop-r
decreases-loop-r l = 31 - l.r
