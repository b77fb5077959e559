use Rattle.bit_rows.proofs.Listed.{IsLeft}
use Rattle.bit_rows.proofs.listing.add_word.Given as goal

abbrev pub invariant-bits : goal.invariant-bits
invariant-bits l = IsLeft l.words l.at l.j l.left l.list

abbrev pub decreases-bits : goal.decreases-bits
decreases-bits l = l.left
