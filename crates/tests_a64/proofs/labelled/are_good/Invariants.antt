use Rattle.tests_a64.proofs.Checking.{AreGoodBefore}
use Rattle.tests_a64.proofs.labelled.are_good.Given as goal

abbrev pub invariant-loop-at : goal.invariant-loop-at
invariant-loop-at l = AreGoodBefore l.code l.labels l.marks l.at
