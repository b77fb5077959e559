use Rattle.tests_a64.proofs.Checking.{AreThereBefore, mark_at}
use Rattle.tests_a64.proofs.labelled.marks_are_there.Given as goal

abbrev pub invariant-loop-mark : goal.invariant-loop-mark
invariant-loop-mark l = AreThereBefore l.code mark_at l.marks l.mark
