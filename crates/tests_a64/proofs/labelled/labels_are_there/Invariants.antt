use Rattle.tests_a64.proofs.Checking.{AreThereBefore, label_at}
use Rattle.tests_a64.proofs.labelled.labels_are_there.Given as goal

abbrev pub invariant-loop-label : goal.invariant-loop-label
invariant-loop-label l = AreThereBefore l.code label_at l.labels l.label
