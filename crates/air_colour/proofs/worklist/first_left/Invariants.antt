use Rattle.air_colour.specs.Worklist.{IsPassed}
use Rattle.air_colour.proofs.worklist.first_left.Given as goal

abbrev pub invariant-loop-x : goal.invariant-loop-x
invariant-loop-x l = IsPassed l.left l.fixed l.x
