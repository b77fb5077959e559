use Rattle.stackmap.specs.Standing.{FitBelow}
use Rattle.stackmap.proofs.obeying.places_fit.Given as goal

abbrev pub invariant-loop-k : goal.invariant-loop-k
invariant-loop-k l = FitBelow l.map l.site l.k
