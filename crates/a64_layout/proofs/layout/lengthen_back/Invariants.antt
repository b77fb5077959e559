use Rattle.a64_layout.proofs.Back.{IsPassBack}
use Rattle.a64_layout.proofs.layout.lengthen_back.Given as goal

abbrev pub invariant-loop-at : goal.invariant-loop-at
invariant-loop-at l = IsPassBack l.code l.initial.long l.long l.at l.here l.places
