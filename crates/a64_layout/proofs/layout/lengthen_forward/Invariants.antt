use Rattle.std.proofs.Common.{◌-◌, length}
use Rattle.a64_layout.proofs.Forward.{IsPassForward}
use Rattle.a64_layout.proofs.layout.lengthen_forward.Given as goal

abbrev pub invariant-loop-done : goal.invariant-loop-done
invariant-loop-done l = IsPassForward l.code l.initial.long l.long (length l.code - l.done) l.rest l.places l.changed
