use Rattle.std.proofs.Common.{◌≡◌, None, replicate}
use Rattle.air_ir.proofs.assignment.Assignment.new.Given as goal

abbrev pub invariant-loop : goal.invariant-loop
invariant-loop l = (l.homes ≡ replicate l.counter None)
