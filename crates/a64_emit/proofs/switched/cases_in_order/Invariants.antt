use Rattle.std.proofs.Common.{◌≡◌, take}
use Rattle.std.specs.Prelude.{map}
use Rattle.a64_emit.proofs.InOrder.{listed}
use Rattle.a64_emit.proofs.switched.cases_in_order.Given as goal

-- the first cases are listed
abbrev pub invariant-loop-k : goal.invariant-loop-k
invariant-loop-k l = l.ordered.items ≡ map (listed l.width l.cases l.targets) (take l.k l.cases)
