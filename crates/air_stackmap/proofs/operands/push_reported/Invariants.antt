use Rattle.std.proofs.Common.{◌≡◌, ◌++◌, drop}
use Rattle.air_stackmap.specs.SiteCode.{reports_from}
use Rattle.air_stackmap.proofs.operands.push_reported.Given as goal

abbrev pub invariant-loop-at : goal.invariant-loop-at
invariant-loop-at l =
    l.operands ++ reports_from l.v l.at (drop l.at l.map.constraints) (drop l.at l.children)
    ≡ l.initial.operands ++ reports_from l.v 0 l.map.constraints l.children
