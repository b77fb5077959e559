use Rattle.std.proofs.Common.{◌≡◌, length}
use Rattle.tests_air.specs.Orderable.{may_go}
use Rattle.tests_air.proofs.shuffles.may_go.Given as goal

abbrev pub invariant-loop-first : goal.invariant-loop-first
invariant-loop-first l = may_go l.scratch l.moves ≡ may_go l.scratch l.rest

abbrev pub decreases-loop-first : goal.decreases-loop-first
decreases-loop-first l = length l.rest
