use Rattle.std.proofs.Common.{◌≡◌}
use Rattle.air_fold.specs.Tallied.{none}
use Rattle.air_fold.proofs.uses.no_uses.Given as goal

abbrev pub invariant-loop : goal.invariant-loop
invariant-loop l = l.list ≡ none l.counter
