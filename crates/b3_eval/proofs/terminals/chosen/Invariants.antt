use Rattle.std.proofs.Common.{◌≡◌, drop}
use Rattle.b3_meaning.specs.Run.{chosen}
use Rattle.b3_eval.proofs.terminals.chosen.Given as goal

abbrev pub invariant-loop-at : goal.invariant-loop-at
invariant-loop-at l = chosen l.width l.word l.cases l.targets ≡ chosen l.width l.word (drop l.at l.cases) (drop l.at l.targets)
