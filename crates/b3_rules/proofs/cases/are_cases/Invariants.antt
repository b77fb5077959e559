use Rattle.std.proofs.Common.{All, take}
use Rattle.b3_rules.specs.Rules.{IsCaseOf}
use Rattle.b3_rules.proofs.cases.are_cases.Given as goal

abbrev pub invariant-loop-word : goal.invariant-loop-word
invariant-loop-word l = All (IsCaseOf l.ty) (take l.word-index l.words)
