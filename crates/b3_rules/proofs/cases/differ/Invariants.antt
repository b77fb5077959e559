use Rattle.std.proofs.Common.{take}
use Rattle.b3_rules.proofs.WordsApart.{AreSeenIn}
use Rattle.b3_rules.proofs.cases.differ.Given as goal

abbrev pub invariant-loop-word : goal.invariant-loop-word
invariant-loop-word l = AreSeenIn l.width l.seen (take l.word-index l.words)
