use Rattle.std.proofs.Common.{ℕ, ◌<◌, get_or}
use Rattle.b3_base.specs.Observed.{answer_of}
use Rattle.b3_base.specs.Ranged.{IsRangedAnswer}
use Rattle.b3_base.specs.declared.answer.Answer.{Answer}
use Rattle.b3c_core.proofs.trying.ranged_answers.Given as goal

abbrev pub invariant-loop-answer : goal.invariant-loop-answer
invariant-loop-answer l = (k : ℕ) (d : Answer) → k < l.answer-index → IsRangedAnswer (answer_of (get_or l.answers k d))
