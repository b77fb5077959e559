use Rattle.std.proofs.Common.{◌≡◌, ◌++◌, length}
use Rattle.b3_trial.specs.Shown.{words_text}
use Rattle.b3_trial.proofs.numbers.put_words.Given as goal

abbrev pub invariant-loop-word : goal.invariant-loop-word
invariant-loop-word l = l.out ++ words_text l.left ≡ l.fn.out ++ words_text l.words

abbrev pub decreases-loop-word : goal.decreases-loop-word
decreases-loop-word l = length l.left
