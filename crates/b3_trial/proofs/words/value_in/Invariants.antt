use Rattle.std.proofs.Common.{◌≡◌, ◌<◌, ◌^◌, length}
use Rattle.b3_trial.specs.Lines.{value_on}
use Rattle.b3_trial.proofs.words.value_in.Given as goal

abbrev pub invariant-loop-first : goal.invariant-loop-first
invariant-loop-first l = (value_on l.base l.value l.text ≡ value_on l.base 0 l.digits) × (l.value < 2 ^ 64)

abbrev pub decreases-loop-first : goal.decreases-loop-first
decreases-loop-first l = length l.text
