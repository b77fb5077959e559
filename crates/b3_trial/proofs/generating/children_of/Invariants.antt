use Rattle.std.proofs.Common.{◌≡◌, ◌++◌, length}
use Rattle.b3_trial.proofs.generating.children_of.Given as goal

abbrev pub invariant-loop-id : goal.invariant-loop-id
invariant-loop-id l = l.children ++ l.left ≡ l.ids

abbrev pub decreases-loop-id : goal.decreases-loop-id
decreases-loop-id l = length l.left
