use Rattle.std.proofs.Common.{length}
use Rattle.a64_emit.proofs.switched.+tree_labels.Given as goal

abbrev pub decreases-tree_labels : goal.decreases-tree_labels
decreases-tree_labels l = length l.cases.now
