use Rattle.std.proofs.Common.{length}
use Rattle.a64_emit.proofs.switched.+push_search.Given as goal

abbrev pub decreases-push_search : goal.decreases-push_search
decreases-push_search l = length l.cases.now
