use Rattle.flow_live.proofs.Least.{IsUntouched}
use Rattle.flow_live.proofs.LiveSets.live_before.Given as goal

abbrev pub invariant-loop-at : goal.invariant-loop-at
invariant-loop-at g l = IsUntouched (g.F.Flow.shape l.flow) l.name l.block l.place l.at
