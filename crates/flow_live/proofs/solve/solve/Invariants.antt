use Rattle.std.proofs.Common.{◌≡◌, length, false}
use Rattle.flow_live.specs.Solving.{has, IsSolving, IsKeptUp, absent_in}
use Rattle.flow_live.proofs.solve.solve.Given as goal

abbrev pub invariant-passes : goal.invariant-passes
invariant-passes g l = record {
  solving : IsSolving (g.F.Flow.shape l.flow) l.rows;
  long : length l.grew ≡ (g.F.Flow.shape l.flow).blocks;
  kept_up : l.all ≡ false → IsKeptUp (g.F.Flow.shape l.flow) l.rows l.grew (λ _. Unit {0}) l.blocks;
}

abbrev pub decreases-passes : goal.decreases-passes
decreases-passes g l = absent_in (has l.rows) (g.F.Flow.shape l.flow).blocks (g.F.Flow.shape l.flow).names
