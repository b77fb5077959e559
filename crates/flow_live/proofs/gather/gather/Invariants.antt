use Rattle.std.proofs.Common.{◌≡◌, ℕ, ◌*◌, ◌<◌, ◌≤◌, false}
use Rattle.flow_live.specs.Solving.{has, HasRoom, IsGatheredBelow, IsBlank}
use Rattle.flow_live.proofs.gather.gather.Given as goal

abbrev pub invariant-loop-block : goal.invariant-loop-block
invariant-loop-block g l = record {
  room : HasRoom (g.F.Flow.shape l.flow) l.rows;
  gathered : (b : ℕ) → b < l.block → IsGatheredBelow (g.F.Flow.shape l.flow) b ((g.F.Flow.shape l.flow).places b) l.rows;
  blank : (b : ℕ) → l.block ≤ b → b < l.blocks → IsBlank (g.F.Flow.shape l.flow) b l.rows;
  outs : (row name : ℕ) → l.blocks ≤ row → row < 2 * l.blocks → has l.rows row name ≡ false;
  work : (row name : ℕ) → 3 * l.blocks ≤ row → has l.rows row name ≡ false;
}
