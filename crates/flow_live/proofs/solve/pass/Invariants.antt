use Rattle.std.proofs.Common.{◌≡◌, ℕ, ◌-◌, ◌<◌, ◌≤◌, ◌⊎◌, length, false}
use Rattle.std.specs.Prelude.{slice_index_or}
use Rattle.flow_live.specs.Solving.{IsSolving, IsKeptUp, Advances}
use Rattle.flow_live.proofs.solve.pass.Given as goal

abbrev pub invariant-loop-i : goal.invariant-loop-i
invariant-loop-i g l = record {
  solving : IsSolving (g.F.Flow.shape l.flow) l.rows;
  long : length l.grew ≡ (g.F.Flow.shape l.flow).blocks;
  kept_up : IsKeptUp (g.F.Flow.shape l.flow) l.rows l.grew (λ block. (l.all ≡ false) ⊎ (l.blocks - l.i ≤ block)) (l.blocks - l.i);
  none : l.any ≡ false → (next : ℕ) → l.blocks - l.i ≤ next → next < l.blocks → slice_index_or l.grew next false ≡ false;
  advances : Advances (g.F.Flow.shape l.flow) l.initial.rows l.rows l.any;
}
