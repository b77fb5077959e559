use Rattle.std.proofs.Common.{◌≡◌, ℕ, ◌⊎◌, ◌↔◌, true}
use Rattle.bit_rows.specs.BitRows.{row_of}
use Rattle.flow_live.specs.Graph.{HasTouchBelow, IsDefOf}
use Rattle.flow_live.specs.Solving.{has, HasRoom}
use Rattle.flow_live.proofs.gather.gather_defs.Given as goal

abbrev pub invariant-loop-k : goal.invariant-loop-k
invariant-loop-k g l = record {
  room : HasRoom (g.F.Flow.shape l.flow) l.rows;
  others : (row : ℕ) → (row ≡ l.defined → ⊥) → row_of l.rows row ≡ row_of l.initial.rows row;
  defined : (name : ℕ) → (has l.rows l.defined name ≡ true) ↔ ((has l.initial.rows l.defined name ≡ true) ⊎ HasTouchBelow (g.F.Flow.shape l.flow) (λ t. IsDefOf t name) l.block l.place l.k);
}
