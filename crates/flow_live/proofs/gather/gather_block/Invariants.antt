use Rattle.std.proofs.Common.{◌≡◌, ℕ, ◌+◌, ◌*◌}
use Rattle.bit_rows.specs.BitRows.{row_of}
use Rattle.flow_live.specs.Solving.{HasRoom, IsGatheredBelow}
use Rattle.flow_live.proofs.gather.gather_block.Given as goal

abbrev pub invariant-loop-place : goal.invariant-loop-place
invariant-loop-place g l = record {
  room : HasRoom (g.F.Flow.shape l.flow) l.rows;
  others : (row : ℕ) → (row ≡ l.block → ⊥) → (row ≡ 2 * l.blocks + l.block → ⊥) → row_of l.rows row ≡ row_of l.initial.rows row;
  gathered : IsGatheredBelow (g.F.Flow.shape l.flow) l.block l.place l.rows;
}
