use Rattle.std.proofs.Common.{◌≡◌, ℕ, ◌<◌, ◌⊎◌, true}
use Rattle.bit_rows.specs.BitRows.{row_of}
use Rattle.flow_live.specs.Graph.{IsSuccessor}
use Rattle.flow_live.specs.Solving.{has, HasRoom}
use Rattle.flow_live.proofs.solve.join_successors.Given as goal

abbrev pub invariant-loop-k : goal.invariant-loop-k
invariant-loop-k g l = record {
  room : HasRoom (g.F.Flow.shape l.flow) l.rows;
  others : (row : ℕ) → (row ≡ l.out → ⊥) → row_of l.rows row ≡ row_of l.initial.rows row;
  kept : (name : ℕ) → has l.initial.rows l.out name ≡ true → has l.rows l.out name ≡ true;
  joined : (j name : ℕ) → j < l.k → has l.initial.rows ((g.F.Flow.shape l.flow).successor l.block j) name ≡ true → has l.rows l.out name ≡ true;
  only : (name : ℕ) → has l.rows l.out name ≡ true → (has l.initial.rows l.out name ≡ true) ⊎ ((next : ℕ) × IsSuccessor (g.F.Flow.shape l.flow) l.block next × (has l.initial.rows next name ≡ true));
}
