use Rattle.std.proofs.Common.{◌≡◌, ℕ, ◌*◌, ◌<◌, length, bit_or, slice_index}
use Rattle.bit_rows.specs.Words.{Merges, Nothing, added}
use Rattle.bit_rows.proofs.merge.union_blocks.Given as goal

abbrev pub invariant-loop-block : goal.invariant-loop-block
invariant-loop-block l = record {
  merges : Merges bit_or l.initial.words l.words l.a l.b (4 * l.block);
  lanes : length l.fresh ≡ 4;
  none : Nothing added l.initial.words l.a l.b (4 * l.block) → (j : ℕ) → j < 4 → slice_index l.fresh j ≡ 0;
  only : ((j : ℕ) → j < 4 → slice_index l.fresh j ≡ 0) → Nothing added l.initial.words l.a l.b (4 * l.block);
}
