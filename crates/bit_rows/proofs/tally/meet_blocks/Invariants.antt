use Rattle.std.proofs.Common.{◌≡◌, ℕ, ◌*◌, ◌<◌, length, bit_and, slice_index}
use Rattle.bit_rows.specs.Words.{Nothing}
use Rattle.bit_rows.proofs.tally.meet_blocks.Given as goal

abbrev pub invariant-loop-block : goal.invariant-loop-block
invariant-loop-block l = record {
  lanes : length l.common ≡ 4;
  none : Nothing bit_and l.words l.a l.b (4 * l.block) → (j : ℕ) → j < 4 → slice_index l.common j ≡ 0;
  only : ((j : ℕ) → j < 4 → slice_index l.common j ≡ 0) → Nothing bit_and l.words l.a l.b (4 * l.block);
}
