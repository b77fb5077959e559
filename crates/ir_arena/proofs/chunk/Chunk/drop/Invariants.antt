use Rattle.std.proofs.Common.{◌≡◌, ◌+◌, length}
use Rattle.ir_arena.proofs.chunk.Chunk.drop.Given as goal

abbrev pub invariant-loop-dropped : goal.invariant-loop-dropped
invariant-loop-dropped g l = record {
  alloc : l.block.alloc ≡ l.alloc;
  left : length l.block.items + l.dropped ≡ l.len;
}
