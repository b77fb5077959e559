use Rattle.std.proofs.Common.{◌≡◌, ◌≤◌}
use Rattle.ir_arena.specs.Layout.{free_head, free_nodes}
use Rattle.ir_arena.proofs.nodes.free_chunk.Given as goal

abbrev pub invariant-loop-i : goal.invariant-loop-i
invariant-loop-i g l = record {
  chunk : l.chunk ≡ free_nodes l.fn.start l.fn.free l.i;
  first : l.first ≡ free_head l.fn.start l.fn.free l.i;
  in_range : l.i ≤ 64;
}
