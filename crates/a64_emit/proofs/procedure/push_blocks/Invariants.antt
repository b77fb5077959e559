use Rattle.std.proofs.Common.{◌≡◌, ◌+◌, ◌++◌, drop, length}
use Rattle.std.specs.Prelude.{sum_by}
use Rattle.a64_emit.specs.Code.{block_labels, block_marks, blocks_items}
use Rattle.a64_emit.proofs.procedure.push_blocks.Given as goal

-- what is still to be put is the items of the blocks that are left, and their labels and marks are still free
abbrev pub invariant-loop-b : goal.invariant-loop-b
invariant-loop-b l = record {
  labels : l.label + sum_by block_labels (drop l.b l.p.blocks) ≡ length l.p.blocks + sum_by block_labels l.p.blocks;
  marks : l.mark + sum_by block_marks (drop l.b l.p.blocks) ≡ sum_by block_marks l.p.blocks;
  whole : l.code ++ blocks_items l.frame l.b l.label l.mark (drop l.b l.p.blocks) ≡ l.initial.code ++ blocks_items l.frame 0 (length l.p.blocks) 0 l.p.blocks;
}
