use Rattle.std.proofs.Common.{◌≡◌, ◌+◌, ◌++◌, drop, length}
use Rattle.std.specs.Prelude.{sum_by}
use Rattle.a64_emit.specs.Code.{block_exits, block_labels, blocks_exits}
use Rattle.a64_emit.proofs.procedure.push_exits.Given as goal

-- what is still to be put is the exits of the blocks that are left
abbrev pub invariant-loop-b : goal.invariant-loop-b
invariant-loop-b l = record {
  labels : l.label + sum_by block_labels (drop l.b l.p.blocks) ≡ length l.p.blocks + sum_by block_labels l.p.blocks;
  marks : l.mark + sum_by block_exits (drop l.b l.p.blocks) ≡ l.marks + sum_by block_exits l.p.blocks;
  whole : l.code ++ blocks_exits l.label l.mark (drop l.b l.p.blocks) ≡ l.initial.code ++ blocks_exits (length l.p.blocks) l.marks l.p.blocks;
}
