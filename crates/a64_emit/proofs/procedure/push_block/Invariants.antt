use Rattle.std.proofs.Common.{◌≡◌, ◌+◌, ◌++◌, drop}
use Rattle.std.specs.Prelude.{sum_by}
use Rattle.a64_emit.specs.Code.{block_labels, block_marks, insts_items, labels_of, marks_of}
use Rattle.a64_emit.proofs.procedure.push_block.Given as goal

-- what is still to be put is the items of the instructions that are left, and their labels and marks are still free
abbrev pub invariant-loop-k : goal.invariant-loop-k
invariant-loop-k l = record {
  labels : l.own + sum_by labels_of (drop l.k l.block.insts) ≡ l.label + block_labels l.block;
  marks : l.number + sum_by marks_of (drop l.k l.block.insts) ≡ l.mark + block_marks l.block;
  whole : l.code ++ insts_items l.frame l.next l.own l.number l.block.targets (drop l.k l.block.insts)
      ≡ l.initial.code ++ insts_items l.frame l.next l.label l.mark l.block.targets l.block.insts;
}
