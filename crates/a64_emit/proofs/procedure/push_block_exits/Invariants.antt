use Rattle.std.proofs.Common.{◌≡◌, ◌+◌, ◌++◌, drop}
use Rattle.std.specs.Prelude.{sum_by}
use Rattle.a64_emit.specs.Code.{block_exits, block_labels, exits_of, insts_exits, labels_of}
use Rattle.a64_emit.proofs.procedure.push_block_exits.Given as goal

-- what is still to be put is the exits of the instructions that are left
abbrev pub invariant-loop-k : goal.invariant-loop-k
invariant-loop-k l = record {
  labels : l.own + sum_by labels_of (drop l.k l.block.insts) ≡ l.label + block_labels l.block;
  marks : l.number + sum_by exits_of (drop l.k l.block.insts) ≡ l.mark + block_exits l.block;
  whole : l.code ++ insts_exits l.own l.number (drop l.k l.block.insts) ≡ l.initial.code ++ insts_exits l.label l.mark l.block.insts;
}
