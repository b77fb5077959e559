use Rattle.std.proofs.Common.{arith}
use Rattle.a64_emit.specs.Code.{block_exits, block_labels}
use Rattle.a64_emit.proofs.BlockPushing.{all_exits_done, all_exits_next, sum_left}
use Rattle.a64_emit.proofs.procedure.push_exits.Goals as goal

pub block_labels-label-requires : goal.block_labels-label-requires
block_labels-label-requires c =
    omega (arith, sum_left block_labels c.args.p.now.blocks c.loop-b.b c.get-block.result.now c.get-block.ensures, c.requires.labels.labels, c.loop-b.invariant.labels)

pub block_exits-mark-requires : goal.block_exits-mark-requires
block_exits-mark-requires c =
    omega (arith, sum_left block_exits c.args.p.now.blocks c.loop-b.b c.get-block.result.now c.get-block.ensures, c.requires.labels.marks, c.requires.marks, c.loop-b.invariant.marks)

pub loop-b-preserved : goal.loop-b-preserved
loop-b-preserved c = record {
  labels = omega (arith, sum_left block_labels c.args.p.now.blocks c.loop-b.b c.get-block.result.now c.get-block.ensures, c.loop-b.invariant.labels, c.block_labels-label.ensures);
  marks = omega (arith, sum_left block_exits c.args.p.now.blocks c.loop-b.b c.get-block.result.now c.get-block.ensures, c.loop-b.invariant.marks, c.block_exits-mark.ensures);
  whole = rw (c.block_labels-label.ensures, c.block_exits-mark.ensures)
      (all_exits_next c.loop-b.label c.loop-b.mark c.args.p.now.blocks c.loop-b.b c.get-block.result.now c.loop-b.code c.push_block_exits.new.code _
      c.loop-b.invariant.whole c.get-block.ensures c.in_ok-push_block_exits.ensures);
}

pub returns : goal.returns
returns c =
    all_exits_done c.loop-b.label c.loop-b.mark c.args.p.now.blocks c.loop-b.b c.loop-b.code _ c.loop-b.invariant.whole (omega arith)

pub push_block_exits-requires-clause-labels : goal.push_block_exits-requires-clause-labels
push_block_exits-requires-clause-labels c =
    omega (arith, sum_left block_labels c.args.p.now.blocks c.loop-b.b c.get-block.result.now c.get-block.ensures, c.requires.labels.labels, c.loop-b.invariant.labels)

pub push_block_exits-requires-clause-marks : goal.push_block_exits-requires-clause-marks
push_block_exits-requires-clause-marks c =
    omega (arith, sum_left block_exits c.args.p.now.blocks c.loop-b.b c.get-block.result.now c.get-block.ensures, c.requires.labels.marks, c.requires.marks, c.loop-b.invariant.marks)

pub overflow_add-label : goal.overflow_add-label
overflow_add-label c = omega (arith, sum_left block_labels c.args.p.now.blocks c.loop-b.b c.get-block.result.now c.get-block.ensures, c.requires.labels.labels, c.loop-b.invariant.labels, c.block_labels-label.ensures)

pub overflow_add-mark : goal.overflow_add-mark
overflow_add-mark c = omega (arith, sum_left block_exits c.args.p.now.blocks c.loop-b.b c.get-block.result.now c.get-block.ensures, c.requires.labels.marks, c.requires.marks, c.loop-b.invariant.marks, c.block_exits-mark.ensures)
