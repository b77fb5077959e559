use Rattle.std.proofs.Common.{arith}
use Rattle.a64_emit.specs.Code.{block_labels, block_marks}
use Rattle.a64_emit.proofs.BlockPushing.{blocks_done, blocks_next, sum_done, sum_left}
use Rattle.a64_emit.proofs.procedure.push_blocks.Goals as goal

pub block_labels-label-requires : goal.block_labels-label-requires
block_labels-label-requires c =
    omega (arith, sum_left block_labels c.args.p.now.blocks c.loop-b.b c.get-block.result.now c.get-block.ensures, c.requires.labels.labels, c.loop-b.invariant.labels)

pub block_marks-mark-requires : goal.block_marks-mark-requires
block_marks-mark-requires c =
    omega (arith, sum_left block_marks c.args.p.now.blocks c.loop-b.b c.get-block.result.now c.get-block.ensures, c.requires.labels.marks, c.loop-b.invariant.marks)

pub loop-b-preserved : goal.loop-b-preserved
loop-b-preserved c = record {
  labels = omega (arith, sum_left block_labels c.args.p.now.blocks c.loop-b.b c.get-block.result.now c.get-block.ensures, c.loop-b.invariant.labels, c.block_labels-label.ensures);
  marks = omega (arith, sum_left block_marks c.args.p.now.blocks c.loop-b.b c.get-block.result.now c.get-block.ensures, c.loop-b.invariant.marks, c.block_marks-mark.ensures);
  whole = rw (c.block_labels-label.ensures, c.block_marks-mark.ensures)
      (blocks_next c.args.frame.now c.args.p.now.blocks c.loop-b.b c.loop-b.label c.loop-b.mark c.get-block.result.now c.loop-b.code c.push.new.self
      c.push_block.new.code _ c.loop-b.invariant.whole c.get-block.ensures c.in_ok-push.ensures.ok c.in_ok-push_block.ensures);
}

pub returns-clause-items : goal.returns-clause-items
returns-clause-items c =
    blocks_done c.args.frame.now c.args.p.now.blocks c.loop-b.b c.loop-b.label c.loop-b.mark c.loop-b.code _ c.loop-b.invariant.whole
    (omega (arith, c.len-count.ensures))

pub returns-clause-marks : goal.returns-clause-marks
returns-clause-marks c = sum_done block_marks c.args.p.now.blocks c.loop-b.b c.loop-b.mark _ c.loop-b.invariant.marks (omega (arith, c.len-count.ensures))

pub push_block-requires-clause-labels : goal.push_block-requires-clause-labels
push_block-requires-clause-labels c =
    omega (arith, sum_left block_labels c.args.p.now.blocks c.loop-b.b c.get-block.result.now c.get-block.ensures, c.requires.labels.labels, c.loop-b.invariant.labels)

pub push_block-requires-clause-marks : goal.push_block-requires-clause-marks
push_block-requires-clause-marks c =
    omega (arith, sum_left block_marks c.args.p.now.blocks c.loop-b.b c.get-block.result.now c.get-block.ensures, c.requires.labels.marks, c.loop-b.invariant.marks)

pub overflow_add-label : goal.overflow_add-label
overflow_add-label c = omega (arith, sum_left block_labels c.args.p.now.blocks c.loop-b.b c.get-block.result.now c.get-block.ensures, c.requires.labels.labels, c.loop-b.invariant.labels, c.block_labels-label.ensures)

pub overflow_add-mark : goal.overflow_add-mark
overflow_add-mark c = omega (arith, sum_left block_marks c.args.p.now.blocks c.loop-b.b c.get-block.result.now c.get-block.ensures, c.requires.labels.marks, c.loop-b.invariant.marks, c.block_marks-mark.ensures)
