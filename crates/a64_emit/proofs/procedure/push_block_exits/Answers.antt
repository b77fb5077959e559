use Rattle.std.proofs.Common.{arith}
use Rattle.a64_emit.specs.Code.{exits_of, labels_of}
use Rattle.a64_emit.proofs.BlockPushing.{exits_done, exits_next, sum_left}
use Rattle.a64_emit.proofs.procedure.push_block_exits.Goals as goal

pub loop-k-preserved : goal.loop-k-preserved
loop-k-preserved c =
    let labels = sum_left labels_of c.args.block.now.insts c.loop-k.k c.get-inst.result.now c.get-inst.ensures in
    let marks = sum_left exits_of c.args.block.now.insts c.loop-k.k c.get-inst.result.now c.get-inst.ensures in
    record {
      labels = omega (arith, c.loop-k.invariant.labels, c.own_labels-own.ensures);
      marks = omega (arith, c.loop-k.invariant.marks, c.own_exits-number.ensures);
      whole = rw (c.own_labels-own.ensures, c.own_exits-number.ensures)
          (exits_next c.loop-k.own c.loop-k.number c.args.block.now.insts c.loop-k.k c.get-inst.result.now c.loop-k.code c.push_own_exit.new.code _
          c.loop-k.invariant.whole c.get-inst.ensures c.in_ok-push_own_exit.ensures);
    }

pub returns : goal.returns
returns c =
    exits_done c.loop-k.own c.loop-k.number c.args.block.now.insts c.loop-k.k c.loop-k.code _ c.loop-k.invariant.whole (omega arith)

pub own_labels-own-requires : goal.own_labels-own-requires
own_labels-own-requires c = omega (arith, sum_left labels_of c.args.block.now.insts c.loop-k.k c.get-inst.result.now c.get-inst.ensures, c.requires.labels, c.loop-k.invariant.labels)

pub overflow_add-own : goal.overflow_add-own
overflow_add-own c = omega (arith, sum_left labels_of c.args.block.now.insts c.loop-k.k c.get-inst.result.now c.get-inst.ensures, c.requires.labels, c.loop-k.invariant.labels, c.own_labels-own.ensures)

pub overflow_add-number : goal.overflow_add-number
overflow_add-number c = omega (arith, sum_left exits_of c.args.block.now.insts c.loop-k.k c.get-inst.result.now c.get-inst.ensures, c.requires.marks, c.loop-k.invariant.marks, c.own_exits-number.ensures)
