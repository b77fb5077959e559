use Rattle.std.proofs.Common.{◌∙◌, arith}
use Rattle.a64_emit.proofs.SitesPushing.{written_done, written_next}
use Rattle.a64_emit.proofs.sites.registers_written.Goals as goal

pub loop-k-preserved : goal.loop-k-preserved
loop-k-preserved c = record {
  whole = written_next c.args.operands.now c.args.n c.loop-k.k c.get.result.now c.loop-k.set c.with_operand-set.result _ c.loop-k.invariant.whole
      c.loop-k-test.true c.get.ensures c.with_operand-set.ensures.value;
  small = c.with_operand-set.ensures.bound;
}

pub returns : goal.returns
returns c =
    c.from_bits.ensures ∙ written_done c.args.operands.now c.args.n c.loop-k.k c.loop-k.set _ c.loop-k.invariant.whole (omega arith)
