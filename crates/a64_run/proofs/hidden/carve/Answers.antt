-- One more range is cut.
use Rattle.std.proofs.Common.{arith}
use Rattle.std.proofs.lemmas.Grind.{common_steps}
use Rattle.a64_run.proofs.Slots.{carved}
use Rattle.a64_run.proofs.hidden.carve.Goals as goal

pub loop-range-preserved : goal.loop-range-preserved
loop-range-preserved c = record {
  covered = λ q. carved c.args.ranges.now c.loop-range.range-index _ c.args.first c.args.end q _ _ _ _ _ c.loop-range-test.true c.min.ensures c.max.ensures
      (c.loop-range.invariant.covered q) (c.in_ok-push_part.ensures.covered q) (c.in_ok-push_part-2.ensures.covered q);
  ends = grind (arith, common_steps);
}
