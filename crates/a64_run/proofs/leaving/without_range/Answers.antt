-- One more byte is taken over, where it is outside the range.
use Rattle.std.proofs.Common.{◌+◌}
use Rattle.std.specs.Ordering.{nat_cmp}
use Rattle.std.specs.FinMap as map
use Rattle.a64_run.proofs.Left.{kept_first, kept_more, next_there}
use Rattle.a64_run.proofs.leaving.without_range.Goals as goal

pub loop-next-init : goal.loop-next-init
loop-next-init c = record {
  kept = kept_first c.args.first c.args.end (map.get c.args.memory.now) (map.get c.new-left.result) c.next_mapped-next.result
      (λ q. rw c.new-left.ensures (map.get-empty nat_cmp q)) c.next_mapped-next.ensures.least c.next_mapped-next.ensures.none;
  there = next_there (map.get c.args.memory.now) 0 c.next_mapped-next.result c.next_mapped-next.ensures.least;
}

pub loop-next-preserved : goal.loop-next-preserved
loop-next-preserved c =
    let there = rw c.in-Some.is at c.loop-next.invariant.there in
    let kept = rw c.in-Some.is at c.loop-next.invariant.kept in
    record {
      kept = kept_more c.args.first c.args.end (map.get c.args.memory.now)
          (map.get c.loop-next.left) _ c.in-Some.address c.mapped_above-next.result there kept c.in_ok-take_outside.ensures
          c.mapped_above-next.ensures.least c.mapped_above-next.ensures.none;
      there = next_there (map.get c.args.memory.now) (c.in-Some.address + 1) c.mapped_above-next.result c.mapped_above-next.ensures.least;
    }
