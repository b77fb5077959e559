-- One more written byte is put, where it is seen.
use Rattle.std.proofs.Common.{◌+◌}
use Rattle.std.specs.Prelude.{◌||◌, is_some}
use Rattle.std.specs.FinMap as map
use Rattle.b3_base.specs.Observed.{machine_start_of}
use Rattle.a64_run.proofs.Left.{next_there, seen_more}
use Rattle.a64_run.specs.Placement.{in_slot}
use Rattle.a64_run.proofs.leaving.put_seen.Goals as goal

pub loop-next-preserved : goal.loop-next-preserved
loop-next-preserved c =
    let put = rw c.in-Some.is at c.loop-next.invariant.put in
    record {
      put = seen_more (λ q. is_some (map.get c.args.start.now.memory q) || in_slot c.args.frame.now (machine_start_of c.args.start.now) q)
          (map.get c.args.memory.now) (map.get c.args.writes.now) (map.get c.loop-next.memory) _
          c.in-Some.address c.mapped_above-next.result put c.put_where_seen.ensures
          c.mapped_above-next.ensures.least c.mapped_above-next.ensures.none;
      there = next_there (map.get c.args.writes.now) (c.in-Some.address + 1) c.mapped_above-next.result c.mapped_above-next.ensures.least;
    }
