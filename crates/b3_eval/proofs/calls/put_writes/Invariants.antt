use Rattle.std.proofs.Common.{◌≡◌, ◌≤◌, ◌-◌, ◌^◌}
use Rattle.std.specs.FinMap as finite
use Rattle.b3_eval.specs.Writes.{with_bytes_below}
use Rattle.b3_eval.proofs.calls.put_writes.Given as goal

abbrev pub invariant-loop-from : goal.invariant-loop-from
invariant-loop-from l = record {
  within : l.from ≤ 2 ^ 64;
  same : finite.get l.memory ≡ with_bytes_below (finite.get l.fn.memory) (finite.get l.writes) l.from;
}

abbrev pub decreases-loop-from : goal.decreases-loop-from
decreases-loop-from l = 2 ^ 64 - l.from
