use Rattle.std.proofs.Common.{◌≡◌, ◌++◌, ◌-◌, ◌^◌, ◌<◌}
use Rattle.std.specs.FinMap as map
use Rattle.b3_trial.specs.Shown.{memory_below}
use Rattle.b3_trial.proofs.showing.put_memory.Given as goal

abbrev pub invariant-loop-address : goal.invariant-loop-address
invariant-loop-address l = record {
  so_far : l.out ≡ l.fn.out ++ memory_below (map.get l.memory) l.from;
  low : l.from < 2 ^ 64;
}

abbrev pub decreases-loop-address : goal.decreases-loop-address
decreases-loop-address l = 2 ^ 64 - l.from
