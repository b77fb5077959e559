use Rattle.std.proofs.Common.{◌≡◌}
use Rattle.std.specs.FinMap as map
use Rattle.a64_run.specs.Kept.{entry_of}
use Rattle.a64_run.specs.Machine.{touches_empty}
use Rattle.a64_run.proofs.touching.touches_empty.Given as goal

abbrev pub invariant-loop-i : goal.invariant-loop-i
invariant-loop-i l = l.touched ≡ touches_empty (entry_of l.e) (map.get l.memory) l.address l.i
