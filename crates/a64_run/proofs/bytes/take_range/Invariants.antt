use Rattle.std.proofs.Common.{◌≡◌}
use Rattle.std.specs.FinMap as map
use Rattle.a64_run.specs.Taking.{with_range}
use Rattle.a64_run.proofs.bytes.take_range.Given as goal

abbrev pub invariant-loop-i : goal.invariant-loop-i
invariant-loop-i l = map.get l.into ≡ with_range (map.get l.initial.into) (map.get l.from) l.first l.i
