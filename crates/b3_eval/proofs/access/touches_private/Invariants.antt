use Rattle.std.proofs.Common.{◌≡◌}
use Rattle.b3_base.specs.Observed.{start_of}
use Rattle.b3_meaning.specs.Access.{touches_private}
use Rattle.b3_eval.proofs.access.touches_private.Given as goal

abbrev pub invariant-loop-i : goal.invariant-loop-i
invariant-loop-i l = l.touched ≡ touches_private (start_of l.start) l.address l.i
