use Rattle.std.proofs.Common.{take}
use Rattle.b3_rules.proofs.FixedApart.{AreFixedIn}
use Rattle.b3_rules.proofs.sites.differ.Given as goal

abbrev pub invariant-loop-constraint : goal.invariant-loop-constraint
invariant-loop-constraint l = AreFixedIn l.fixed (take l.constraint-index l.constraints)
