use Rattle.std.proofs.Common.{All, take}
use Rattle.stackmap.specs.Rules.{FixesAllocatable}
use Rattle.b3_rules.proofs.sites.all_allocatable.Given as goal

abbrev pub invariant-loop-constraint : goal.invariant-loop-constraint
invariant-loop-constraint l = All FixesAllocatable (take l.constraint-index l.constraints)
