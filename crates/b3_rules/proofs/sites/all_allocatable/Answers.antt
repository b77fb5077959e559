use Rattle.std.proofs.Common.{All}
use Rattle.std.proofs.lemmas.List.Elements.{All-more}
use Rattle.stackmap.specs.Rules.{FixesAllocatable}
use Rattle.b3_rules.proofs.Loops.{all_seen}
use Rattle.b3_rules.proofs.sites.all_allocatable.Goals as goal

pub loop-constraint-preserved : goal.loop-constraint-preserved
loop-constraint-preserved c =
    All-more (FixesAllocatable) c.args.constraints.now c.loop-constraint.constraint-index _ c.loop-constraint-test.true
    c.loop-constraint.invariant (c.fixes_allocatable.ensures.0 c.if-not-fixes_allocatable.false)

pub returns : goal.returns
returns c = all_seen (All (FixesAllocatable)) c.args.constraints.now c.loop-constraint.constraint-index c.loop-constraint-test.false c.loop-constraint.invariant
