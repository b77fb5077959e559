use Rattle.std.proofs.Common.{◌≢◌, All}
use Rattle.std.proofs.lemmas.List.Elements.{All-more}
use Rattle.b3_ir.specs.declared.value.Constraint.{Constraint}
use Rattle.b3_ir.specs.declared.value.Constraint.TheVariants.{SomeEarlyRegister}
use Rattle.b3_rules.proofs.Loops.{all_seen}
use Rattle.b3_rules.proofs.sites.none_early.Goals as goal

pub loop-constraint-preserved : goal.loop-constraint-preserved
loop-constraint-preserved c =
    All-more (λ (d : Constraint). d ≢ SomeEarlyRegister) c.args.constraints.now c.loop-constraint.constraint-index _ c.loop-constraint-test.true
    c.loop-constraint.invariant (c.may_child.ensures.0 c.if-not-may_child.false)

pub returns : goal.returns
returns c =
    all_seen (All (λ (d : Constraint). d ≢ SomeEarlyRegister)) c.args.constraints.now c.loop-constraint.constraint-index c.loop-constraint-test.false
    c.loop-constraint.invariant
