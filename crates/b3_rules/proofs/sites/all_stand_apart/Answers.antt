use Rattle.std.proofs.Common.{◌↔◌, true, List, All, IsTrue, subst}
use Rattle.std.proofs.lemmas.List.Elements.{All-more}
use Rattle.b3_ir.specs.declared.value.Constraint.{Constraint}
use Rattle.b3_rules.specs.Sites.{StandsApart}
use Rattle.b3_rules.proofs.Loops.{all_seen}
use Rattle.b3_rules.proofs.sites.all_stand_apart.Goals as goal

pub loop-constraint-preserved : goal.loop-constraint-preserved
loop-constraint-preserved c =
    All-more (StandsApart c.args.typed c.args.map.now) c.as_slice-constraint-items.result.now c.loop-constraint.constraint-index _ c.loop-constraint-test.true
    c.loop-constraint.invariant (c.stands_apart.ensures.0 c.if-not-stands_apart.false)

pub returns : goal.returns
returns c =
    let ended = all_seen (All (StandsApart c.args.typed c.args.map.now)) c.as_slice-constraint-items.result.now c.loop-constraint.constraint-index
    c.loop-constraint-test.false c.loop-constraint.invariant in
    subst (λ (cs : List Constraint). IsTrue true ↔ All (StandsApart c.args.typed c.args.map.now) cs) c.as_slice-constraint-items.ensures ended
