use Rattle.std.proofs.Common.{◌∙◌, ap, arith, refl}
use Rattle.b3_ir.specs.Naming.{all_values}
use Rattle.b3_rules.specs.Rules.{first_return}
use Rattle.air_select.specs.Selected.{returns_by}
use Rattle.air_select.proofs.Entries.{first_found, first_passed}
use Rattle.air_select.proofs.entry.returns.Goals as goal

pub returns-in-Some : goal.returns-in-Some
returns-in-Some c =
    let p = c.args.p.now.procedure in
    c.returns_of.ensures
    ∙ ap (returns_by c.args.index.now)
    (first_found p.blocks c.loop-block.block (first_return (all_values p)) c.in-Some.value.now
    (omega (arith, c.blocks-block-end.ensures)) c.loop-block.invariant c.in-Some.ensures.some)

pub loop-block-preserved : goal.loop-block-preserved
loop-block-preserved c =
    let p = c.args.p.now.procedure in
    first_passed p.blocks c.loop-block.block (first_return (all_values p)) (omega (arith, c.blocks-block-end.ensures)) c.loop-block.invariant
    (c.in_default.ensures.none refl)
