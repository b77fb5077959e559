use Rattle.std.proofs.Common.{◌∙◌, ◌++◌, [], ◌∷◌, List, ap, append_assoc}
use Rattle.a64_inst.specs.declared.item.Item.{Item}
use Rattle.a64_inst.specs.declared.item.Item.TheVariants.{Mark}
use Rattle.a64_emit.specs.Code.{breaks}
use Rattle.a64_code.specs.Places.{plains}
use Rattle.a64_emit.proofs.SitesPushing.{breaks_done, breaks_next}
use Rattle.a64_emit.proofs.insts.push_patch.Goals as goal

pub loop-i-preserved : goal.loop-i-preserved
loop-i-preserved c = breaks_next c.args.size c.loop-i._i c.loop-i.code c.push.new.code _ c.loop-i.invariant c.loop-i-test.true c.in_ok-push.ensures

pub returns : goal.returns
returns c =
    breaks_done c.args.size c.loop-i._i c.loop-i.code _ c.loop-i.invariant c.loop-i-test.false
    ∙ ap (λ (xs : List Item). xs ++ plains (breaks c.args.size)) c.in_ok-push_mark.ensures
    ∙ append_assoc c.args.code.now (Mark c.args.mark ∷ []) (plains (breaks c.args.size))
