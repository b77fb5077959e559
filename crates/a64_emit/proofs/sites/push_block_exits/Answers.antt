use Rattle.a64_emit.specs.Made.{inst_exit}
use Rattle.a64_emit.proofs.SitesPushing.{flat_grown}
use Rattle.a64_emit.proofs.sites.push_block_exits.Goals as goal

pub loop-inst-preserved : goal.loop-inst-preserved
loop-inst-preserved c =
    flat_grown (inst_exit c.args.frame.now) c.as_slice-inst-items.result.now c.args.block.now.insts c.loop-inst.inst-index c.inst-item.result c.args.sites.now
    c.loop-inst.sites c.push_inst_exit.new.sites c.as_slice-inst-items.ensures c.loop-inst-test.true c.inst-item.is c.loop-inst.invariant
    c.in_ok-push_inst_exit.ensures
