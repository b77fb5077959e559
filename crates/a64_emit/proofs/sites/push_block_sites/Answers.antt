use Rattle.std.proofs.Common.{◌^◌, ◌<◌}
use Rattle.air_ir.specs.declared.procedure.AirInst.{AirInst}
use Rattle.a64_emit.specs.Made.{inst_sites}
use Rattle.a64_emit.proofs.SitesPushing.{all_grown, flat_grown}
use Rattle.a64_emit.proofs.sites.push_block_sites.Goals as goal

pub loop-inst-preserved : goal.loop-inst-preserved
loop-inst-preserved c = record {
  sites = flat_grown (inst_sites c.args.frame.now) c.as_slice-inst-items.result.now c.args.block.now.insts c.loop-inst.inst-index c.inst-item.result c.args.sites.now c.loop-inst.sites
      c.push_inst_sites.new.sites c.as_slice-inst-items.ensures c.loop-inst-test.true c.inst-item.is c.loop-inst.invariant.sites c.in_ok-push_inst_sites.ensures.sites;
  small = all_grown (λ (i : AirInst). i.value < 2 ^ 32) c.as_slice-inst-items.result.now c.args.block.now.insts c.loop-inst.inst-index c.inst-item.result c.as_slice-inst-items.ensures c.loop-inst-test.true
      c.inst-item.is c.in_ok-push_inst_sites.ensures.small c.loop-inst.invariant.small;
}
