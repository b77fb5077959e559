use Rattle.std.proofs.Common.{[]}
use Rattle.a64_emit.specs.Made.{HasSmallValuesIn, block_sites}
use Rattle.a64_emit.proofs.SitesPushing.{all_grown, flat_grown}
use Rattle.a64_emit.proofs.sites.inner_sites.Goals as goal

pub loop-block-preserved : goal.loop-block-preserved
loop-block-preserved c = record {
  sites = flat_grown (block_sites c.args.frame.now) c.as_slice-block-items.result.now c.args.p.now.blocks c.loop-block.block-index c.block-item.result [] c.loop-block.sites
      c.push_block_sites.new.sites c.as_slice-block-items.ensures c.loop-block-test.true c.block-item.is c.loop-block.invariant.sites c.in_ok-push_block_sites.ensures.sites;
  small = all_grown HasSmallValuesIn c.as_slice-block-items.result.now c.args.p.now.blocks c.loop-block.block-index c.block-item.result c.as_slice-block-items.ensures c.loop-block-test.true
      c.block-item.is c.in_ok-push_block_sites.ensures.small c.loop-block.invariant.small;
}
