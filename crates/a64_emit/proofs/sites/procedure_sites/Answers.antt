use Rattle.a64_emit.specs.Made.{block_exit_sites, inner_sites}
use Rattle.a64_emit.proofs.SitesPushing.{flat_grown}
use Rattle.a64_emit.proofs.sites.procedure_sites.Goals as goal

pub loop-block-preserved : goal.loop-block-preserved
loop-block-preserved c =
    flat_grown (block_exit_sites c.args.frame.now) c.as_slice-block-items.result.now c.args.p.now.blocks c.loop-block.block-index c.block-item.result
    (inner_sites c.args.p.now c.args.frame.now) c.loop-block.sites c.push_block_exits.new.sites c.as_slice-block-items.ensures c.loop-block-test.true
    c.block-item.is c.loop-block.invariant c.in_ok-push_block_exits.ensures
