use Rattle.b3_uses.proofs.Noting.{lists_more}
use Rattle.b3_uses.proofs.gather.open_uses.Goals as goal

pub loop-block-preserved : goal.loop-block-preserved
loop-block-preserved c =
    lists_more c.args.p.now.procedure c.loop-block.block c.loop-block.found c.add_block.new.self c.loop-block.invariant c.in_ok-add_block.ensures
