use Rattle.air_graph.proofs.Pairs.{pair_added, pairs_all}
use Rattle.air_graph.proofs.moves.add_pairs.Goals as goal

pub loop-k-preserved : goal.loop-k-preserved
loop-k-preserved c =
    pair_added c.args.operands.now c.loop-k.k _ c.loop-k-test.true c.args.moves.now c.loop-k.moves c.add_copied.new.moves c.loop-k.invariant
    c.in_ok-add_copied.ensures

pub returns : goal.returns
returns c = pairs_all c.args.operands.now c.args.moves.now c.loop-k.moves c.loop-k.k c.loop-k-test.false c.loop-k.invariant
