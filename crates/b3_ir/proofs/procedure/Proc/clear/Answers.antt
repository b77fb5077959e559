use Rattle.std.proofs.Common.{sym}
use Rattle.b3_ir.proofs.Emptying.{one_taken, all_taken}
use Rattle.b3_ir.proofs.procedure.Proc.clear.Goals as goal

pub loop-node-preserved : goal.loop-node-preserved
loop-node-preserved c =
    let at = sym c.in-Some.ensures.first in
    (one_taken c.args.self.now c.loop-node.self c.remove.new.self c.args.block c.remove.result c.loop-node.invariant (c.remove.ensures.was c.args.block 0 at) (c.remove.ensures.procedure c.args.block 0 at) (c.remove.ensures.nodes c.args.block 0 at) c.remove.ensures.spare).0

pub returns-clause-nodes : goal.returns-clause-nodes
returns-clause-nodes c = (all_taken c.args.self.now c.loop-node.self c.args.block c.loop-node.invariant c.in_default.ensures.first c.in_default.ensures.rest).1
