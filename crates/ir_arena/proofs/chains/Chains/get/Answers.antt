use Rattle.std.proofs.Common.{◌≡◌, Some, None, slice_get, sym, ◌∙◌}
use Rattle.ir_arena.proofs.Layouts.{ids_differ}
use Rattle.ir_arena.proofs.Readers.{laid_at, node_within, tells, holds_item}
use Rattle.ir_arena.proofs.chains.Chains.get.Goals as goal

pub node-requires : goal.node-requires
node-requires g c =
    let laid = laid_at c.self.inside.nodes c.self.inside.ends.items c.self.inside.free c.self.inside.spare c.args.self.now c.self.view_is c.self.invariant in
    rw c.id.view_is (node_within c.self.inside.nodes c.self.inside.ends.items c.self.inside.free c.args.self.now.spare c.args.self.now.lists laid c.args.id c.requires)

pub unreachable-requires : goal.unreachable-requires
unreachable-requires g c =
    let laid = laid_at c.self.inside.nodes c.self.inside.ends.items c.self.inside.free c.self.inside.spare c.args.self.now c.self.view_is c.self.invariant in
    let at_id : slice_get c.self.inside.nodes c.args.id ≡ Some c.node.result.now = rw (← c.id.view_is) c.node.ensures in
    let told = tells c.self.inside.nodes c.self.inside.ends.items c.self.inside.free c.args.self.now.spare c.args.self.now.lists laid c.args.id c.node.result.now c.requires.0 at_id c.requires.1 in
    let none = c.in-None.is in
    let clash : None ≡ Some told.v = sym none ∙ told.item in
    cc

pub returns-clause-item : goal.returns-clause-item
returns-clause-item g c =
    let laid = laid_at c.self.inside.nodes c.self.inside.ends.items c.self.inside.free c.self.inside.spare c.args.self.now c.self.view_is c.self.invariant in
    let at_id : slice_get c.self.inside.nodes c.args.id ≡ Some c.node.result.now = rw (← c.id.view_is) c.node.ensures in
    holds_item c.self.inside.nodes c.self.inside.ends.items c.self.inside.free c.args.self.now.spare c.args.self.now.lists laid c.args.id c.node.result.now c.in-Some.item at_id c.in-Some.is

pub returns-clause-differ : goal.returns-clause-differ
returns-clause-differ g c =
    let laid = laid_at c.self.inside.nodes c.self.inside.ends.items c.self.inside.free c.self.inside.spare c.args.self.now c.self.view_is c.self.invariant in
    ids_differ c.self.inside.nodes c.self.inside.ends.items c.self.inside.free c.args.self.now.spare c.args.self.now.lists laid
