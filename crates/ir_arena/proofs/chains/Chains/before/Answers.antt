use Rattle.std.proofs.Common.{◌≡◌, Some, slice_get, ◌∙◌}
use Rattle.ir_arena.proofs.Layouts.{ids_differ}
use Rattle.ir_arena.proofs.Readers.{laid_at, node_within, tells}
use Rattle.std.proofs.Common.{sym}
use Rattle.ir_arena.specs.Chains.{list_at}
use Rattle.ir_arena.proofs.ListLemmas.{found_by, before_in_whole}
use Rattle.ir_arena.proofs.chains.Chains.before.Goals as goal

pub node-requires : goal.node-requires
node-requires g c =
    let laid = laid_at c.self.inside.nodes c.self.inside.ends.items c.self.inside.free c.self.inside.spare c.args.self.now c.self.view_is c.self.invariant in
    rw c.id.view_is (node_within c.self.inside.nodes c.self.inside.ends.items c.self.inside.free c.args.self.now.spare c.args.self.now.lists laid c.args.id c.requires)

pub returns-clause-before : goal.returns-clause-before
returns-clause-before g c k has =
    let laid = laid_at c.self.inside.nodes c.self.inside.ends.items c.self.inside.free c.self.inside.spare c.args.self.now c.self.view_is c.self.invariant in
    let at_id : slice_get c.self.inside.nodes c.args.id ≡ Some c.node.result.now = rw (← c.id.view_is) c.node.ensures in
    c.linked.ensures ∙ (tells c.self.inside.nodes c.self.inside.ends.items c.self.inside.free c.args.self.now.spare c.args.self.now.lists laid c.args.id c.node.result.now k at_id has).before

pub returns-clause-differ : goal.returns-clause-differ
returns-clause-differ g c =
    let laid = laid_at c.self.inside.nodes c.self.inside.ends.items c.self.inside.free c.self.inside.spare c.args.self.now c.self.view_is c.self.invariant in
    ids_differ c.self.inside.nodes c.self.inside.ends.items c.self.inside.free c.args.self.now.spare c.args.self.now.lists laid

pub returns-clause-found : goal.returns-clause-found
returns-clause-found g c k has =
    found_by c.linked.result (list_at c.args.self.now.lists k) (λ i is. before_in_whole (list_at c.args.self.now.lists k) c.args.id i (sym (returns-clause-before g c k has) ∙ is))
