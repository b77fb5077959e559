use Rattle.std.proofs.Common.{◌<◌, length, ◌∙◌}
use Rattle.ir_arena.proofs.Layouts.{ids_differ}
use Rattle.ir_arena.proofs.Readers.{laid_at, last_of}
use Rattle.std.proofs.Common.{sym}
use Rattle.ir_arena.specs.Chains.{list_at}
use Rattle.ir_arena.proofs.ListLemmas.{found_by, last_in_list}
use Rattle.ir_arena.proofs.chains.Chains.last.Goals as goal

pub returns-clause-last : goal.returns-clause-last
returns-clause-last g c =
    let laid = laid_at c.self.inside.nodes c.self.inside.ends.items c.self.inside.free c.self.inside.spare c.args.self.now c.self.view_is c.self.invariant in
    let below : c.chain.inside.0 < length c.args.self.now.lists = rw c.chain.view_is c.requires in
    rw (← c.chain.view_is) (c.linked.ensures ∙ last_of c.self.inside.nodes c.self.inside.ends.items c.self.inside.free c.args.self.now.spare c.args.self.now.lists laid c.chain.inside.0 c.index.result.now below c.index.ensures)

pub returns-clause-differ : goal.returns-clause-differ
returns-clause-differ g c =
    let laid = laid_at c.self.inside.nodes c.self.inside.ends.items c.self.inside.free c.self.inside.spare c.args.self.now c.self.view_is c.self.invariant in
    ids_differ c.self.inside.nodes c.self.inside.ends.items c.self.inside.free c.args.self.now.spare c.args.self.now.lists laid

pub returns-clause-found : goal.returns-clause-found
returns-clause-found g c =
    found_by c.linked.result (list_at c.args.self.now.lists c.args.chain) (λ id is. last_in_list (list_at c.args.self.now.lists c.args.chain) id (sym (returns-clause-last g c) ∙ is))
