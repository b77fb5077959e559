use Rattle.std.proofs.Common.{[], ◌∷◌, ◌++◌}
use Rattle.ir_arena.specs.Layout.{lists_of}
use Rattle.ir_arena.proofs.Layouts.{no_ends, add_laid, settled, lists_are}
use Rattle.ir_arena.proofs.Readers.{laid_at}
use Rattle.ir_arena.proofs.chains.Chains.add_chain.Goals as goal

pub invariant_of-self-2 : goal.invariant_of-self-2
invariant_of-self-2 g c =
    let lists = lists_of c.self.inside.nodes c.self.inside.ends.items in
    let more = add_laid c.self.inside.nodes c.self.inside.ends.items c.self.inside.free c.self.inside.spare lists c.self.invariant in
    rw c.in_ok-push.ensures.items (settled c.self.inside.nodes (c.self.inside.ends.items ++ no_ends ∷ []) c.self.inside.free c.self.inside.spare (lists ++ [] ∷ []) more)

pub returns-clause-lists : goal.returns-clause-lists
returns-clause-lists g c =
    let laid = laid_at c.self.inside.nodes c.self.inside.ends.items c.self.inside.free c.self.inside.spare c.args.self.now c.self.view_is c.self.invariant in
    let more = add_laid c.self.inside.nodes c.self.inside.ends.items c.self.inside.free c.args.self.now.spare c.args.self.now.lists laid in
    rw c.in_ok-push.ensures.items (lists_are c.self.inside.nodes (c.self.inside.ends.items ++ no_ends ∷ []) c.self.inside.free c.args.self.now.spare (c.args.self.now.lists ++ [] ∷ []) more)
