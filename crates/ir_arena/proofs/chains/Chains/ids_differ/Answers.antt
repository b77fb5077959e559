use Rattle.std.proofs.Common.{ap, arith}
use Rattle.ir_arena.specs.Chains.{Chains}
use Rattle.ir_arena.proofs.Layouts.{ids_differ}
use Rattle.ir_arena.proofs.Readers.{laid_at}
use Rattle.ir_arena.proofs.chains.Chains.ids_differ.Goals as goal

pub returns-clause-differ : goal.returns-clause-differ
returns-clause-differ g c =
    let laid = laid_at c.self.inside.nodes c.self.inside.ends.items c.self.inside.free c.self.inside.spare c.args.self.now c.self.view_is c.self.invariant in
    ids_differ c.self.inside.nodes c.self.inside.ends.items c.self.inside.free c.args.self.now.spare c.args.self.now.lists laid

pub returns-clause-few : goal.returns-clause-few
returns-clause-few g c =
    let laid = laid_at c.self.inside.nodes c.self.inside.ends.items c.self.inside.free c.self.inside.spare c.args.self.now c.self.view_is c.self.invariant in
    let all = laid.all in
    let small = laid.small in
    omega arith
