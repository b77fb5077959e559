use Rattle.std.proofs.Common.{ap, ◌+◌}
use Rattle.ir_arena.specs.Chains.{Chains}
use Rattle.ir_arena.proofs.Layouts.{settled, lists_are}
use Rattle.ir_arena.proofs.Readers.{laid_at}
use Rattle.ir_arena.proofs.Steps.{grow_step}
use Rattle.ir_arena.proofs.chains.Chains.grow.Goals as goal

pub invariant_of-self-2 : goal.invariant_of-self-2
invariant_of-self-2 g c =
    let laid = laid_at c.self.inside.nodes c.self.inside.ends.items c.self.inside.free c.self.inside.spare c.args.self.now c.self.view_is c.self.invariant in
    let spare = ap (λ (s : Chains g.row.T.Denot). s.spare) c.self.view_is in
    let step = grow_step c.self.inside.nodes c.self.inside.ends.items c.self.inside.free c.args.self.now.spare c.args.self.now.lists laid c.grow.new.self c.in_ok-self-inside.field-0 c.in_ok-self-inside.ensures.nodes c.in_ok-self-inside.ensures.first c.grow.ensures.small in
    rw spare (settled c.grow.new.self c.self.inside.ends.items c.in_ok-self-inside.field-0 (c.args.self.now.spare + 64) c.args.self.now.lists step)

pub returns-clause-lists : goal.returns-clause-lists
returns-clause-lists g c =
    let laid = laid_at c.self.inside.nodes c.self.inside.ends.items c.self.inside.free c.self.inside.spare c.args.self.now c.self.view_is c.self.invariant in
    let spare = ap (λ (s : Chains g.row.T.Denot). s.spare) c.self.view_is in
    let step = grow_step c.self.inside.nodes c.self.inside.ends.items c.self.inside.free c.args.self.now.spare c.args.self.now.lists laid c.grow.new.self c.in_ok-self-inside.field-0 c.in_ok-self-inside.ensures.nodes c.in_ok-self-inside.ensures.first c.grow.ensures.small in
    lists_are c.grow.new.self c.self.inside.ends.items c.in_ok-self-inside.field-0 (c.args.self.now.spare + 64) c.args.self.now.lists step
