use Rattle.std.proofs.Common.{take, ap, ◌∙◌}
use Rattle.b3_ir.specs.Procedure.{Kept}
use Rattle.b3_ir.proofs.Spots.{spot, has_spot, next_spot, place_spot, rest_spot, some_at}
use Rattle.b3_ir.proofs.procedure.Proc.next.Goals as goal

pub next-requires : goal.next-requires
next-requires c =
    let s = spot c.self.inside.chains.lists (take c.self.inside.live c.self.inside.headings.items) c.args.self.now.nodes c.requires.0 c.requires.1 c.args.at (ap (λ (k : Kept). k.nodes) c.self.view_is) c.requires.2 in
    (s.b.chain, has_spot c.self.inside.chains.lists (take c.self.inside.live c.self.inside.headings.items) c.requires.0 c.requires.1 c.args.at s)

pub returns-clause-next : goal.returns-clause-next
returns-clause-next c block place h =
    let e = ap (λ (k : Kept). k.nodes) c.self.view_is in
    let s = spot c.self.inside.chains.lists (take c.self.inside.live c.self.inside.headings.items) c.args.self.now.nodes block place c.args.at e h in
    c.next.ensures.next s.b.chain (has_spot c.self.inside.chains.lists (take c.self.inside.live c.self.inside.headings.items) block place c.args.at s) ∙ next_spot c.self.inside.chains.lists (take c.self.inside.live c.self.inside.headings.items) block place c.args.at s c.args.self.now.nodes e c.next.ensures.differ

pub returns-clause-place : goal.returns-clause-place
returns-clause-place c block place h =
    let e = ap (λ (k : Kept). k.nodes) c.self.view_is in
    let s = spot c.self.inside.chains.lists (take c.self.inside.live c.self.inside.headings.items) c.args.self.now.nodes block place c.args.at e h in
    place_spot c.self.inside.chains.lists (take c.self.inside.live c.self.inside.headings.items) block place c.args.at s c.args.self.now.nodes c.next.result e c.next.ensures.differ (returns-clause-next c block place h)

pub returns-clause-rest : goal.returns-clause-rest
returns-clause-rest c block is =
    let e = ap (λ (k : Kept). k.nodes) c.self.view_is in
    let s = spot c.self.inside.chains.lists (take c.self.inside.live c.self.inside.headings.items) c.args.self.now.nodes block is.0 c.args.at e is.1 in
    rest_spot c.self.inside.chains.lists (take c.self.inside.live c.self.inside.headings.items) block is.0 c.args.at s c.args.self.now c.next.result e (ap (λ (k : Kept). k.procedure.blocks) c.self.view_is) c.next.ensures.differ is.1 (returns-clause-next c block is.0 is.1)

pub returns-clause-there : goal.returns-clause-there
returns-clause-there c block is = some_at _ _ c.next.result (returns-clause-next c block is.0 is.1)
