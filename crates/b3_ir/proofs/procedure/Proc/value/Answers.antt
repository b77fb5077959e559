use Rattle.std.proofs.Common.{subst, take, ap}
use Rattle.b3_ir.specs.Procedure.{AllFit, Kept}
use Rattle.b3_ir.proofs.Fitting.{fit_at}
use Rattle.b3_ir.proofs.Spots.{spot, has_spot, value_spot, head_spot}
use Rattle.b3_ir.proofs.procedure.Proc.value.Goals as goal

pub get-requires : goal.get-requires
get-requires c =
    let s = spot c.self.inside.chains.lists (take c.self.inside.live c.self.inside.headings.items) c.args.self.now.nodes c.requires.0 c.requires.1 c.args.at (ap (λ (k : Kept). k.nodes) c.self.view_is) c.requires.2 in
    (s.b.chain, has_spot c.self.inside.chains.lists (take c.self.inside.live c.self.inside.headings.items) c.requires.0 c.requires.1 c.args.at s)

pub returns-clause-value : goal.returns-clause-value
returns-clause-value c block place h =
    let s = spot c.self.inside.chains.lists (take c.self.inside.live c.self.inside.headings.items) c.args.self.now.nodes block place c.args.at (ap (λ (k : Kept). k.nodes) c.self.view_is) h in
    value_spot c.self.inside.chains.lists (take c.self.inside.live c.self.inside.headings.items) block place c.args.at s c.args.self.now.procedure.blocks c.get.result.now (ap (λ (k : Kept). k.procedure.blocks) c.self.view_is) c.get.ensures.differ c.get.ensures.item

pub returns-clause-head : goal.returns-clause-head
returns-clause-head c block is =
    let s = spot c.self.inside.chains.lists (take c.self.inside.live c.self.inside.headings.items) c.args.self.now.nodes block is.0 c.args.at (ap (λ (k : Kept). k.nodes) c.self.view_is) is.1 in
    head_spot c.self.inside.chains.lists (take c.self.inside.live c.self.inside.headings.items) block is.0 c.args.at s c.args.self.now c.get.result.now (ap (λ (k : Kept). k.nodes) c.self.view_is) (ap (λ (k : Kept). k.procedure.blocks) c.self.view_is) c.get.ensures.differ is.1 (returns-clause-value c block is.0 is.1)

pub returns-clause-fits : goal.returns-clause-fits
returns-clause-fits c = fit_at c.args.self.now.procedure.blocks c.requires.0 c.requires.1 c.get.result.now (subst AllFit (ap (λ (k : Kept). k.procedure.blocks) c.self.view_is) c.self.invariant.fit) (returns-clause-value c c.requires.0 c.requires.1 c.requires.2)
