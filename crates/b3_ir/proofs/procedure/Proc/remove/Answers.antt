use Rattle.std.proofs.Common.{subst, take, ℕ, ap, ◌∙◌, remove}
use Rattle.b3_ir.specs.Procedure.{AllFit, Kept, IsAt, values_of, nodes_of}
use Rattle.b3_ir.proofs.Spots.{spot, has_spot, within_spot, value_spot}
use Rattle.b3_ir.proofs.Changes.{Done, remove_done, done_sound, by_parts}
use Rattle.b3_ir.proofs.Fitting.{All-remove, fit_of}
use Rattle.b3_ir.specs.Fits.{Fits}
use Rattle.std.proofs.Common.{◌+◌}
use Rattle.b3_ir.specs.Procedure.{Procedure, total}
use Rattle.b3_ir.proofs.Counts.{total_remove}
use Rattle.b3_ir.proofs.procedure.Proc.remove.Goals as goal

pub remove-requires : goal.remove-requires
remove-requires c =
    let s = spot c.self.inside.chains.lists (take c.self.inside.live c.self.inside.headings.items) c.args.self.now.nodes c.requires.0 c.requires.1 c.args.at (ap (λ (k : Kept). k.nodes) c.self.view_is) c.requires.2 in
    (s.b.chain, has_spot c.self.inside.chains.lists (take c.self.inside.live c.self.inside.headings.items) c.requires.0 c.requires.1 c.args.at s)

step : (c : goal.After-remove) (block place : ℕ) → IsAt c.args.self.now c.args.at block place → Done c.remove.new.self.lists c.self.inside.headings.items c.self.inside.live c.args.self.now block (remove (values_of c.args.self.now.procedure block) place) (remove (nodes_of c.args.self.now block) place)
step c block place h =
    let e = ap (λ (k : Kept). k.nodes) c.self.view_is in
    let s = spot c.self.inside.chains.lists (take c.self.inside.live c.self.inside.headings.items) c.args.self.now.nodes block place c.args.at e h in
    remove_done c.self.inside.chains.lists c.self.inside.headings.items c.self.inside.live c.self.invariant.held c.args.self.now (ap (λ (k : Kept). k.procedure.blocks) c.self.view_is) e c.ids_differ.ensures.differ block s.b s.there place c.args.at h c.remove.new.self.lists c.remove.ensures.lists

-- the values so far fit
fits : (c : goal.After-remove) → AllFit c.args.self.now.procedure.blocks
fits c = subst AllFit (ap (λ (k : Kept). k.procedure.blocks) c.self.view_is) c.self.invariant.fit

pub invariant_of-self : goal.invariant_of-self
invariant_of-self c = done_sound _ _ _ _ _ _ _ _ (step c c.requires.0 c.requires.1 c.requires.2) c.self.invariant.short c.self.invariant.few_slots (fits c) (All-remove Fits (values_of c.args.self.now.procedure c.requires.0) c.requires.1 (fit_of c.args.self.now.procedure.blocks c.requires.0 (fits c)))

pub returns-clause-was : goal.returns-clause-was
returns-clause-was c block place h =
    let s = spot c.self.inside.chains.lists (take c.self.inside.live c.self.inside.headings.items) c.args.self.now.nodes block place c.args.at (ap (λ (k : Kept). k.nodes) c.self.view_is) h in
    value_spot c.self.inside.chains.lists (take c.self.inside.live c.self.inside.headings.items) block place c.args.at s c.args.self.now.procedure.blocks c.remove.result (ap (λ (k : Kept). k.procedure.blocks) c.self.view_is) c.ids_differ.ensures.differ c.remove.ensures.item

pub returns-clause-procedure : goal.returns-clause-procedure
returns-clause-procedure c block place h = by_parts _ _ _ _ _ _ _ (ap (λ (k : Kept). k.procedure) c.self.view_is) (step c block place h).blocks

pub returns-clause-nodes : goal.returns-clause-nodes
returns-clause-nodes c block place h = (step c block place h).nodes

pub returns-clause-count : goal.returns-clause-count
returns-clause-count c =
    let s = spot c.self.inside.chains.lists (take c.self.inside.live c.self.inside.headings.items) c.args.self.now.nodes c.requires.0 c.requires.1 c.args.at (ap (λ (k : Kept). k.nodes) c.self.view_is) c.requires.2 in
    let within = within_spot c.self.inside.chains.lists (take c.self.inside.live c.self.inside.headings.items) c.requires.0 c.requires.1 c.args.at s c.args.self.now.procedure (ap (λ (k : Kept). k.procedure.blocks) c.self.view_is) in
    ap (λ (p : Procedure). total p + 1) (returns-clause-procedure c c.requires.0 c.requires.1 c.requires.2) ∙ total_remove c.args.self.now.procedure c.requires.0 within.0 c.requires.1 within.1
