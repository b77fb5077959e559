use Rattle.std.proofs.Common.{subst, take, ℕ, ap, ◌∙◌, set, map, []}
use Rattle.std.proofs.lemmas.List.{set-get_or}
use Rattle.std.proofs.lemmas.List.Elements.{All-set}
use Rattle.ir_arena.specs.Chains.{with_item}
use Rattle.b3_ir.specs.Procedure.{AllFit, Kept, IsAt, values_of, nodes_of}
use Rattle.b3_ir.proofs.Spots.{spot, has_spot, within_spot, value_spot}
use Rattle.b3_ir.proofs.Changes.{Done, replace_done, done_sound, by_parts}
use Rattle.b3_ir.proofs.Fitting.{fit_of}
use Rattle.b3_ir.specs.Fits.{Fits}
use Rattle.b3_ir.specs.Procedure.{total}
use Rattle.b3_ir.proofs.Counts.{total_replace}
use Rattle.b3_ir.proofs.procedure.Proc.replace.Goals as goal

pub get_mut-requires : goal.get_mut-requires
get_mut-requires c =
    let s = spot c.self.inside.chains.lists (take c.self.inside.live c.self.inside.headings.items) c.args.self.now.nodes c.requires.at.0 c.requires.at.1 c.args.at (ap (λ (k : Kept). k.nodes) c.self.view_is) c.requires.at.2 in
    (s.b.chain, has_spot c.self.inside.chains.lists (take c.self.inside.live c.self.inside.headings.items) c.requires.at.0 c.requires.at.1 c.args.at s)

step : (c : goal.After-self-1) (block place : ℕ) → IsAt c.args.self.now c.args.at block place → Done (map (with_item c.args.at c.replace.new.dest) c.self.inside.chains.lists) c.self.inside.headings.items c.self.inside.live c.args.self.now block (set (values_of c.args.self.now.procedure block) place c.args.value) (nodes_of c.args.self.now block)
step c block place h =
    let e = ap (λ (k : Kept). k.nodes) c.self.view_is in
    let s = spot c.self.inside.chains.lists (take c.self.inside.live c.self.inside.headings.items) c.args.self.now.nodes block place c.args.at e h in
    rw c.replace.ensures.after (replace_done c.self.inside.chains.lists c.self.inside.headings.items c.self.inside.live c.self.invariant.held c.args.self.now (ap (λ (k : Kept). k.procedure.blocks) c.self.view_is) e c.ids_differ.ensures.differ block s.b s.there place c.args.at h c.args.value)

-- the values so far fit
fits : (c : goal.After-self-1) → AllFit c.args.self.now.procedure.blocks
fits c = subst AllFit (ap (λ (k : Kept). k.procedure.blocks) c.self.view_is) c.self.invariant.fit

pub invariant_of-self : goal.invariant_of-self
invariant_of-self c = done_sound _ _ _ _ _ _ _ _ (step c c.requires.at.0 c.requires.at.1 c.requires.at.2) c.self.invariant.short c.self.invariant.few_slots (fits c) (All-set Fits (values_of c.args.self.now.procedure c.requires.at.0) c.requires.at.1 c.args.value c.requires.fits (fit_of c.args.self.now.procedure.blocks c.requires.at.0 (fits c)))

pub returns-clause-was : goal.returns-clause-was
returns-clause-was c block place h =
    let s = spot c.self.inside.chains.lists (take c.self.inside.live c.self.inside.headings.items) c.args.self.now.nodes block place c.args.at (ap (λ (k : Kept). k.nodes) c.self.view_is) h in
    let value = value_spot c.self.inside.chains.lists (take c.self.inside.live c.self.inside.headings.items) block place c.args.at s c.args.self.now.procedure.blocks c.get_mut.result.now (ap (λ (k : Kept). k.procedure.blocks) c.self.view_is) c.ids_differ.ensures.differ c.get_mut.ensures.item in
    rw c.replace.ensures.value value

pub returns-clause-procedure : goal.returns-clause-procedure
returns-clause-procedure c block place h = by_parts _ _ _ _ _ _ _ (ap (λ (k : Kept). k.procedure) c.self.view_is) (step c block place h).blocks

pub returns-clause-nodes : goal.returns-clause-nodes
returns-clause-nodes c = (step c c.requires.at.0 c.requires.at.1 c.requires.at.2).nodes ∙ set-get_or c.args.self.now.nodes c.requires.at.0 []

pub returns-clause-count : goal.returns-clause-count
returns-clause-count c =
    let s = spot c.self.inside.chains.lists (take c.self.inside.live c.self.inside.headings.items) c.args.self.now.nodes c.requires.at.0 c.requires.at.1 c.args.at (ap (λ (k : Kept). k.nodes) c.self.view_is) c.requires.at.2 in
    let within = within_spot c.self.inside.chains.lists (take c.self.inside.live c.self.inside.headings.items) c.requires.at.0 c.requires.at.1 c.args.at s c.args.self.now.procedure (ap (λ (k : Kept). k.procedure.blocks) c.self.view_is) in
    ap total (returns-clause-procedure c c.requires.at.0 c.requires.at.1 c.requires.at.2) ∙ total_replace c.args.self.now.procedure c.requires.at.0 within.0 c.requires.at.1 c.args.value
