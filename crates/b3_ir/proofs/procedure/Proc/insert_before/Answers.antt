use Rattle.std.proofs.Common.{subst, take, ℕ, ap, ◌∙◌, insert}
use Rattle.b3_ir.specs.Procedure.{AllFit, Kept, IsAt, values_of, nodes_of}
use Rattle.b3_ir.proofs.Spots.{spot, has_spot, within_spot, read}
use Rattle.b3_ir.proofs.Changes.{Done, insert_done, done_sound, by_parts, taken}
use Rattle.b3_ir.proofs.Fitting.{All-insert, fit_of}
use Rattle.b3_ir.specs.Fits.{Fits}
use Rattle.b3_ir.specs.Procedure.{total}
use Rattle.b3_ir.proofs.Counts.{total_insert}
use Rattle.b3_ir.proofs.procedure.Proc.insert_before.Goals as goal

pub before-before-requires : goal.before-before-requires
before-before-requires c =
    let s = spot c.self.inside.chains.lists (take c.self.inside.live c.self.inside.headings.items) c.args.self.now.nodes c.args.block c.requires.at.0 c.args.at (ap (λ (k : Kept). k.nodes) c.self.view_is) c.requires.at.1 in
    (s.b.chain, has_spot c.self.inside.chains.lists (take c.self.inside.live c.self.inside.headings.items) c.args.block c.requires.at.0 c.args.at s)

-- the block that is read is the node's
pub insert_after-requires-clause-after : goal.insert_after-requires-clause-after
insert_after-requires-clause-after c x is =
    let s = spot c.self.inside.chains.lists (take c.self.inside.live c.self.inside.headings.items) c.args.self.now.nodes c.args.block c.requires.at.0 c.args.at (ap (λ (k : Kept). k.nodes) c.self.view_is) c.requires.at.1 in
    let b = read c.self.inside.headings.items c.args.block s.b c.index-heading.result.now (taken c.self.inside.headings.items c.self.inside.live c.args.block s.b s.there).0 c.index-heading.ensures in
    let has = has_spot c.self.inside.chains.lists (take c.self.inside.live c.self.inside.headings.items) c.args.block c.requires.at.0 c.args.at s in
    let found = rw is at (c.before-before.ensures.found s.b.chain has) in
    rw b found

pub insert_after-requires-clause-chain : goal.insert_after-requires-clause-chain
insert_after-requires-clause-chain c =
    let s = spot c.self.inside.chains.lists (take c.self.inside.live c.self.inside.headings.items) c.args.self.now.nodes c.args.block c.requires.at.0 c.args.at (ap (λ (k : Kept). k.nodes) c.self.view_is) c.requires.at.1 in
    let there = (taken c.self.inside.headings.items c.self.inside.live c.args.block s.b s.there).0 in
    let b = read c.self.inside.headings.items c.args.block s.b c.index-heading.result.now there c.index-heading.ensures in
    rw b (c.self.invariant.held.within c.args.block s.b there)

step : (c : goal.After-insert_after) (place : ℕ) → IsAt c.args.self.now c.args.at c.args.block place → Done c.insert_after.new.self.lists c.self.inside.headings.items c.self.inside.live c.args.self.now c.args.block (insert (values_of c.args.self.now.procedure c.args.block) place c.args.value) (insert (nodes_of c.args.self.now c.args.block) place c.insert_after.result)
step c place h =
    let e = ap (λ (k : Kept). k.nodes) c.self.view_is in
    let s = spot c.self.inside.chains.lists (take c.self.inside.live c.self.inside.headings.items) c.args.self.now.nodes c.args.block place c.args.at e h in
    let b = read c.self.inside.headings.items c.args.block s.b c.index-heading.result.now (taken c.self.inside.headings.items c.self.inside.live c.args.block s.b s.there).0 c.index-heading.ensures in
    let has = has_spot c.self.inside.chains.lists (take c.self.inside.live c.self.inside.headings.items) c.args.block place c.args.at s in
    let made = rw b at c.insert_after.ensures.lists in
    insert_done c.self.inside.chains.lists c.self.inside.headings.items c.self.inside.live c.self.invariant.held c.args.self.now (ap (λ (k : Kept). k.procedure.blocks) c.self.view_is) e c.before-before.ensures.differ c.args.block s.b s.there place c.args.at h c.insert_after.new.self.lists c.insert_after.result c.args.value c.before-before.result (c.before-before.ensures.before s.b.chain has) made

-- the values so far fit
fits : (c : goal.After-insert_after) → AllFit c.args.self.now.procedure.blocks
fits c = subst AllFit (ap (λ (k : Kept). k.procedure.blocks) c.self.view_is) c.self.invariant.fit

pub invariant_of-self : goal.invariant_of-self
invariant_of-self c = done_sound _ _ _ _ _ _ _ _ (step c c.requires.at.0 c.requires.at.1) c.self.invariant.short c.self.invariant.few_slots (fits c) (All-insert Fits (values_of c.args.self.now.procedure c.args.block) c.requires.at.0 c.args.value c.requires.fits (fit_of c.args.self.now.procedure.blocks c.args.block (fits c)))

pub returns-clause-fresh : goal.returns-clause-fresh
returns-clause-fresh c n =
    let s = spot c.self.inside.chains.lists (take c.self.inside.live c.self.inside.headings.items) c.args.self.now.nodes n.0 n.1 c.insert_after.result (ap (λ (k : Kept). k.nodes) c.self.view_is) n.2 in
    c.insert_after.ensures.fresh (s.b.chain, has_spot c.self.inside.chains.lists (take c.self.inside.live c.self.inside.headings.items) n.0 n.1 c.insert_after.result s)

pub returns-clause-procedure : goal.returns-clause-procedure
returns-clause-procedure c place h = by_parts _ _ _ _ _ _ _ (ap (λ (k : Kept). k.procedure) c.self.view_is) (step c place h).blocks

pub returns-clause-nodes : goal.returns-clause-nodes
returns-clause-nodes c place h = (step c place h).nodes

pub returns-clause-count : goal.returns-clause-count
returns-clause-count c =
    let s = spot c.self.inside.chains.lists (take c.self.inside.live c.self.inside.headings.items) c.args.self.now.nodes c.args.block c.requires.at.0 c.args.at (ap (λ (k : Kept). k.nodes) c.self.view_is) c.requires.at.1 in
    let within = within_spot c.self.inside.chains.lists (take c.self.inside.live c.self.inside.headings.items) c.args.block c.requires.at.0 c.args.at s c.args.self.now.procedure (ap (λ (k : Kept). k.procedure.blocks) c.self.view_is) in
    ap total (returns-clause-procedure c c.requires.at.0 c.requires.at.1) ∙ total_insert c.args.self.now.procedure c.args.block within.0 c.requires.at.0 within.1 c.args.value
