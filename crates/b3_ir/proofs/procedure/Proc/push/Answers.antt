use Rattle.std.proofs.Common.{subst, take, ◌<◌, ap, ◌∙◌, refl, length, arith, ◌++◌, ◌∷◌, []}
use Rattle.std.proofs.lemmas.List.{length-map, length-take-le}
use Rattle.std.proofs.lemmas.Option.{slice_get_read}
use Rattle.b3_ir.specs.Procedure.{AllFit, Kept, IsNode, values_of, nodes_of}
use Rattle.b3_ir.specs.Layout.{block_of}
use Rattle.b3_ir.proofs.Spots.{spot, has_spot}
use Rattle.b3_ir.proofs.Changes.{Done, push_done, done_sound, by_parts, taken_back}
use Rattle.b3_ir.proofs.Fitting.{All-push, fit_of}
use Rattle.b3_ir.specs.Fits.{Fits}
use Rattle.b3_ir.specs.Procedure.{total}
use Rattle.b3_ir.proofs.Counts.{total_push}
use Rattle.b3_ir.proofs.procedure.Proc.push.Goals as goal

step : (c : goal.After-insert_after) → Done c.insert_after.new.self.lists c.self.inside.headings.items c.self.inside.live c.args.self.now c.args.block (values_of c.args.self.now.procedure c.args.block ++ c.args.value ∷ []) (nodes_of c.args.self.now c.args.block ++ c.insert_after.result ∷ [])
step c =
    let lists = c.in_ok-reserve.ensures.lists in
    let count = ap (λ (k : Kept). length k.procedure.blocks) c.self.view_is in
    let whole = length-map (take c.self.inside.live c.self.inside.headings.items) (block_of c.self.inside.chains.lists) in
    let live = length-take-le c.self.inside.live c.self.inside.headings.items c.self.invariant.held.fits in
    let below : c.args.block < c.self.inside.live = omega (arith, count, whole, live, c.requires.in_blocks) in
    let fits = c.self.invariant.held.fits in
    let there = slice_get_read c.self.inside.headings.items (length c.self.inside.headings.items) c.args.block c.index-heading.result.now refl (omega (arith, below, fits)) c.index-heading.ensures in
    let there' = taken_back c.self.inside.headings.items c.self.inside.live c.args.block c.index-heading.result.now there below in
    let last = rw lists at c.last-last.ensures.last in
    let made = rw lists at c.insert_after.ensures.lists in
    let differ = rw lists at c.last-last.ensures.differ in
    push_done c.self.inside.chains.lists c.self.inside.headings.items c.self.inside.live c.self.invariant.held c.args.self.now (ap (λ (k : Kept). k.procedure.blocks) c.self.view_is) (ap (λ (k : Kept). k.nodes) c.self.view_is) differ c.args.block c.index-heading.result.now there' c.insert_after.new.self.lists c.insert_after.result c.args.value c.last-last.result last made

-- the values so far fit
fits : (c : goal.After-insert_after) → AllFit c.args.self.now.procedure.blocks
fits c = subst AllFit (ap (λ (k : Kept). k.procedure.blocks) c.self.view_is) c.self.invariant.fit

pub invariant_of-self-2 : goal.invariant_of-self-2
invariant_of-self-2 c = done_sound _ _ _ _ _ _ _ _ (step c) c.self.invariant.short c.self.invariant.few_slots (fits c) (All-push Fits (values_of c.args.self.now.procedure c.args.block) c.args.value c.requires.fits (fit_of c.args.self.now.procedure.blocks c.args.block (fits c)))

pub returns-clause-ok : goal.returns-clause-ok
returns-clause-ok c = by_parts _ _ _ _ _ _ _ (ap (λ (k : Kept). k.procedure) c.self.view_is) (step c).blocks

pub returns-clause-nodes : goal.returns-clause-nodes
returns-clause-nodes c =
    let e = ap (λ (k : Kept). k.nodes) c.self.view_is in
    let fresh : IsNode c.args.self.now c.insert_after.result → ⊥ = λ n.
    let s = spot c.self.inside.chains.lists (take c.self.inside.live c.self.inside.headings.items) c.args.self.now.nodes n.0 n.1 c.insert_after.result e n.2 in
    c.insert_after.ensures.fresh (rw c.in_ok-reserve.ensures.lists (s.b.chain, has_spot c.self.inside.chains.lists (take c.self.inside.live c.self.inside.headings.items) n.0 n.1 c.insert_after.result s)) in
    (c.insert_after.result, fresh, (step c).nodes)

pub returns-clause-count : goal.returns-clause-count
returns-clause-count c = ap total (returns-clause-ok c) ∙ total_push c.args.self.now.procedure c.args.block c.requires.in_blocks c.args.value
