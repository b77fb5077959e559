use Rattle.std.proofs.Common.{subst, ◌<◌, slice_index_or, set, length, take, ap, List, arith}
use Rattle.std.proofs.lemmas.List.Elements.{All-set}
use Rattle.std.specs.Prelude.{All}
use Rattle.std.proofs.lemmas.List.{length-set, length-map, length-take-le}
use Rattle.b3_ir.specs.Layout.{block_of}
use Rattle.b3_ir.specs.Procedure.{AllFit, Kept, Block, no_block}
use Rattle.b3_ir.proofs.Changes.{by_parts}
use Rattle.b3_ir.proofs.Fitting.{fit_of}
use Rattle.b3_ir.specs.Fits.{Fits}
use Rattle.b3_ir.proofs.Moves.{Moved, moved}
use Rattle.b3_ir.proofs.procedure.Proc.move_up.Goals as goal

step : (c : goal.After-self-2-1) → Moved c.self.inside.chains.lists c.self.inside.headings.items c.self.inside.live c.args.self.now c.args.from c.args.to c.index.result.now (record { number = c.args.number; line = c.index-heading.result.now.line; chain = c.index-heading.result.now.chain })
step c =
    let e = ap (λ (k : Kept). k.procedure.blocks) c.self.view_is in
    let size = length-map (take c.self.inside.live c.self.inside.headings.items) (block_of c.self.inside.chains.lists) in
    let live = length-take-le c.self.inside.live c.self.inside.headings.items c.self.invariant.held.fits in
    let lt : c.args.from < c.self.inside.live = omega (arith, size, live, ap (λ (l : List Block). length l) e, c.requires.from) in
    moved c.self.inside.chains.lists c.self.inside.headings.items c.self.inside.live c.self.invariant.held c.args.self.now c.args.from c.args.to c.args.number c.index-heading.result.now c.index.result.now e (ap (λ (k : Kept). k.nodes) c.self.view_is) c.index-heading.ensures c.index.ensures c.requires.to lt c.requires.number

-- the values so far fit
fits : (c : goal.After-self-2-1) → AllFit c.args.self.now.procedure.blocks
fits c = subst AllFit (ap (λ (k : Kept). k.procedure.blocks) c.self.view_is) c.self.invariant.fit

pub invariant_of-self : goal.invariant_of-self
invariant_of-self c =
    let blocks = c.args.self.now.procedure.blocks in
    let P : Block → Type 0 = λ (b : Block). All Fits b.values in
    let back = fit_of blocks c.args.to (fits c) in
    let moved = fit_of blocks c.args.from (fits c) in
    record {
      held = (step c).held;
      short = rw (length-set, length-set) c.self.invariant.short;
      few_slots = c.self.invariant.few_slots;
      fit = rw (step c).blocks (All-set P (set blocks c.args.from (slice_index_or blocks c.args.to no_block)) c.args.to (record (slice_index_or blocks c.args.from no_block) { number = c.args.to }) moved (All-set P blocks c.args.from (slice_index_or blocks c.args.to no_block) back (fits c)));
    }

pub returns-clause-procedure : goal.returns-clause-procedure
returns-clause-procedure c = by_parts _ _ _ _ _ _ _ (ap (λ (k : Kept). k.procedure) c.self.view_is) ((step c).blocks)

pub returns-clause-nodes : goal.returns-clause-nodes
returns-clause-nodes c = (step c).nodes
