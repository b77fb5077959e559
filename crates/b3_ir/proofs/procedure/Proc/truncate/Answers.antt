use Rattle.std.proofs.Common.{◌≤◌, ℕ, length, take, ap, ◌∙◌, List, arith, slice_index_or}
use Rattle.std.proofs.lemmas.List.{length-map, length-take-le}
use Rattle.std.proofs.lemmas.List.Elements.{All-take}
use Rattle.std.specs.Prelude.{All}
use Rattle.b3_ir.specs.Fits.{Fits}
use Rattle.b3_ir.specs.Layout.{block_of, ids_of}
use Rattle.b3_ir.specs.Procedure.{Kept, Block, no_block}
use Rattle.b3_ir.proofs.Changes.{by_parts}
use Rattle.b3_ir.proofs.Moves.{held_fewer, map_taken}
use Rattle.b3_ir.proofs.procedure.Proc.truncate.Goals as goal

pub invariant_of-self : goal.invariant_of-self
invariant_of-self c =
    let e = ap (λ (k : Kept). k.procedure.blocks) c.self.view_is in
    let size = length-map (take c.self.inside.live c.self.inside.headings.items) (block_of c.self.inside.chains.lists) in
    let live = length-take-le c.self.inside.live c.self.inside.headings.items c.self.invariant.held.fits in
    let le : c.args.live ≤ c.self.inside.live = omega (arith, size, live, ap (λ (l : List Block). length l) e, c.requires.live) in
    record {
      held = held_fewer c.self.inside.chains.lists c.self.inside.headings.items c.self.inside.live c.self.invariant.held c.args.live le (λ k past. ap (λ (l : List Block). (slice_index_or l k no_block).values) e ∙ c.requires.empty k past);
      short = c.self.invariant.short;
      few_slots = c.self.invariant.few_slots;
      fit = rw (map_taken (block_of c.self.inside.chains.lists) c.self.inside.headings.items c.args.live c.self.inside.live le) (All-take (λ (b : Block). All Fits b.values) c.args.live _ c.self.invariant.fit);
    }

pub returns-clause-procedure : goal.returns-clause-procedure
returns-clause-procedure c =
    let e = ap (λ (k : Kept). k.procedure.blocks) c.self.view_is in
    let size = length-map (take c.self.inside.live c.self.inside.headings.items) (block_of c.self.inside.chains.lists) in
    let live = length-take-le c.self.inside.live c.self.inside.headings.items c.self.invariant.held.fits in
    let le : c.args.live ≤ c.self.inside.live = omega (arith, size, live, ap (λ (l : List Block). length l) e, c.requires.live) in
    by_parts _ _ _ _ _ _ _ (ap (λ (k : Kept). k.procedure) c.self.view_is) (map_taken (block_of c.self.inside.chains.lists) c.self.inside.headings.items c.args.live c.self.inside.live le ∙ ap (λ (l : List Block). take c.args.live l) e)

pub returns-clause-nodes : goal.returns-clause-nodes
returns-clause-nodes c =
    let e = ap (λ (k : Kept). k.procedure.blocks) c.self.view_is in
    let size = length-map (take c.self.inside.live c.self.inside.headings.items) (block_of c.self.inside.chains.lists) in
    let live = length-take-le c.self.inside.live c.self.inside.headings.items c.self.invariant.held.fits in
    let le : c.args.live ≤ c.self.inside.live = omega (arith, size, live, ap (λ (l : List Block). length l) e, c.requires.live) in
    map_taken (ids_of c.self.inside.chains.lists) c.self.inside.headings.items c.args.live c.self.inside.live le ∙ ap (λ (l : List (List ℕ)). take c.args.live l) (ap (λ (k : Kept). k.nodes) c.self.view_is)
