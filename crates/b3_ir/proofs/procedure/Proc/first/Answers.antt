use Rattle.std.proofs.Common.{◌≡◌, ◌<◌, ap, refl, take, length, arith, slice_get}
use Rattle.std.proofs.lemmas.List.{length-map, length-take-le}
use Rattle.std.proofs.lemmas.Option.{slice_get_read}
use Rattle.b3_ir.specs.Layout.{block_of}
use Rattle.b3_ir.specs.Procedure.{Kept, nodes_of, values_of, values_from}
use Rattle.b3_ir.proofs.Changes.{taken_back}
use Rattle.b3_ir.proofs.Spots.{some_at, first_block}
use Rattle.b3_ir.proofs.procedure.Proc.first.Goals as goal

step : (c : goal.After-first) → (c.first.result ≡ slice_get (nodes_of c.args.self.now c.args.block) 0) × (values_from c.args.self.now c.args.block c.first.result ≡ values_of c.args.self.now.procedure c.args.block)
step c =
    let count = ap (λ (k : Kept). length k.procedure.blocks) c.self.view_is in
    let whole = length-map (take c.self.inside.live c.self.inside.headings.items) (block_of c.self.inside.chains.lists) in
    let live = length-take-le c.self.inside.live c.self.inside.headings.items c.self.invariant.held.fits in
    let below : c.args.block < c.self.inside.live = omega (arith, count, whole, live, c.requires) in
    let fits = c.self.invariant.held.fits in
    let there = slice_get_read c.self.inside.headings.items (length c.self.inside.headings.items) c.args.block c.index-heading.result.now refl (omega (arith, below, fits)) c.index-heading.ensures in
    let there' = taken_back c.self.inside.headings.items c.self.inside.live c.args.block c.index-heading.result.now there below in
    first_block c.self.inside.chains.lists (take c.self.inside.live c.self.inside.headings.items) c.args.block c.index-heading.result.now there' c.args.self.now c.first.result (ap (λ (k : Kept). k.nodes) c.self.view_is) (ap (λ (k : Kept). k.procedure.blocks) c.self.view_is) c.first.ensures.differ c.first.ensures.first

pub returns-clause-rest : goal.returns-clause-rest
returns-clause-rest c = (step c).1

pub returns-clause-there : goal.returns-clause-there
returns-clause-there c = some_at _ _ c.first.result (step c).0
