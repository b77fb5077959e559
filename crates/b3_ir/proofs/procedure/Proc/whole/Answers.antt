use Rattle.std.proofs.Common.{◌+◌, ◌<◌, length, take, ◌≤◌, ◌^◌, ap, arith}
use Rattle.std.proofs.lemmas.List.{length-take-le}
use Rattle.ir_arena.specs.Chains.{in_use}
use Rattle.b3_ir.specs.Procedure.{Kept}
use Rattle.b3_ir.proofs.Spots.{whole}
use Rattle.b3_ir.proofs.procedure.Proc.whole.Goals as goal

pub returns : goal.returns
returns c =
    let few : in_use c.self.inside.chains.lists + c.args.self.now.spare ≤ 2 ^ 32 = let h = c.ids_differ.ensures.few in let spare = ap (λ (k : Kept). k.spare) c.self.view_is in omega (arith, h, spare) in
    let slots : length c.args.self.now.procedure.slots < 2 ^ 32 = let h = c.self.invariant.few_slots in let same = ap (λ (k : Kept). length k.procedure.slots) c.self.view_is in omega (arith, h, same) in
    let short : length (take c.self.inside.live c.self.inside.headings.items) < 2 ^ 32 =
    let live = length-take-le c.self.inside.live c.self.inside.headings.items c.self.invariant.held.fits in
    let fits = c.self.invariant.held.fits in
    let short = c.self.invariant.short in
    omega (arith, live) in
    whole c.self.inside.chains.lists (take c.self.inside.live c.self.inside.headings.items) c.self.invariant.held.kept c.args.self.now (ap (λ (k : Kept). k.procedure.blocks) c.self.view_is) (ap (λ (k : Kept). k.nodes) c.self.view_is) c.ids_differ.ensures.differ few short slots c.self.invariant.fit
