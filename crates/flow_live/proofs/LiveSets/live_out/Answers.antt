use Rattle.std.proofs.Common.{◌≡◌, arith, ◌∙◌, sym, ap}
use Rattle.std.specs.FinSet as set
use Rattle.flow_live.specs.Liveness.{Liveness, out_of}
use Rattle.flow_live.proofs.Least.{out_row}
use Rattle.flow_live.proofs.LiveSets.live_out.Goals as goal

pub overflow_add-self-inside : goal.overflow_add-self-inside
overflow_add-self-inside c =
    let blocks = ap (λ (v : Liveness). v.blocks) c.self.view_is in
    let names = ap (λ (v : Liveness). v.names) c.self.view_is in
    record { fits = omega (arith, blocks, c.requires.block, c.self.invariant.few (omega (arith, blocks, c.requires.block)) (omega (arith, names, c.requires.name))) }

pub returns-clause-live : goal.returns-clause-live
returns-clause-live c g is =
    let w = c.self.inside in
    let block = c.args.block in
    let name = c.args.name in
    let blocks = ap (λ (v : Liveness). v.blocks) c.self.view_is in
    let value : c.has.result ≡ set.contains (out_of c.args.self.now block) name =
    c.has.ensures
    ∙ sym (ap (λ s. set.contains s name) (out_row w.blocks block w.rows.sets (omega (arith, blocks, c.requires.block))))
    ∙ ap (λ v. set.contains (out_of v block) name) c.self.view_is in
    let both = is.live_out block name (omega (arith, is.blocks, c.requires.block)) (omega (arith, is.names, c.requires.name)) in
    (λ t. both.0 (sym value ∙ t), λ live. value ∙ both.1 live)
