use Rattle.std.proofs.Common.{◌≡◌, ◌≤◌, Some, ◌∙◌, ap, arith, length, subst, sym}
use Rattle.std.specs.Prelude.{All, slice_get}
use Rattle.std.specs.Option.{option_map}
use Rattle.std.proofs.lemmas.List.{length-map, take_all}
use Rattle.std.proofs.lemmas.List.Elements.{All-more}
use Rattle.std.proofs.lemmas.Option.{get_or_from_slice_get, slice_get-map, slice_get_within}
use Rattle.b3_ir.specs.Procedure.{AllFit, Kept, Procedure, procedures}
use Rattle.a64_object.proofs.object.all_fit.Goals as goal

abbrev Fits : Procedure → Type 0
Fits p = AllFit p.blocks

pub loop-at-preserved : goal.loop-at-preserved
loop-at-preserved c =
    let ps = procedures c.args.module_.now in
    let at = c.loop-at.at in
    let k = c.proc.result.now in
    let there : slice_get ps at ≡ Some k.procedure =
    slice_get-map (λ (m : Kept). m.procedure) c.args.module_.now at ∙ ap (option_map (λ (m : Kept). m.procedure)) c.proc.ensures in
    All-more Fits ps at k.procedure (slice_get_within ps at k.procedure there) c.loop-at.invariant
    (subst Fits (sym (get_or_from_slice_get ps at k.procedure k.procedure there)) c.whole.ensures.fit)

pub returns : goal.returns
returns c =
    let ps = procedures c.args.module_.now in
    let past : length ps ≤ c.loop-at.at = omega (arith, c.procs-at-end.ensures, length-map c.args.module_.now (λ (m : Kept). m.procedure)) in
    subst (All Fits) (take_all c.loop-at.at ps past) c.loop-at.invariant
