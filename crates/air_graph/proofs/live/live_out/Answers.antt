use Rattle.std.proofs.Common.{◌≡◌, ℕ, List, take, arith, sym, ap, ◌∙◌, subst}
use Rattle.std.specs.Prelude.{Contains, filter_map}
use Rattle.std.proofs.lemmas.Grind.{common_steps}
use Rattle.std.proofs.lemmas.List.{take_all}
use Rattle.std.proofs.lemmas.List.Elements.{filter_map-append}
use Rattle.air_flow.specs.Flow.{flow_of}
use Rattle.air_graph.specs.Walk.{number_named, name_at}
use Rattle.air_graph.proofs.Numbers.{name_below, numbered_below, numbered_in}
use Rattle.air_graph.proofs.live.live_out.Goals as goal

pub loop-name-preserved : goal.loop-name-preserved
loop-name-preserved c = grind (arith, common_steps, filter_map-append)

pub returns-clause-below : goal.returns-clause-below
returns-clause-below c x i =
    numbered_below c.args.tmps (take c.loop-name.name-index c.as_slice-name-items.result.now) x (subst (λ (l : List ℕ). Contains l x) c.loop-name.invariant i)

pub returns-clause-live : goal.returns-clause-live
returns-clause-live c p is n lt =
    let all : List ℕ = c.in_ok-names.names in
    let list : c.loop-name.list ≡ filter_map (number_named c.args.tmps) all = c.loop-name.invariant
    ∙ ap (filter_map (number_named c.args.tmps))
    (take_all c.loop-name.name-index c.as_slice-name-items.result.now c.loop-name-test.false ∙ c.as_slice-name-items.ensures) in
    let here = numbered_in c.args.tmps all n lt in
    let name = c.in_ok-names.ensures.live (flow_of p) is (name_at c.args.tmps n) in
    let below = name_below c.args.tmps n lt in (
      λ i. (name.0 (here.0 (subst (λ (l : List ℕ). Contains l n) list i))).1,
      λ t. subst (λ (l : List ℕ). Contains l n) (sym list) (here.1 (name.1 (omega (arith, c.requires.names, below), t))),
    )
