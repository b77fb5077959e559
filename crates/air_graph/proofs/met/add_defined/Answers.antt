use Rattle.std.proofs.Common.{◌≡◌, ℕ, ◌+◌, List, length, take, ◌⊎◌, arith, get_or, sym, ap, ◌∙◌, subst}
use Rattle.std.specs.Prelude.{Contains}
use Rattle.std.proofs.Math.Seq.{take-length}
use Rattle.std.proofs.lemmas.List.Elements.{Contains-get_or}
use Rattle.air_graph.specs.Walk.{Adds, AreBelow, IsMet}
use Rattle.air_graph.proofs.Adding.{FromTo}
use Rattle.air_graph.proofs.Meeting.{defined_step, met_below}
use Rattle.air_graph.proofs.met.add_defined.Goals as goal

pub met_by-requires-clause-x : goal.met_by-requires-clause-x
met_by-requires-clause-x c =
    c.requires.defined (get_or c.args.defined.now c.loop-x.x-index 0) (Contains-get_or c.args.defined.now c.loop-x.x-index 0 c.loop-x-test.true)

pub add_all-requires-clause-x : goal.add_all-requires-clause-x
add_all-requires-clause-x c =
    let lt = c.requires.defined (get_or c.args.defined.now c.loop-x.x-index 0) (Contains-get_or c.args.defined.now c.loop-x.x-index 0 c.loop-x-test.true) in
    let names = c.loop-x.invariant.names in
    let sized = c.requires.sized in
    omega (arith, lt, names, sized)

pub add_all-requires-clause-met : goal.add_all-requires-clause-met
add_all-requires-clause-met c y i =
    let met = (c.in_ok-met.ensures y).0 (subst (λ (l : List ℕ). Contains l y) c.as_slice.ensures i) in
    let lt = met_below c.args.tmps c.args.t.now c.args.live.now (get_or c.args.defined.now c.loop-x.x-index 0) c.requires.live c.requires.used c.requires.late
    (subst (λ (l : List ℕ). AreBelow (c.args.tmps + 25) l) (sym c.requires.all) c.requires.defined) y met in
    let names = c.loop-x.invariant.names in
    let sized = c.requires.sized in
    omega (arith, lt, names, sized)

pub loop-x-preserved : goal.loop-x-preserved
loop-x-preserved c =
    let n : c.loop-x.edges.names ≡ c.args.tmps + 25 = c.loop-x.invariant.names ∙ c.requires.sized in
    record {
      names = c.add_all.ensures.names ∙ c.loop-x.invariant.names;
      edges = defined_step c.args.tmps c.args.t.now c.args.live.now c.args.defined.now (c.args.tmps + 25) c.args.edges.now c.loop-x.edges c.add_all.new.edges
          c.loop-x.x-index c.in_ok-met.met c.loop-x-test.true c.in_ok-met.ensures c.loop-x.invariant.edges
          (subst (λ (l : List ℕ). Adds (c.args.tmps + 25) c.loop-x.edges c.add_all.new.edges (FromTo
          (get_or c.args.defined.now c.loop-x.x-index 0) l)) c.as_slice.ensures
          (subst (λ (k : ℕ). Adds k c.loop-x.edges c.add_all.new.edges (FromTo (get_or c.args.defined.now c.loop-x.x-index 0) c.as_slice.result.now)) n
          c.in_ok-add_all.ensures.edges));
    }

pub returns-clause-edges : goal.returns-clause-edges
returns-clause-edges c =
    let end : c.loop-x.x-index ≡ length c.args.defined.now = omega (arith, c.loop-x-test.false, c.loop-x.auto.x-index-end) in
    let all : take c.loop-x.x-index c.args.defined.now ≡ c.args.defined.now =
    ap (λ (k : ℕ). take k c.args.defined.now) end ∙ take-length c.args.defined.now in
    subst (λ (l : List ℕ). Adds (c.args.tmps + 25) c.args.edges.now c.loop-x.edges
    (λ a b. (Contains l a × IsMet c.args.tmps c.args.t.now c.args.live.now a b) ⊎ (Contains l b × IsMet c.args.tmps c.args.t.now c.args.live.now b a)))
    all c.loop-x.invariant.edges
