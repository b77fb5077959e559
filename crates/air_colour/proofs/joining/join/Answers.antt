use Rattle.std.proofs.Common.{◌≡◌, ℕ, ◌&&◌, true, false, not, List, slice_index_or, arith, sym, ◌∙◌, subst}
use Rattle.std.specs.Prelude.{Contains}
use Rattle.std.proofs.lemmas.Bool.{false≢true}
use Rattle.air_graph.proofs.Adding.{filtered}
use Rattle.air_colour.specs.Kept.{JoinedTo, has}
use Rattle.air_colour.proofs.EdgeSteps.{joined_left}
use Rattle.air_colour.proofs.joining.join.Goals as goal

pub split-requires-clause-near : goal.split-requires-clause-near
split-requires-clause-near c x i = let lt = c.near.ensures.below x i in omega (arith, lt, c.requires.room.names)

pub add_edges-requires-clause-below : goal.add_edges-requires-clause-below
add_edges-requires-clause-below c x i =
    let kept = (filtered (λ y. slice_index_or c.args.left.now y false && not (has c.args.edges.now c.args.a y)) c.near.result.now x).0
    (subst (λ (l : List ℕ). Contains l x) (c.deref.ensures.value ∙ c.in_ok-near.ensures.fresh) i) in
    c.near.ensures.below x kept.0

pub add_edges-requires-clause-differ : goal.add_edges-requires-clause-differ
add_edges-requires-clause-differ c x i e =
    let kept = (filtered (λ y. slice_index_or c.args.left.now y false && not (has c.args.edges.now c.args.a y)) c.near.result.now x).0
    (subst (λ (l : List ℕ). Contains l x) (c.deref.ensures.value ∙ c.in_ok-near.ensures.fresh) i) in
    let t : has c.args.edges.now c.args.b x ≡ true = (c.near.ensures.is.all x).0 kept.0 in
    false≢true (sym c.requires.apart ∙ subst (λ (z : ℕ). has c.args.edges.now c.args.b z ≡ true) e t)

pub returns-clause-below : goal.returns-clause-below
returns-clause-below c x i =
    let kept = (filtered (λ y. slice_index_or c.args.left.now y false && has c.args.edges.now c.args.a y) c.near.result.now x).0
    (subst (λ (l : List ℕ). Contains l x) c.in_ok-near.ensures.both i) in
    let lt = c.near.ensures.below x kept.0 in
    omega (arith, lt, c.requires.room.names)

pub returns-clause-meets : goal.returns-clause-meets
returns-clause-meets c =
    joined_left c.args.edges.now c.add_edges.new.edges c.args.left.now c.args.a c.args.b c.near.result.now c.in_ok-near.near.fresh.items
    c.near.ensures.is.all c.in_ok-near.ensures.fresh
    (subst (λ (l : List ℕ). (y z : ℕ) → JoinedTo c.args.edges.now c.add_edges.new.edges c.args.a l y z) c.deref.ensures.value c.in_ok-add_edges.ensures.meets)
