use Rattle.std.proofs.Common.{◌≡◌, ℕ, get_or, length, List, take, arith, refl, sym, ap, ◌∙◌, subst}
use Rattle.std.proofs.Math.Seq.{take-length}
use Rattle.std.proofs.lemmas.List.Elements.{Contains-get_or}
use Rattle.air_colour.specs.Kept.{JoinedTo}
use Rattle.air_colour.proofs.EdgeSteps.{joined_more, none_joined_to}
use Rattle.air_colour.proofs.joining.add_edges.Goals as goal

pub loop-x-init : goal.loop-x-init
loop-x-init c = record { names = refl; meets = λ y z. none_joined_to c.args.edges.now c.args.a c.args.near.now y z }

pub add-requires-clause-j : goal.add-requires-clause-j
add-requires-clause-j c =
    let lt = c.requires.below (get_or c.args.near.now c.loop-x.x-index 0) (Contains-get_or c.args.near.now c.loop-x.x-index 0 c.loop-x-test.true) in
    omega (arith, lt, c.loop-x.invariant.names)

pub add-requires-clause-differ : goal.add-requires-clause-differ
add-requires-clause-differ c e =
    c.requires.differ (get_or c.args.near.now c.loop-x.x-index 0) (Contains-get_or c.args.near.now c.loop-x.x-index 0 c.loop-x-test.true) (sym e)

pub loop-x-preserved : goal.loop-x-preserved
loop-x-preserved c = record {
  names = c.add.ensures.names ∙ c.loop-x.invariant.names;
  meets = joined_more c.args.edges.now c.loop-x.edges c.add.new.self c.args.a c.args.near.now c.loop-x.x-index c.loop-x-test.true
      c.loop-x.invariant.meets c.in_ok-add.ensures.edges;
}

pub returns-clause-meets : goal.returns-clause-meets
returns-clause-meets c =
    let end : c.loop-x.x-index ≡ length c.args.near.now = omega (arith, c.loop-x-test.false, c.loop-x.auto.x-index-end) in
    let all : take c.loop-x.x-index c.args.near.now ≡ c.args.near.now =
    ap (λ (k : ℕ). take k c.args.near.now) end ∙ take-length c.args.near.now in
    subst (λ (l : List ℕ). (y z : ℕ) → JoinedTo c.args.edges.now c.loop-x.edges c.args.a l y z) all c.loop-x.invariant.meets
