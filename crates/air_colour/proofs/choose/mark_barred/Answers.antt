use Rattle.std.proofs.Common.{◌≡◌, ℕ, List, get_or, length, take, arith, refl, ◌∙◌, ap, subst}
use Rattle.std.proofs.Math.Seq.{take-length}
use Rattle.std.proofs.lemmas.List.Elements.{Contains-get_or}
use Rattle.air_colour.proofs.Bars.{AreBars, bars_all, bars_more, bars_none}
use Rattle.air_colour.proofs.choose.mark_barred.Goals as goal

pub loop-x-init : goal.loop-x-init
loop-x-init c = record {
  long = refl;
  marked = bars_none c.clear.new.bars c.args.given.now c.near-near.result.now c.clear.ensures.clear;
}

pub bounds-given-x : goal.bounds-given-x
bounds-given-x c =
    let lt = c.near-near.ensures.below (get_or c.near-near.result.now c.loop-x.x-index 0)
    (Contains-get_or c.near-near.result.now c.loop-x.x-index 0 c.loop-x-test.true) in
    omega (arith, lt, c.requires.room.names)

pub loop-x-preserved : goal.loop-x-preserved
loop-x-preserved c = record {
  long = c.mark.ensures.long ∙ c.loop-x.invariant.long;
  marked = bars_more c.loop-x.bars c.mark.new.bars c.args.given.now c.near-near.result.now c.loop-x.x-index c.loop-x-test.true c.mark.ensures.long
      c.loop-x.invariant.marked c.mark.ensures.marked;
}

pub returns-clause-marked : goal.returns-clause-marked
returns-clause-marked c r lt =
    let near : List ℕ = c.near-near.result.now in
    let end : c.loop-x.x-index ≡ length near = omega (arith, c.loop-x-test.false, c.loop-x.auto.x-index-end) in
    let all : take c.loop-x.x-index near ≡ near = ap (λ (k : ℕ). take k near) end ∙ take-length near in
    bars_all c.args.edges.now c.loop-x.bars c.args.given.now near c.args.a c.near-near.ensures.is
    (λ x there. let l = c.near-near.ensures.below x there in omega (arith, l, c.requires.room.names))
    (subst (λ (l : List ℕ). AreBars c.loop-x.bars c.args.given.now l) all c.loop-x.invariant.marked) r (omega arith)
