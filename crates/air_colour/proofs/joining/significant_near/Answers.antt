use Rattle.std.proofs.Common.{◌≡◌, ◌&&◌, length, take, get_or, arith, sym, ap, ◌∙◌}
use Rattle.std.specs.Prelude.{count_by}
use Rattle.std.proofs.Math.Seq.{take-length}
use Rattle.std.proofs.lemmas.List.Elements.{Contains-get_or}
use Rattle.air_colour.specs.Interference.{count}
use Rattle.air_colour.specs.Kept.{has, significant_left}
use Rattle.air_colour.proofs.Listed.{count_front, listed_count}
use Rattle.air_colour.proofs.joining.significant_near.Goals as goal

pub counts-requires-clause-x : goal.counts-requires-clause-x
counts-requires-clause-x c =
    let lt = c.near-near.ensures.below (get_or c.near-near.result.now c.loop-x.x-index 0)
    (Contains-get_or c.near-near.result.now c.loop-x.x-index 0 c.loop-x-test.true) in
    omega (arith, lt, c.requires.room.names)

pub returns-then-k-many : goal.returns-then-k-many
returns-then-k-many c =
    let front = count_front (λ x. significant_left c.args.k c.args.edges.now c.args.left.now c.args.fixed.now x) c.near-near.result.now c.loop-x.x-index in
    let all = listed_count (λ x. significant_left c.args.k c.args.edges.now c.args.left.now c.args.fixed.now x)
    (has c.args.edges.now c.args.a) c.near-near.result.now (length c.args.left.now)
    c.near-near.ensures.is (λ x i. let lt = c.near-near.ensures.below x i in omega (arith, lt, c.requires.room.names)) in
    record {
      some = omega (arith, front, all, c.loop-x.invariant.counted);
      all = λ lt. absurd (omega (arith, lt, c.if-k-many.true));
    }

pub returns : goal.returns
returns c =
    let end : c.loop-x.x-index ≡ length c.near-near.result.now = omega (arith, c.loop-x-test.false, c.loop-x.auto.x-index-end) in
    let whole : c.loop-x.many ≡ count (λ x. significant_left c.args.k c.args.edges.now c.args.left.now c.args.fixed.now x
    && has c.args.edges.now c.args.a x) (length c.args.left.now) =
    c.loop-x.invariant.counted
    ∙ ap (λ k. count_by (λ x. significant_left c.args.k c.args.edges.now c.args.left.now c.args.fixed.now x) (take k c.near-near.result.now)) end
    ∙ ap (count_by (λ x. significant_left c.args.k c.args.edges.now c.args.left.now c.args.fixed.now x)) (take-length c.near-near.result.now)
    ∙ sym (listed_count (λ x. significant_left c.args.k c.args.edges.now c.args.left.now c.args.fixed.now x)
    (has c.args.edges.now c.args.a) c.near-near.result.now (length c.args.left.now)
    c.near-near.ensures.is (λ x i. let lt = c.near-near.ensures.below x i in omega (arith, lt, c.requires.room.names))) in
    record { some = omega (arith, whole); all = λ _. whole }
