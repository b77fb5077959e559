use Rattle.std.proofs.Common.{◌≡◌, ◌&&◌, not, length, take, get_or, arith, sym, ap, ◌∙◌}
use Rattle.std.specs.Prelude.{count_by}
use Rattle.std.proofs.Math.Seq.{take-length}
use Rattle.std.proofs.lemmas.List.Elements.{Contains-get_or}
use Rattle.air_colour.specs.Interference.{count}
use Rattle.air_colour.specs.Kept.{has, significant_left}
use Rattle.air_colour.proofs.Listed.{count_front, listed_count}
use Rattle.air_colour.proofs.joining.significant_beyond.Goals as goal

pub counts-requires-clause-x : goal.counts-requires-clause-x
counts-requires-clause-x c =
    let lt = c.near-near.ensures.below (get_or c.near-near.result.now c.loop-y.y-index 0)
    (Contains-get_or c.near-near.result.now c.loop-y.y-index 0 c.loop-y-test.true) in
    omega (arith, lt, c.requires.room.names)

pub returns-then-most-many : goal.returns-then-most-many
returns-then-most-many c =
    let front = count_front (λ x. significant_left c.args.k c.args.edges.now c.args.left.now c.args.fixed.now x
    && not (has c.args.edges.now c.args.a x)) c.near-near.result.now c.loop-y.y-index in
    let all = listed_count (λ x. significant_left c.args.k c.args.edges.now c.args.left.now c.args.fixed.now x
    && not (has c.args.edges.now c.args.a x)) (has c.args.edges.now c.args.b) c.near-near.result.now (length c.args.left.now)
    c.near-near.ensures.is (λ x i. let lt = c.near-near.ensures.below x i in omega (arith, lt, c.requires.room.names)) in
    record {
      some = omega (arith, front, all, c.loop-y.invariant.counted);
      all = λ lt. absurd (omega (arith, lt, c.if-most-many.true));
    }

pub returns : goal.returns
returns c =
    let end : c.loop-y.y-index ≡ length c.near-near.result.now = omega (arith, c.loop-y-test.false, c.loop-y.auto.y-index-end) in
    let whole : c.loop-y.many ≡ count (λ x. (significant_left c.args.k c.args.edges.now c.args.left.now c.args.fixed.now x
    && not (has c.args.edges.now c.args.a x)) && has c.args.edges.now c.args.b x) (length c.args.left.now) =
    c.loop-y.invariant.counted
    ∙ ap (λ k. count_by (λ x. significant_left c.args.k c.args.edges.now c.args.left.now c.args.fixed.now x
    && not (has c.args.edges.now c.args.a x)) (take k c.near-near.result.now)) end
    ∙ ap (count_by (λ x. significant_left c.args.k c.args.edges.now c.args.left.now c.args.fixed.now x
    && not (has c.args.edges.now c.args.a x))) (take-length c.near-near.result.now)
    ∙ sym (listed_count (λ x. significant_left c.args.k c.args.edges.now c.args.left.now c.args.fixed.now x
    && not (has c.args.edges.now c.args.a x)) (has c.args.edges.now c.args.b) c.near-near.result.now (length c.args.left.now)
    c.near-near.ensures.is (λ x i. let lt = c.near-near.ensures.below x i in omega (arith, lt, c.requires.room.names))) in
    record { some = omega (arith, whole); all = λ _. whole }
