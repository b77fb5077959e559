use Rattle.std.proofs.Common.{◌≡◌, false, length, take, get_or, arith, sym, ap, ◌∙◌}
use Rattle.std.specs.Prelude.{count_by, slice_index_or}
use Rattle.std.proofs.Math.Seq.{take-length}
use Rattle.std.proofs.lemmas.List.Elements.{Contains-get_or}
use Rattle.air_colour.specs.Kept.{has}
use Rattle.air_colour.proofs.Listed.{listed_count}
use Rattle.air_colour.proofs.simplify.degree.Goals as goal

pub bounds-left-b : goal.bounds-left-b
bounds-left-b c =
    let lt = c.near-near.ensures.below (get_or c.near-near.result.now c.loop-b.b-index 0)
    (Contains-get_or c.near-near.result.now c.loop-b.b-index 0 c.loop-b-test.true) in
    omega (arith, lt, c.requires.room.names)

pub returns : goal.returns
returns c =
    let end : c.loop-b.b-index ≡ length c.near-near.result.now = omega (arith, c.loop-b-test.false, c.loop-b.auto.b-index-end) in
    c.loop-b.invariant.counted
    ∙ ap (λ k. count_by (λ b. slice_index_or c.args.left.now b false) (take k c.near-near.result.now)) end
    ∙ ap (count_by (λ b. slice_index_or c.args.left.now b false)) (take-length c.near-near.result.now)
    ∙ sym (listed_count (λ b. slice_index_or c.args.left.now b false) (has c.args.edges.now c.args.a) c.near-near.result.now (length c.args.left.now)
    c.near-near.ensures.is (λ x i. let lt = c.near-near.ensures.below x i in omega (arith, lt, c.requires.room.names)))
