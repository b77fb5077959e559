use Rattle.std.proofs.Common.{◌-◌, false, length, arith}
use Rattle.std.specs.Prelude.{slice_index_or}
use Rattle.std.proofs.lemmas.Bool.{false≢true, lt-ltb, ltb-true}
use Rattle.air_colour.specs.Joining.{is_significant}
use Rattle.air_colour.specs.Kept.{graph_of, has}
use Rattle.air_colour.proofs.Listed.{split_count}
use Rattle.air_colour.proofs.joining.briggs.Goals as goal

pub returns-then-first-k : goal.returns-then-first-k
returns-then-first-k c =
    let all = split_count (λ x. slice_index_or c.args.left.now x false) (has c.args.edges.now c.args.a) (has c.args.edges.now c.args.b)
    (is_significant c.args.k (graph_of c.args.edges.now c.args.left.now c.args.fixed.now)) (length c.args.left.now) in
    (λ t. absurd (false≢true t), λ lt. absurd (omega (arith, all, lt, c.significant_near-first.ensures.some, c.if-first-k.true)))

pub returns : goal.returns
returns c =
    let all = split_count (λ x. slice_index_or c.args.left.now x false) (has c.args.edges.now c.args.a) (has c.args.edges.now c.args.b)
    (is_significant c.args.k (graph_of c.args.edges.now c.args.left.now c.args.fixed.now)) (length c.args.left.now) in
    let first = c.significant_near-first.ensures.all (omega (arith, c.if-first-k.false)) in (
      λ t.
          let lt = ltb-true c.significant_beyond.result (c.args.k - c.significant_near-first.result) t in
          let beyond = c.significant_beyond.ensures.all lt in
          omega (arith, all, lt, first, beyond, c.if-first-k.false),
      λ lt. lt-ltb c.significant_beyond.result (c.args.k - c.significant_near-first.result)
          (omega (arith, all, lt, first, c.significant_beyond.ensures.some, c.if-first-k.false)),
    )
