use Rattle.std.proofs.Common.{ap, ◌∙◌, ◌+◌, count_ones, take, drop, arith}
use Rattle.std.proofs.lemmas.Simd.{fold-sum, map-map}
use lib.Lanes.{sum_l}
use Rattle.bit_rows.proofs.Counting.{sum-ones}
use Rattle.bit_rows.proofs.tally.count_block.Goals as goal

pub returns : goal.returns
returns c =
    fold-sum 0 _ ∙ ap (λ xs. 0 + sum_l xs) (map-map (λ x. x) count_ones (take 4 (drop c.args.at c.args.words.now)))
    ∙ omega (arith, sum-ones c.args.words.now c.args.at 4 c.requires)
