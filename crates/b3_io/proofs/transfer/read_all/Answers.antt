use Rattle.std.proofs.Common.{arith, ◌<◌, ◌≤◌}
use Rattle.b3_io.proofs.Streams.{Takes-more, IfErr-fact}
use Rattle.b3_io.proofs.transfer.read_all.Goals as goal

pub returns-then-count-limit-clause-too_long : goal.returns-then-count-limit-clause-too_long
returns-then-count-limit-clause-too_long g c = λ _.
    Takes-more (λ n. c.args.limit < n) _ _ _ _ _ _ c.loop-bytes.invariant.taken
    c.in-Ok.ensures.bytes c.in-Ok.ensures.bound (omega arith)

pub returns-in_err-extend-in-Ok-clause-within : goal.returns-in_err-extend-in-Ok-clause-within
returns-in_err-extend-in-Ok-clause-within g c = IfErr-fact _ _ _
    (Takes-more (λ n. n ≤ c.args.limit) _ _ _ _ _ _ c.loop-bytes.invariant.taken
    c.in-Ok.ensures.bytes c.in-Ok.ensures.bound (omega arith))
