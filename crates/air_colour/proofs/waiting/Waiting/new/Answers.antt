use Rattle.std.proofs.Common.{arith}
use Rattle.air_colour.proofs.waiting.Waiting.new.Goals as goal

pub invariant_of-result : goal.invariant_of-result
invariant_of-result c = record { below = λ j i. let lt = (c.in_ok-list.ensures j).0 i in omega (arith, lt, c.in_ok-listed.ensures.len) }
