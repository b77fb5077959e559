use Rattle.std.proofs.Common.{◌∙◌, rules}
use Rattle.b3_io.proofs.Streams.{HasSent-more, HasSent-prefix}
use Rattle.b3_io.proofs.transfer.write_all.Goals as goal

pub loop-rest-preserved : goal.loop-rest-preserved
loop-rest-preserved g c = record {
  front = HasSent-more _ _ _ _ _ _ c.loop-rest.invariant.front c.in-Ok.ensures.bytes;
  steady = c.in-Ok.ensures.steady ∙ c.loop-rest.invariant.steady;
}

pub returns-in-Err-clause-prefix : goal.returns-in-Err-clause-prefix
returns-in-Err-clause-prefix g c =
    HasSent-prefix _ _ _ _ _ c.loop-rest.invariant.front (search rules) c.in-Err.ensures.none_taken
