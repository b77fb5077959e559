use Rattle.std.proofs.Common.{length, arith}
use Rattle.std.proofs.Math.Seq.{take-length}
use Rattle.b3c_core.proofs.ending.write_line.Goals as goal

pub returns-in-Ok : goal.returns-in-Ok
returns-in-Ok g c = record {
  count = length c.args.line.now;
  taken = rw take-length c.in-Ok.ensures.all;
  cause = λ lt. absurd (omega arith);
}
