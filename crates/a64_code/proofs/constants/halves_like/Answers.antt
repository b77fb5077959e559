use Rattle.std.proofs.Common.{arith, refl}
use Rattle.a64_code.proofs.Pushing.{halves_more, halves_none}
use Rattle.a64_code.proofs.constants.halves_like.Goals as goal

pub loop-hw-init : goal.loop-hw-init
loop-hw-init c = record { alike = halves_none c.args.word c.args.half; most = omega arith }

pub loop-hw-preserved : goal.loop-hw-preserved
loop-hw-preserved c = record {
  alike = halves_more c.args.word c.args.half c.loop-hw.hw c.loop-hw.alike c.is_like-alike.result _ c.loop-hw.invariant.alike c.is_like-alike.ensures.value refl;
  most = omega arith;
}
