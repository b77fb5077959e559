use Rattle.std.proofs.Common.{arith}
use Rattle.a64_code.specs.Constants.{half_count}
use Rattle.a64_code.proofs.Pushing.{halves_done}
use Rattle.a64_code.proofs.constants.push_halves.Goals as goal

pub returns : goal.returns
returns c =
    halves_done c.args.width c.args.inverted c.args.reg c.args.word c.loop-hw.started (half_count c.args.width) c.loop-hw.hw c.loop-hw.code c.push_filling.new.code _
    c.loop-hw.invariant.within (omega (arith, c.half_count-hw-end.ensures.value)) c.loop-hw.invariant.whole c.in_ok-push_filling.ensures
