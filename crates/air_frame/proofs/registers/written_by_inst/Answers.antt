use Rattle.std.proofs.Common.{arith}
use Rattle.std.proofs.lemmas.Grind.{common_steps}
use Rattle.air_frame.proofs.Targets.{targets_written}
use Rattle.air_frame.proofs.registers.written_by_inst.Goals as goal

pub returns : goal.returns
returns c r below =
    let written = targets_written r c.args.i.now.operands in
    let seen = c.loop-operand.invariant r below in
    rw written (grind (arith, common_steps, seen))
