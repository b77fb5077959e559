use Rattle.std.proofs.Common.{◌≡◌, ◌∙◌, ap, arith}
use Rattle.a64_inst.specs.Registers.{registers_of}
use Rattle.a64_run.specs.Kept.{entry_of}
use Rattle.a64_run.specs.Machine.{keeps_registers}
use Rattle.a64_run.proofs.saved.keeps_registers.Goals as goal

pub returns : goal.returns
returns c =
    let last : c.loop-i.i ≡ 11 = omega arith in
    c.loop-i.invariant ∙ ap (keeps_registers (entry_of c.args.e.now) (registers_of c.args.registers.now)) last
