use Rattle.std.proofs.Common.{◌+◌, ◌-◌, length, arith, ◌≡◌, ap}
use Rattle.std.proofs.lemmas.Result.{on_ok_weaker}
use Rattle.b3_ir.specs.Procedure.{Kept}
use Rattle.b3_module.specs.Texts.{with_slot}
use Rattle.b3_module.proofs.LastLemmas.{last_changed}
use Rattle.b3_module.proofs.adding.add_slot.Goals as goal

pub returns : goal.returns
returns c =
    let count : c.procs-last.result - 1 + 1 ≡ length c.args.made.now = omega (arith, c.requires.some, c.procs-last.ensures) in
    on_ok_weaker c.add_slot_at.result (λ ok. last_changed c.args.made.now (c.procs-last.result - 1) c.proc_mut.result.now c.add_slot_at.new.self (with_slot c.args.number c.args.bytes c.args.line) count c.proc_mut.ensures.value (ap (λ (k : Kept). k.procedure) ok)) c.add_slot_at.ensures.ok
