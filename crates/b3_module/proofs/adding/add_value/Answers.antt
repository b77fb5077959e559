use Rattle.std.proofs.Common.{◌+◌, ◌-◌, length, arith, ◌≡◌, ◌≤◌, ap, ◌∙◌}
use Rattle.std.proofs.lemmas.Result.{on_ok_weaker}
use Rattle.b3_ir.specs.Procedure.{Procedure}
use Rattle.b3_module.specs.Texts.{with_value}
use Rattle.b3_module.proofs.LastLemmas.{last_changed, last_is, value_added}
use Rattle.b3_module.proofs.adding.add_value.Goals as goal

pub returns : goal.returns
returns c =
    let n = c.procs-at.result - 1 in
    let old = c.proc_mut-last.result.now in
    let count : c.procs-at.result - 1 + 1 ≡ length c.args.made.now = omega (arith, c.requires.some, c.procs-at.ensures) in
    let last = last_is c.args.made.now n old count c.proc_mut-last.ensures.value in
    let some : 1 ≤ length old.procedure.blocks = omega (arith, ap (λ (p : Procedure). length p.blocks) last, c.requires.blocks) in
    let blocks : c.blocks-block.result - 1 + 1 ≡ length old.procedure.blocks = omega (arith, c.blocks-block.ensures) in
    on_ok_weaker c.push.result (λ ok. last_changed c.args.made.now n old c.push.new.self (with_value c.args.value) count c.proc_mut-last.ensures.value (ok ∙ value_added old.procedure c.args.value (c.blocks-block.result - 1) blocks)) c.push.ensures.ok
