use Rattle.std.proofs.Common.{◌+◌, ◌-◌, length, arith, ◌≡◌}
use Rattle.b3_module.specs.Texts.{with_heading}
use Rattle.b3_module.proofs.LastLemmas.{last_changed}
use Rattle.b3_module.proofs.adding.add_heading.Goals as goal

pub returns : goal.returns
returns c =
    let count : c.procs-last.result - 1 + 1 ≡ length c.args.made.now = omega (arith, c.requires.some, c.procs-last.ensures) in
    last_changed c.args.made.now (c.procs-last.result - 1) c.proc_mut.result.now c.add_block_at.new.self (with_heading c.args.number c.args.line) count c.proc_mut.ensures.value c.in_ok-add_block_at.ensures.ok
