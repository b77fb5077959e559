use Rattle.std.proofs.Common.{◌<◌, ap, arith, length}
use Rattle.b3c_core.proofs.Limits.{limits_there, slots_there}
use Rattle.b3c_chain.proofs.passes.chain_valid.Goals as goal

pub push_procedure-requires-clause-limits : goal.push_procedure-requires-clause-limits
push_procedure-requires-clause-limits c =
    let lt : c.loop-at.at < length c.args.valid.now = omega (arith, ap length c.module.ensures.same, c.procs-at-end.ensures, c.loop-at-test.true) in
    limits_there c.args.valid.now c.loop-at.at lt c.requires

pub push_procedure-requires-clause-slots : goal.push_procedure-requires-clause-slots
push_procedure-requires-clause-slots c =
    let lt : c.loop-at.at < length c.args.valid.now = omega (arith, ap length c.module.ensures.same, c.procs-at-end.ensures, c.loop-at-test.true) in
    slots_there c.args.valid.now c.loop-at.at lt c.requires
