use Rattle.std.proofs.Common.{◌<◌, ap, arith, length}
use Rattle.b3_ir.specs.Procedure.{procedures}
use Rattle.air_select.specs.Contract.{IsWithinLimits, procedure_at}
use Rattle.a64_object.proofs.Joining.{bound_is, joined_more, joined_none, joined_short}
use Rattle.a64_object.proofs.Making.{procedure_there}
use Rattle.a64_object.proofs.Lists.{one_in}
use Rattle.a64_object.specs.Taken.{HasFewSlots}
use Rattle.a64_object.proofs.object.joined_object.Goals as goal

pub loop-at-init : goal.loop-at-init
loop-at-init c = rw (c.new.ensures, c.new-2.ensures, c.new-3.ensures, c.new-4.ensures) (joined_none (procedures c.args.valid.now))

pub push_procedure-requires-clause-limits : goal.push_procedure-requires-clause-limits
push_procedure-requires-clause-limits c =
    let lt : c.loop-at.at < length c.args.valid.now = omega (arith, ap length c.module.ensures.same, c.procs-at-end.ensures, c.loop-at-test.true) in
    one_in IsWithinLimits (procedures c.args.valid.now) c.loop-at.at (procedure_at c.args.valid.now c.loop-at.at)
    (procedure_there c.args.valid.now c.loop-at.at lt) c.requires.limits.each

pub push_procedure-requires-clause-slots : goal.push_procedure-requires-clause-slots
push_procedure-requires-clause-slots c =
    let lt : c.loop-at.at < length c.args.valid.now = omega (arith, ap length c.module.ensures.same, c.procs-at-end.ensures, c.loop-at-test.true) in
    one_in HasFewSlots (procedures c.args.valid.now) c.loop-at.at (procedure_at c.args.valid.now c.loop-at.at)
    (procedure_there c.args.valid.now c.loop-at.at lt) c.requires.limits.slots

pub push_procedure-requires-clause-short : goal.push_procedure-requires-clause-short
push_procedure-requires-clause-short c =
    let ps = procedures c.args.valid.now in
    let short = joined_short ps c.loop-at.at c.loop-at.object c.loop-at.invariant in
    let is = bound_is ps in
    let few = c.requires.named.few in
    let values = c.requires.limits.values in
    let children = c.requires.limits.children in
    omega arith

pub loop-at-preserved : goal.loop-at-preserved
loop-at-preserved c =
    let ps = procedures c.args.valid.now in
    let lt : c.loop-at.at < length c.args.valid.now = omega (arith, ap length c.module.ensures.same, c.procs-at-end.ensures, c.loop-at-test.true) in
    let pushed = c.in_ok-push_procedure.ensures in
    joined_more ps c.loop-at.at (procedure_at c.args.valid.now c.loop-at.at) c.loop-at.object c.push_procedure.new.object pushed.0
    (procedure_there c.args.valid.now c.loop-at.at lt) c.loop-at.invariant pushed.1 pushed.2
