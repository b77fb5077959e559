use Rattle.std.proofs.Common.{arith}
use Rattle.a64_emit.proofs.SwitchPushing.{cases_done, cases_next}
use Rattle.a64_emit.proofs.switched.push_cases.Goals as goal

pub loop-case-preserved : goal.loop-case-preserved
loop-case-preserved c =
    cases_next c.args.width c.args.reg c.args.cases.now c.loop-case.case-index _ c.loop-case.code c.push_compare.new.code c.push.new.self _
    c.loop-case.invariant (omega arith) c.in_ok-push_compare.ensures c.in_ok-push.ensures.ok

pub returns : goal.returns
returns c = cases_done c.args.width c.args.reg c.args.cases.now c.loop-case.case-index c.loop-case.code _ c.loop-case.invariant (omega arith)
