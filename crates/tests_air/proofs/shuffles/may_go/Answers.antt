use Rattle.std.proofs.Common.{sym, ◌∙◌}
use Rattle.tests_air.proofs.Going.{may-later, may-none, may-not}
use Rattle.tests_air.proofs.shuffles.may_go.Goals as goal

pub returns-then-not-goes_before : goal.returns-then-not-goes_before
returns-then-not-goes_before c = sym (c.loop-first.invariant ∙ may-not c.args.scratch _ _ _ c.in-Some.ensures.cases.0 (sym c.goes_before.ensures ∙ c.if-not-goes_before.true))

pub loop-first-preserved : goal.loop-first-preserved
loop-first-preserved c = c.loop-first.invariant ∙ may-later c.args.scratch _ _ _ c.in-Some.ensures.cases.0 (sym c.goes_before.ensures ∙ c.if-not-goes_before.false)

pub returns : goal.returns
returns c = sym (c.loop-first.invariant ∙ may-none c.args.scratch _ c.in_default.ensures.cases)
