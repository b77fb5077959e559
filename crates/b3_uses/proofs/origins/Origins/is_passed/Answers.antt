use Rattle.std.proofs.Common.{ℕ, inl, inr, sym, subst}
use Rattle.b3_ir.specs.Procedure.{values_of}
use Rattle.b3_uses.specs.Reversed.{HasDefinition}
use Rattle.b3_uses.proofs.Passing.{passed_above}
use Rattle.b3_uses.proofs.origins.Origins.is_passed.Goals as goal

pub returns-then-source-home : goal.returns-then-source-home
returns-then-source-home c p are done =
    let source = c.in-Some-only_source.source in
    let there : HasDefinition (values_of p source) c.args.id =
    subst (λ (b : ℕ). HasDefinition (values_of p b) c.args.id) (sym c.if-source-home.true)
    (are.homes c.args.id c.in-Some.home.now (sym c.in-Some.ensures.value)) in
    c.loop.invariant.above p are (passed_above p c.args.id c.loop.at source (c.in-Some-only_source.ensures.only p are) (inl there))

pub loop-preserved : goal.loop-preserved
loop-preserved c = record {
  within = c.in-Some-only_source.ensures.within;
  above = λ p are passed. c.loop.invariant.above p are
      (passed_above p c.args.id c.loop.at c.in-Some-only_source.source (c.in-Some-only_source.ensures.only p are) (inr passed));
}
