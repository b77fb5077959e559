use Rattle.std.proofs.Common.{◌≡◌, true}
use Rattle.b3_rules.proofs.FixedApart.{fixed_step, outside_from_pairs}
use Rattle.b3_rules.proofs.sites.differ.Goals as goal

pub returns-then-not-is_outside : goal.returns-then-not-is_outside
returns-then-not-is_outside c = (
  λ never. absurd (cc),
  λ pairs.
      let outside = outside_from_pairs c.loop-constraint.fixed c.args.constraints.now c.loop-constraint.constraint-index _
      c.loop-constraint-test.true c.loop-constraint.invariant pairs in
      let yes : c.is_outside.result ≡ true = c.is_outside.ensures.1 outside in
      let not_so = c.if-not-is_outside.true in cc,
)

pub loop-constraint-preserved : goal.loop-constraint-preserved
loop-constraint-preserved c =
    fixed_step c.loop-constraint.fixed c.with_fixed-fixed.result c.args.constraints.now c.loop-constraint.constraint-index _ c.loop-constraint-test.true
    c.loop-constraint.invariant (c.is_outside.ensures.0 c.if-not-is_outside.false) c.with_fixed-fixed.ensures
