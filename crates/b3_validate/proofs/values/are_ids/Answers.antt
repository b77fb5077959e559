use Rattle.std.proofs.Common.{refl, arith}
use Rattle.b3_rules.specs.Rules.{IsId}
use Rattle.b3_validate.proofs.Loops.{all_more, all_taken, one_fails}
use Rattle.b3_validate.proofs.values.are_ids.Goals as goal

pub returns-then-not-is_id : goal.returns-then-not-is_id
returns-then-not-is_id c p is = one_fails (IsId p.procedure) c.args.ids.now c.loop-id.id-index c.is_id.result (omega arith) (c.is_id.ensures p is) c.if-not-is_id.true

pub loop-id-preserved : goal.loop-id-preserved
loop-id-preserved c p is = all_more (IsId p.procedure) c.args.ids.now c.loop-id.id-index (omega arith) (c.loop-id.invariant p is) ((c.is_id.ensures p is).0 c.if-not-is_id.false)

pub returns : goal.returns
returns c p is = (λ _. all_taken (IsId p.procedure) c.args.ids.now c.loop-id.id-index (omega arith) (c.loop-id.invariant p is), λ _. refl)
