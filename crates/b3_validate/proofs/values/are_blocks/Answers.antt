use Rattle.std.proofs.Common.{refl, arith}
use Rattle.b3_rules.specs.Rules.{IsBlockNumber}
use Rattle.b3_validate.proofs.Loops.{all_more, all_taken, one_fails}
use Rattle.b3_validate.proofs.values.are_blocks.Goals as goal

pub returns-then-not-has_block : goal.returns-then-not-has_block
returns-then-not-has_block c p is = one_fails (IsBlockNumber p.procedure) c.args.numbers.now c.loop-number.number-index c.has_block.result (omega arith) (c.has_block.ensures p is) c.if-not-has_block.true

pub loop-number-preserved : goal.loop-number-preserved
loop-number-preserved c p is = all_more (IsBlockNumber p.procedure) c.args.numbers.now c.loop-number.number-index (omega arith) (c.loop-number.invariant p is) ((c.has_block.ensures p is).0 c.if-not-has_block.false)

pub returns : goal.returns
returns c p is = (λ _. all_taken (IsBlockNumber p.procedure) c.args.numbers.now c.loop-number.number-index (omega arith) (c.loop-number.invariant p is), λ _. refl)
