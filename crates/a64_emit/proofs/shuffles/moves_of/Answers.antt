use Rattle.std.proofs.Common.{◌≤◌, ◌/◌, subst}
use Rattle.a64_emit.proofs.ShuffleMoves.{move_added, moves_added}
use Rattle.a64_emit.proofs.shuffles.moves_of.Goals as goal

pub loop-k-preserved : goal.loop-k-preserved
loop-k-preserved c =
    move_added c.args.operands.now c.loop-k.k c.get-from.result.now c.get-to.result.now c.home_of.result c.loop-k.moves c.push.new.self c.get-from.ensures
    c.get-to.ensures c.home_of.ensures c.loop-k.invariant c.in_ok-push.ensures.ok

pub returns : goal.returns
returns c =
    moves_added c.args.operands.now c.loop-k.k c.loop-k.moves (subst (λ n. n / 2 ≤ c.loop-k.k) c.len-k-end.ensures c.loop-k-test.false) c.loop-k.invariant
