use Rattle.std.proofs.Common.{◌≤◌, subst}
use Rattle.a64_emit.proofs.ShuffleMoves.{copies_added, copy_added}
use Rattle.a64_emit.proofs.shuffles.push_copies.Goals as goal

pub loop-k-preserved : goal.loop-k-preserved
loop-k-preserved c =
    copy_added c.args.frame.now c.args.moves.now c.loop-k.k c.get-one.result.now c.args.code.now c.loop-k.code c.push_copy.new.code c.get-one.ensures
    c.loop-k.invariant c.in_ok-push_copy.ensures

pub returns : goal.returns
returns c =
    copies_added c.args.frame.now c.args.moves.now c.loop-k.k c.args.code.now c.loop-k.code
    (subst (λ n. n ≤ c.loop-k.k) c.len-k-end.ensures c.loop-k-test.false) c.loop-k.invariant
